-- What a reason and the IOMMU's answer have in common.
use Rattle.std.proofs.Common.{◌≡◌, ℕ, ◌/◌, nat_lt, Bool, true, false, List, length, Option, None, Some, Result, Ok, Err, if◌then◌else◌, sym, ap, ◌∙◌, subst}
use Rattle.iom_base.specs.Rights.{rw}
use Rattle.iom_base.specs.Sizes.{levels_of, page_size}
use Rattle.iom_base.specs.Tables.{access_fault_of}
use Rattle.iom_base.specs.declared.access.AccessKind.{AccessKind}
use Rattle.iom_base.specs.declared.cause.Cause.{Cause}
use Rattle.iom_device_dir.specs.Located.{located_context}
use Rattle.iom_device_dir.specs.declared.context.Context.{Context}
use Rattle.iom_device_dir.specs.declared.stages.FirstStage.{FirstStage}
use Rattle.iom_device_dir.specs.declared.stages.FirstStage.TheVariants.{Bare, Tables}
use Rattle.iom_device_dir.specs.declared.stages.SecondStage.{SecondStage}
use Rattle.iom_device_dir.specs.declared.stages.SecondStage.TheVariants as second
use Rattle.iom_iommu.specs.Service.{LooksOrWalks, Translates, both_key, cached_for, first_key, own_page, second_key}
use Rattle.iom_registers.specs.declared.directory.DirectoryPointer.{DirectoryPointer}
use Rattle.iom_stage_walk.specs.Both.{plain, ReachesBoth, StopsBoth}
use Rattle.iom_stage_walk.specs.Paths.{ReachesFirst, StopsFirst}
use Rattle.iom_stage_walk.specs.Second.{ReachesSecond, StopsSecond}
use Rattle.iom_stage_walk.specs.declared.walked.Walked.{Walked}
use Rattle.iom_stage_walk.specs.declared.walked.WalkFault.{WalkFault}
use Rattle.iom_stepped_walk.specs.Steps.{TableAnswer}
use Rattle.iom_stepped_walk.specs.declared.next.EntryLoad.{EntryLoad}
use Rattle.iom_tlb.specs.Content.{Key, Translations}
use Rattle.iom_tlb.specs.declared.trans_cache.Translation.{Translation}
use Rattle.iom_walk_loads.proofs.WholeLemmas.{both_is_whole, first_is_whole, locating_is_whole, second_is_whole}
use Rattle.iom_walk_loads.specs.Directory.{locating}
use Rattle.iom_walk_loads.specs.Loads.{made_from}
use Rattle.iom_walk_stops.specs.Stages.{page_of, stages_of, walk_of}
use Rattle.iom_walk_stops.specs.Stops.{EndOfDirectory, EndOfTables}
use Rattle.iom_walk_stops.specs.declared.directory.DirectoryEnd.TheVariants as directory
use Rattle.iom_walk_stops.specs.declared.stages.Stages.{Stages}
use Rattle.iom_walk_stops.specs.declared.stages.Stages.TheVariants.{Both, First, Second}
use Rattle.iom_walk_stops.specs.declared.tables.TablesEnd.{TablesEnd}
use Rattle.iom_walk_stops.specs.declared.tables.TablesEnd.TheVariants as tables
use Rattle.iom_fault_reasons.specs.Reasons.{fault_by, own_reason, reason_by}
use Rattle.iom_fault_reasons.specs.declared.found.ContextSource.{ContextSource}
use Rattle.iom_fault_reasons.specs.declared.found.WhyFault.TheVariants.{OutsideMemory, Untranslated}

-- a fault is none of a cached translation, but of the walk
walk_stops : (sure : Bool) (Reaches : Walked → Type 0) (Stops : WalkFault → Type 0) (key : Key) (old new : Translations) (fault : WalkFault) (found : Option Translation)
    → LooksOrWalks sure found Reaches Stops key old (Err fault) new → Stops fault
walk_stops sure Reaches Stops key old new fault (Some cached) answers =
    absurd (let e : ◌≡◌ {A = Result Translation WalkFault} (Err fault) (Ok cached) = answers.0 in cc)
walk_stops sure Reaches Stops key old new fault None answers = answers.0

-- so it is the answer of the whole walk of the context's stages
pub stages_stop : (sure : Bool) (first_stage : FirstStage) (second_stage : SecondStage) (context : Context) (memory : List (List ℕ)) (address : ℕ) (kind : AccessKind)
    (old new : Translations) (fault : WalkFault) → Translates sure first_stage second_stage context memory address kind old (Err fault) new
    → (stages : Stages) → stages_of first_stage second_stage ≡ Some stages → made_from memory (walk_of (length memory) stages address kind) ≡ Err fault
stages_stop sure Bare second.Bare context memory address kind old new fault answers stages are = absurd (let e : None ≡ Some stages = are in cc)
stages_stop sure (Tables size root) second.Bare context memory address kind old new fault answers stages are =
    let one : Stages = First size root in
    let same : one ≡ stages = cc in
    subst (λ s. made_from memory (walk_of (length memory) s address kind) ≡ Err fault) same
    (((first_is_whole memory (levels_of size) root.number address kind).1 fault).1
    (walk_stops sure (ReachesFirst (levels_of size) memory root.number address kind) (StopsFirst (levels_of size) memory root.number address kind)
    (first_key context address) old new fault (cached_for (old (first_key context address)) kind) answers))
stages_stop sure Bare (second.Tables size root) context memory address kind old new fault answers stages are =
    let one : Stages = Second size (page_of root) in
    let same : one ≡ stages = cc in
    subst (λ s. made_from memory (walk_of (length memory) s address kind) ≡ Err fault) same
    (((second_is_whole memory (levels_of size) root.number address kind).1 fault).1
    (walk_stops sure (ReachesSecond (levels_of size) memory root.number address kind) (StopsSecond (levels_of size) memory root.number address kind)
    (second_key context address) old new fault (cached_for (old (second_key context address)) kind) answers))
stages_stop sure (Tables first_size first) (second.Tables second_size root) context memory address kind old new fault answers stages are =
    let one : Stages = Both first_size first second_size (page_of root) in
    let same : one ≡ stages = cc in
    subst (λ s. made_from memory (walk_of (length memory) s address kind) ≡ Err fault) same
    (((both_is_whole memory (levels_of first_size) (levels_of second_size) first.number root.number address kind).1 fault).1
    (walk_stops sure (ReachesBoth (levels_of first_size) (levels_of second_size) memory first.number root.number address kind)
    (StopsBoth (levels_of first_size) (levels_of second_size) memory first.number root.number address kind)
    (both_key context address) old new fault (cached_for (old (both_key context address)) kind) answers))

-- where no stage translates, it is that of the page of the address itself
pub own_stops : (sure : Bool) (first_stage : FirstStage) (second_stage : SecondStage) (context : Context) (memory : List (List ℕ)) (address : ℕ) (kind : AccessKind)
    (old new : Translations) (fault : WalkFault) → Translates sure first_stage second_stage context memory address kind old (Err fault) new
    → stages_of first_stage second_stage ≡ None → Err fault ≡ own_page memory address kind
own_stops sure Bare second.Bare context memory address kind old new fault answers none = answers.0
own_stops sure (Tables size root) second.Bare context memory address kind old new fault answers none =
    let one : Stages = First size root in
    absurd (let e : Some one ≡ None = none in cc)
own_stops sure Bare (second.Tables size root) context memory address kind old new fault answers none =
    let one : Stages = Second size (page_of root) in
    absurd (let e : Some one ≡ None = none in cc)
own_stops sure (Tables first_size first) (second.Tables second_size root) context memory address kind old new fault answers none =
    let one : Stages = Both first_size first second_size (page_of root) in
    absurd (let e : Some one ≡ None = none in cc)

-- and the reason is that memory has no such frame
pub own_fault : (memory : List (List ℕ)) (address : ℕ) (kind : AccessKind) (fault : WalkFault) → Err fault ≡ own_page memory address kind
    → fault_by kind (own_reason memory address) ≡ Some fault
own_fault memory address kind fault answers = by (nat_lt (address / page_size) (length memory)) answers
  where
    by : (b : Bool)
        → ◌≡◌ {A = Result Translation WalkFault} (Err fault) (if b then Ok (record { frame = address / page_size; rights = rw; order = 0 }) else Err (plain (access_fault_of kind)))
        → fault_by kind (if b then Untranslated (address / page_size) else OutsideMemory) ≡ Some fault
    by true is = absurd cc
    by false is = cc

-- where the whole walk stops with this fault, the reason by its end is that fault's
pub end_fault : (memory : List (List ℕ)) (stages : Stages) (source : ContextSource) (address : ℕ) (kind : AccessKind) (end : TablesEnd) (fault : WalkFault)
    → EndOfTables memory (walk_of (length memory) stages address kind) end → made_from memory (walk_of (length memory) stages address kind) ≡ Err fault
    → fault_by kind (reason_by source end) ≡ Some fault
end_fault memory stages source address kind (tables.Reaches walked) fault ends stops =
    absurd (let e : ◌≡◌ {A = TableAnswer} (Ok walked) (Err fault) = sym ends ∙ stops in cc)
end_fault memory stages source address kind (tables.StopsUnread fault') fault ends stops =
    let e : ◌≡◌ {A = TableAnswer} (Err fault') (Err fault) = sym (ap (made_from memory) (ends.0)) ∙ stops in cc
end_fault memory stages source address kind (tables.LacksGuestRoot fault') fault ends stops =
    let e : ◌≡◌ {A = TableAnswer} (Err fault') (Err fault) = sym (ap (made_from memory) (ends.0)) ∙ stops in cc
end_fault memory stages source address kind (tables.StopsAt load flaw fault') fault ends stops =
    let e : ◌≡◌ {A = TableAnswer} (Err fault') (Err fault) = sym ends.made ∙ stops in cc

-- where the directory has no context, for this cause
pub directory_end : (memory : List (List ℕ)) (ddtp : DirectoryPointer) (id : ℕ) (load : EntryLoad) (cause : Cause)
    → EndOfDirectory memory (locating ddtp id) (directory.StopsAt load cause) → located_context memory ddtp id ≡ Err cause
directory_end memory ddtp id load cause ends = sym (locating_is_whole memory ddtp id) ∙ ends.made

-- where it has one
pub directory_finds : (memory : List (List ℕ)) (ddtp : DirectoryPointer) (id : ℕ) (context : Context)
    → EndOfDirectory memory (locating ddtp id) (directory.Finds context) → located_context memory ddtp id ≡ Ok context
directory_finds memory ddtp id context ends = sym (locating_is_whole memory ddtp id) ∙ ends

-- What the IOMMU's service means in a sound world: an access is translated to what its device holds, and faults by how it is attached.
use Rattle.std.proofs.Common.{zero, suc, ◌≡◌, ◌+◌, ◌*◌, ◌/◌, ◌%◌, ◌^◌, ◌<◌, ◌≤◌, ◌∙◌, ◌⊎◌, inl, inr, ℕ, Bool, true, false, List, [], length, slice_get, Option, Some, None, Result, Ok, Err, option_map, is_some, nat_le, nat_lt, refl, sym, ap, subst, arith, if◌then◌else◌}
use Rattle.std.proofs.lemmas.Bool.{leb-false, leb-true, lt-leb, le-leb}
use Rattle.iom_walk_coherence.specs.Walks.{Walk}
use Rattle.iom_base.specs.declared.access.AccessKind.{AccessKind}
use Rattle.iom_base.specs.declared.cause.Cause.{Cause}
use Rattle.iom_base.specs.declared.cause.Cause.TheVariants.{DirectoryEntryNotValid, TransactionTypeDisallowed}
use Rattle.iom_base.specs.declared.mode.Mode.{Mode}
use Rattle.iom_base.specs.declared.mode.Mode.TheVariants.{First, Second, Both}
use Rattle.iom_base.specs.declared.owner.Owner.{Owner}
use Rattle.iom_base.specs.declared.owner.Owner.TheVariants.{OneDevice}
use Rattle.iom_base.specs.declared.rights.Rights.{Rights}
use Rattle.iom_base.specs.Rights.{allows}
use Rattle.iom_base.specs.Modes.{size_in}
use Rattle.iom_base.specs.Sizes.{levels_of}
use Rattle.iom_base.specs.declared.size.Size.{Size}
use Rattle.iom_base.specs.declared.size.Size.TheVariants.{Sv39, Sv48}
use Rattle.iom_device_dir.specs.declared.context.Context.{Context}
use Rattle.iom_device_dir.specs.Located.{located_context, path_end_from}
use Rattle.iom_device_dir.specs.Paths.{ids_below, fits_directory}
use Rattle.iom_directory_build.specs.Laws.{LawfulEnds, IsModeOf}
use Rattle.iom_directory_build.specs.Pages.{root_level}
use Rattle.iom_driver.specs.declared.device.Attachment.{Attachment}
use Rattle.iom_driver.specs.declared.device.Attachment.TheVariants.{Detached, Attached, Quarantined, Leaving}
use Rattle.iom_driver.specs.declared.device.Stages.{Stages}
use Rattle.iom_driver.specs.Devices.{attachment_by_id, stages_of, owned_stages_of, attached_stages, owned_stages}
use Rattle.iom_driver.specs.Directory.{context_in, context_for, located_for, mode_of, NamesDirectory}
use Rattle.iom_driver.specs.Layout.{IsLevels, directory_frame}
use Rattle.iom_base.specs.DeviceIds.{id_limit}
use Rattle.iom_driver.specs.State.{DriverState}
use Rattle.iom_driver.specs.Tables.{AreTablesOf}
use Rattle.iom_driver.proofs.Lists.{get_within}
use Rattle.iom_iommu.specs.Parts.{registers_of, contexts_of}
use Rattle.iom_iommu.specs.Service.{Serves, ServesBy, ServesIn, LooksOrWalks, Walks, cached_for, translation_of, found_context, context_or_cause}
use Rattle.iom_tlb.specs.declared.space.Space.TheVariants as space
use Rattle.iom_tlb.specs.declared.trans_cache.Translation.{Translation}
use Rattle.iom_tlb.specs.Content.{Translations, TranslationsUnchanged, Keeps}
use Rattle.iom_ledger.specs.declared.ledger.Ledger.{Ledger}
use Rattle.iom_ledger.specs.History.{Pair}
use Rattle.iom_ledger.specs.Shown.{held_in}
use Rattle.iom_machine.specs.Requests.{IsPageFaultOf}
use Rattle.iom_page_table.specs.FirstTables.{HasTable}
use Rattle.iom_registers.specs.declared.registers.Registers.{Registers}
use Rattle.iom_stage_walk.specs.declared.walked.WalkFault.{WalkFault}
use Rattle.iom_stage_walk.specs.Both.{ReachesBoth, StopsBoth, plain}
use Rattle.iom_stage_walk.specs.Paths.{ReachesFirst, StopsFirst}
use Rattle.iom_stage_walk.specs.Second.{ReachesSecond, StopsSecond}
use Rattle.iom_world_effects.specs.Parts.{Parts}
use Rattle.iom_world_effects.specs.Invariant.{InvariantWith}
use Rattle.iom_world_effects.specs.Read.{space_in}
use Rattle.iom_world_effects.proofs.QuarantinedLemmas.{IsPending, pending_cached}
use Rattle.iom_world_effects.proofs.DriverLemmas.{DriverInvariant}
use Rattle.iom_world_effects.proofs.SceneSteps.{HoldsWalked}
use Rattle.iom_world_effects.proofs.WalkLemmas.{WalkLaws, ReachesBy, StopsBy, FaultsBy, reached, stopped}

-- the laws of the layers below, which callers have from their functions
pub record ServiceLaws : Type 0 where
  pub ends : LawfulEnds
  pub walks : WalkLaws

-- the cause where there is no context: the directory can't name the id, or its entry isn't valid
abbrev pub cause_at : ℕ → ℕ → Cause
cause_at levels id = if nat_le (id_limit levels) id then TransactionTypeDisallowed else DirectoryEntryNotValid

-- of an attached device, what is held is reached by a walk, and kept
pub record ReachesHeld (sure : Bool) (d : DriverState) (id address : ℕ) (kind : AccessKind) (old : Translations) (answer : Translation) (new : Translations) : Type 0 where
  pub stage : Stages
  pub attached : attachment_by_id d.devices id ≡ Attached stage
  pub translation : Translation
  pub answer_is : answer ≡ translation
  pub held : HoldsWalked d.ledger stage.mode id (address / 4096) translation
  pub allowed : allows translation.rights kind ≡ true
  pub kept : Keeps sure old (space_in stage.mode stage.number, address / 4096) translation new

-- of an attached or leaving device, or of one that is quarantined under a ticket that isn't confirmed, a cached translation is found
pub record FindsCached (d : DriverState) (id address : ℕ) (kind : AccessKind) (old : Translations) (answer : Translation) (new : Translations) : Type 0 where
  pub stage : Stages
  pub owned : owned_stages_of d.devices id ≡ Some stage
  pub pending : IsPending d id
  pub translation : Translation
  pub answer_is : answer ≡ translation
  pub cached : old (space_in stage.mode stage.number, address / 4096) ≡ Some translation
  pub allowed : allows translation.rights kind ≡ true
  pub unchanged : TranslationsUnchanged old new

-- by how the device is attached
abbrev pub FaultsAs : Attachment → DriverState → ℕ → ℕ → AccessKind → Cause → Type 0
FaultsAs Detached d id address kind cause = cause ≡ cause_at d.levels id
FaultsAs (Attached stage) d id address kind cause = FaultsBy stage.mode d.ledger id (address / 4096) kind cause
FaultsAs (Quarantined ticket stage) d id address kind cause = ((d.confirmed < ticket) × IsPageFaultOf stage.mode kind cause) ⊎ (cause ≡ cause_at d.levels id)
FaultsAs (Leaving ticket stage) d id address kind cause = IsPageFaultOf stage.mode kind cause ⊎ (cause ≡ cause_at d.levels id)

abbrev pub IsAnswered : Bool → DriverState → ℕ → ℕ → AccessKind → Translations → Result Translation WalkFault → Translations → Type 0
IsAnswered sure d id address kind old (Ok answer) new = ReachesHeld sure d id address kind old answer new ⊎ FindsCached d id address kind old answer new
IsAnswered sure d id address kind old (Err fault) new = FaultsAs (attachment_by_id d.devices id) d id address kind fault.cause × TranslationsUnchanged old new

-- a page fault of the mode
page_fault_by : (mode : Mode) (ledger : Ledger) (id page : ℕ) (kind : AccessKind) (cause : Cause) → FaultsBy mode ledger id page kind cause → IsPageFaultOf mode kind cause
page_fault_by (First size) ledger id page kind cause faults = faults.0
page_fault_by (Second size) ledger id page kind cause faults = faults.0
page_fault_by (Both size) ledger id page kind cause faults = faults

-- a root is a frame of memory
pub root_low : (memory : List (List ℕ)) (owners : List (Option Owner)) (ledger : Ledger) (id : ℕ) (mode : Mode) (root : ℕ) → AreTablesOf memory owners ledger id mode root → root < length owners
root_low memory owners ledger id mode root tables = get_within owners root (Some (OneDevice id)) (by mode tables)
  where
    here : (size : Size) → HasTable size memory root root
    here Sv39 = ([], 0, 512 * root + 0, (root, (omega arith, tt), refl, refl), omega arith)
    here Sv48 = ([], 0, 512 * root + 0, (root, (omega arith, tt), refl, refl), omega arith)

    by : (m : Mode) → AreTablesOf memory owners ledger id m root → slice_get owners root ≡ Some (Some (OneDevice id))
    by (First size) tables = tables.own root (here size)
    by (Second size) tables = tables.own root (inl (here size))
    by (Both size) tables = tables.own root (inl (here size))

-- and that of a second stage is aligned
pub root_aligned : (memory : List (List ℕ)) (owners : List (Option Owner)) (ledger : Ledger) (id : ℕ) (mode : Mode) (root : ℕ) → AreTablesOf memory owners ledger id mode root
    → (mode ≡ First (size_in mode)) ⊎ (root % 4 ≡ 0)
root_aligned memory owners ledger id (First size) root tables = inl refl
root_aligned memory owners ledger id (Second size) root tables = inr tables.tree.1
root_aligned memory owners ledger id (Both size) root tables = inr tables.tree.1

-- a context of a device names its space, and its walk
abbrev IsLookedIn : Bool → Mode → (memory : List (List ℕ)) → (root number address : ℕ) → AccessKind → Translations → Result Translation WalkFault → Translations → Type 0
IsLookedIn sure mode memory root number address kind old answer new =
    LooksOrWalks sure (cached_for (old (space_in mode number, address / 4096)) kind) (ReachesBy mode memory root address kind) (StopsBy mode memory root address kind)
    (space_in mode number, address / 4096) old answer new

looked_by : (sure : Bool) (mode : Mode) (ats : Bool) (memory : List (List ℕ)) (root number address : ℕ) (kind : AccessKind) (old : Translations) (answer : Result Translation WalkFault) (new : Translations)
    → root < 2 ^ 44 → number < 2 ^ 20 → (mode ≡ First (size_in mode)) ⊎ (root % 4 ≡ 0) → ServesBy sure (Ok (context_in mode root number ats)) memory address kind old answer new
    → IsLookedIn sure mode memory root number address kind old answer new
looked_by sure (First size) ats memory root number address kind old answer new low few aligned served =
    let at : root / 2 ^ 0 % 2 ^ 44 ≡ root = omega (arith, low) in
    let named : number / 2 ^ 0 % 2 ^ 20 ≡ number = omega (arith, few) in
    subst (λ n. LooksOrWalks sure (cached_for (old (space.First number, address / 4096)) kind) (ReachesFirst (levels_of size) memory n address kind) (StopsFirst (levels_of size) memory n address kind)
    (space.First number, address / 4096) old answer new) at
    (subst (λ n. LooksOrWalks sure (cached_for (old (space.First n, address / 4096)) kind) (ReachesFirst (levels_of size) memory (root / 2 ^ 0 % 2 ^ 44) address kind)
    (StopsFirst (levels_of size) memory (root / 2 ^ 0 % 2 ^ 44) address kind) (space.First n, address / 4096) old answer new) named served)
looked_by sure (Second size) ats memory root number address kind old answer new low few (inl first) served = cc
looked_by sure (Second size) ats memory root number address kind old answer new low few (inr aligned) served =
    let at : 4 * (root / 4 % 2 ^ 42) ≡ root = omega (arith, low, aligned) in
    subst (λ n. LooksOrWalks sure (cached_for (old (space.Second number, address / 4096)) kind) (ReachesSecond (levels_of size) memory n address kind) (StopsSecond (levels_of size) memory n address kind)
    (space.Second number, address / 4096) old answer new) at served
looked_by sure (Both size) ats memory root number address kind old answer new low few (inl first) served = cc
looked_by sure (Both size) ats memory root number address kind old answer new low few (inr aligned) served =
    let at : 4 * (root / 4 % 2 ^ 42) ≡ root = omega (arith, low, aligned) in
    let named : number / 2 ^ 0 % 2 ^ 20 ≡ number = omega (arith, few) in
    subst (λ n. LooksOrWalks sure (cached_for (old (space.Both number number, address / 4096)) kind) (ReachesBoth (levels_of size) (levels_of size) memory 0 n address kind)
    (StopsBoth (levels_of size) (levels_of size) memory 0 n address kind) (space.Both number number, address / 4096) old answer new) at
    (subst (λ n. LooksOrWalks sure (cached_for (old (space.Both number n, address / 4096)) kind) (ReachesBoth (levels_of size) (levels_of size) memory 0 (4 * (root / 4 % 2 ^ 42)) address kind)
    (StopsBoth (levels_of size) (levels_of size) memory 0 (4 * (root / 4 % 2 ^ 42)) address kind) (space.Both number n, address / 4096) old answer new) named served)

-- the mode of the levels is that of a directory whose root has this level, and each device is served by its context
is_mode : (levels : ℕ) → IsLevels levels → IsModeOf (mode_of levels) (root_level levels)
is_mode zero range = absurd (let low = range.0 in omega (arith, low))
is_mode (suc zero) range = refl
is_mode (suc (suc zero)) range = refl
is_mode (suc (suc (suc zero))) range = refl
is_mode (suc (suc (suc (suc n)))) range = absurd (let high = range.1 in omega (arith, high))

served_in : (sure : Bool) (levels : ℕ) → IsLevels levels → (found : Result Context Cause) (memory : List (List ℕ)) (address : ℕ) (kind : AccessKind) (old : Translations) (answer : Result Translation WalkFault)
    (new : Translations) → ServesIn sure (mode_of levels) found memory address kind old answer new → ServesBy sure found memory address kind old answer new
served_in sure zero range found memory address kind old answer new is = absurd (let low = range.0 in omega (arith, low))
served_in sure (suc zero) range found memory address kind old answer new is = is
served_in sure (suc (suc zero)) range found memory address kind old answer new is = is
served_in sure (suc (suc (suc zero))) range found memory address kind old answer new is = is
served_in sure (suc (suc (suc (suc n)))) range found memory address kind old answer new is = absurd (let high = range.1 in omega (arith, high))

room_for_ids : (levels : ℕ) → IsLevels levels → ids_below (root_level levels) ≡ id_limit levels
room_for_ids zero range = absurd (let low = range.0 in omega (arith, low))
room_for_ids (suc zero) range = refl
room_for_ids (suc (suc zero)) range = refl
room_for_ids (suc (suc (suc zero))) range = refl
room_for_ids (suc (suc (suc (suc n)))) range = absurd (let high = range.1 in omega (arith, high))

-- and as many ids fit it
fits_levels : (levels : ℕ) → IsLevels levels → (id : ℕ) → fits_directory (mode_of levels) id ≡ nat_lt id (id_limit levels)
fits_levels zero range id = absurd (let low = range.0 in omega (arith, low))
fits_levels (suc zero) range id = refl
fits_levels (suc (suc zero)) range id = refl
fits_levels (suc (suc (suc zero))) range id = refl
fits_levels (suc (suc (suc (suc n)))) range id = absurd (let high = range.1 in omega (arith, high))

-- what the directory has for a device, by the stage that it is attached in
abbrev pub located_as : ℕ → ℕ → Option Stages → Result Context Cause
located_as levels id None = Err (cause_at levels id)
located_as levels id (Some stage) = Ok (context_for stage)

pub attached_owns : (a : Attachment) (stage : Stages) → attached_stages a ≡ Some stage → owned_stages a ≡ Some stage
attached_owns Detached stage at = at
attached_owns (Attached own) stage at = at
attached_owns (Quarantined ticket own) stage at = cc
attached_owns (Leaving ticket own) stage at = cc

module _ {walks : List Walk} (laws : ServiceLaws) (parts : Parts) (events : ℕ) (invariants : InvariantWith walks parts events) (own : DriverInvariant parts.driver) where
  abbrev d : DriverState
  d = parts.driver

  abbrev r : Registers
  r = registers_of parts.iommu

  names : NamesDirectory (length parts.memory) parts.driver.levels (registers_of parts.iommu)
  names = invariants.ready.directory invariants.started

  located_at : (id : ℕ) → located_context parts.memory r.ddtp id
      ≡ (if nat_lt id (id_limit d.levels) then path_end_from parts.memory (root_level d.levels) (directory_frame (length parts.memory)) id else Err TransactionTypeDisallowed)
  located_at id =
      laws.ends parts.memory r.ddtp (root_level d.levels) id (subst (λ m. IsModeOf m (root_level d.levels)) (sym names.mode) (is_mode d.levels own.sizes.in_range))
      ∙ ap (λ n. if nat_lt id n then path_end_from parts.memory (root_level d.levels) r.ddtp.ppn id else Err TransactionTypeDisallowed) (room_for_ids d.levels own.sizes.in_range)
      ∙ ap (λ n. if nat_lt id (id_limit d.levels) then path_end_from parts.memory (root_level d.levels) n id else Err TransactionTypeDisallowed) names.root

  -- an id that the directory can't name is of no attached device
  located_low : (id : ℕ) → id < id_limit d.levels → (stage : Option Stages) → located_for stage ≡ located_as d.levels id stage
  located_low id low None = rw (lt-leb (id_limit d.levels) id low) refl
  located_low id low (Some stage) = refl

  located_high : (id : ℕ) → id_limit d.levels ≤ id → (stage : Option Stages) → stages_of d.devices id ≡ stage → Err TransactionTypeDisallowed ≡ located_as d.levels id stage
  located_high id high None is = rw (le-leb (id_limit d.levels) id high) refl
  located_high id high (Some stage) is =
      let low = own.named id stage (attached_owns (attachment_by_id d.devices id) stage is) in absurd (omega (arith, low, high))

  pub located : (id : ℕ) → located_context parts.memory (registers_of parts.iommu).ddtp id ≡ located_as parts.driver.levels id (stages_of parts.driver.devices id)
  located id = located_at id ∙ by (nat_lt id (id_limit d.levels)) refl
    where
      by : (b : Bool) → nat_lt id (id_limit d.levels) ≡ b
          → (if b then path_end_from parts.memory (root_level d.levels) (directory_frame (length parts.memory)) id else Err TransactionTypeDisallowed)
          ≡ located_as d.levels id (stages_of d.devices id)
      by true is =
          let low : id < id_limit d.levels = leb-true (suc id) (id_limit d.levels) is in
          (invariants.ready.stand.directory invariants.started).contexts id (subst (λ n. id < n) (sym (room_for_ids d.levels own.sizes.in_range)) low)
          ∙ located_low id low (stages_of d.devices id)
      by false is =
          let high : id_limit d.levels < suc id = leb-false (suc id) (id_limit d.levels) is in
          located_high id (omega (arith, high)) (stages_of d.devices id) refl

  -- the context that is found: that of the directory, or a cached one, which is true: its device has stages, and so no id that is too wide
  pub found_as : (id : ℕ) → context_or_cause parts.memory (registers_of parts.iommu) (contexts_of parts.iommu) id
      ≡ found_context (contexts_of parts.iommu id) (located_as parts.driver.levels id (stages_of parts.driver.devices id))
  found_as id =
      ap (λ b. if b then found_context (contexts_of parts.iommu id) (located_context parts.memory r.ddtp id) else Err TransactionTypeDisallowed)
      (ap (λ m. fits_directory m id) names.mode ∙ fits_levels d.levels own.sizes.in_range id)
      ∙ by (nat_lt id (id_limit d.levels)) refl (contexts_of parts.iommu id) (λ context is. invariants.contexts id context is)
    where
      too_wide : (stages : Option Stages) (context : Context) → owned_stages_of d.devices id ≡ stages → option_map context_for stages ≡ Some context → id_limit d.levels < suc id → ⊥
      too_wide None context is owned high = cc
      too_wide (Some stage) context is owned high = let low = own.named id stage is in omega (arith, low, high)

      by : (b : Bool) → nat_lt id (id_limit d.levels) ≡ b → (cached : Option Context)
          → ((context : Context) → cached ≡ Some context → option_map context_for (owned_stages_of d.devices id) ≡ Some context)
          → (if b then found_context cached (located_context parts.memory r.ddtp id) else Err TransactionTypeDisallowed)
          ≡ found_context cached (located_as d.levels id (stages_of d.devices id))
      by true is cached true_for = ap (found_context cached) (located id)
      by false is None true_for =
          let high : id_limit d.levels < suc id = leb-false (suc id) (id_limit d.levels) is in
          located_high id (omega (arith, high)) (stages_of d.devices id) refl
      by false is (Some context) true_for =
          absurd (too_wide (owned_stages_of d.devices id) context refl (true_for context refl) (leb-false (suc id) (id_limit d.levels) is))

  -- the frame of what is held is one of memory
  pub held_inside : (id page frame : ℕ) (rights : Rights) → held_in parts.driver.ledger id page ≡ Some (frame, rights) → frame < length parts.memory
  held_inside id page frame rights held =
      subst (λ n. frame < n) (sym invariants.ready.stand.size) (get_within d.owners frame None (own.grants.held id page frame rights held).unreserved)

  module _ (id address : ℕ) (kind : AccessKind) (fits : address < 2 ^ 64) (sure : Bool) (old new : Translations) where
    low_page : address / 4096 < 2 ^ 52
    low_page = omega (arith, fits)

    tables_of : (stage : Stages) → owned_stages_of d.devices id ≡ Some stage → AreTablesOf parts.memory d.owners d.ledger id stage.mode stage.root
    tables_of stage owned = invariants.ready.stand.tables id stage owned

    -- by a context of its stages an attached or leaving device is served from the cache, or by a walk
    abbrev IsLooked : Stages → Result Translation WalkFault → Type 0
    IsLooked stage answer = IsLookedIn sure stage.mode parts.memory stage.root stage.number address kind old answer new

    abbrev IsWalked : Stages → Result Translation WalkFault → Type 0
    IsWalked stage answer =
        Walks sure (ReachesBy stage.mode parts.memory stage.root address kind) (StopsBy stage.mode parts.memory stage.root address kind)
        (space_in stage.mode stage.number, address / 4096) old answer new

    abbrev LooksAt : Stages → Result Translation WalkFault → Option Translation → Type 0
    LooksAt stage answer cached =
        LooksOrWalks sure cached (ReachesBy stage.mode parts.memory stage.root address kind) (StopsBy stage.mode parts.memory stage.root address kind)
        (space_in stage.mode stage.number, address / 4096) old answer new

    from_tables : (stage : Stages) (answer : Result Translation WalkFault) → owned_stages_of d.devices id ≡ Some stage
        → ServesBy sure (Ok (context_for stage)) parts.memory address kind old answer new → IsLooked stage answer
    from_tables stage answer owned served =
        let tables = tables_of stage owned in
        let below = root_low parts.memory d.owners d.ledger id stage.mode stage.root tables in
        let many = own.sizes.size.1 in
        let few = (own.numbers.small id stage owned).1 in
        looked_by sure stage.mode stage.ats parts.memory stage.root stage.number address kind old answer new (omega (arith, below, many)) (omega (arith, few))
        (root_aligned parts.memory d.owners d.ledger id stage.mode stage.root tables) served

    by_tables : (stage : Stages) (answer : Result Translation WalkFault) → attachment_by_id d.devices id ≡ Attached stage → IsWalked stage answer → IsAnswered sure d id address kind old answer new
    by_tables stage (Ok answer) attached (walked, reaches, same, kept) =
        let held = reached laws.walks parts.memory d.owners d.ledger id stage.mode stage.root (tables_of stage (ap owned_stages attached)) (held_inside id) address kind low_page walked reaches in
        inl (record { stage = stage; attached = attached; translation = translation_of walked; answer_is = same; held = held.0; allowed = held.1; kept = kept })
    by_tables stage (Err fault) attached (stops, unchanged) = (
      subst (λ a. FaultsAs a d id address kind fault.cause) (sym attached)
          (stopped laws.walks parts.memory d.owners d.ledger id stage.mode stage.root (tables_of stage (ap owned_stages attached)) (held_inside id) address kind low_page fault stops),
      unchanged,
    )

    -- a device that is quarantined or leaves holds nothing
    none_reached : (stage : Stages) (answer : Result Translation WalkFault) → owned_stages_of d.devices id ≡ Some stage → stages_of d.devices id ≡ None
        → ((cause : Cause) → IsPageFaultOf stage.mode kind cause → FaultsAs (attachment_by_id d.devices id) d id address kind cause)
        → IsWalked stage answer → IsAnswered sure d id address kind old answer new
    none_reached stage (Ok answer) owned away faults (walked, reaches, same, kept) =
        let held = reached laws.walks parts.memory d.owners d.ledger id stage.mode stage.root (tables_of stage owned) (held_inside id) address kind low_page walked reaches in
        let none = own.holders id held.0.0 away in
        absurd (none_some walked.frame held.0.1 (sym none ∙ held.0.3))
      where
        none_some : (frame : ℕ) (rights : Rights) → ◌≡◌ {A = Option Pair} None (Some (frame, rights)) → ⊥
        none_some frame rights same = cc
    none_reached stage (Err fault) owned away faults (stops, unchanged) = (
      faults fault.cause (page_fault_by stage.mode d.ledger id (address / 4096) kind fault.cause
          (stopped laws.walks parts.memory d.owners d.ledger id stage.mode stage.root (tables_of stage owned) (held_inside id) address kind low_page fault stops)),
      unchanged,
    )

    -- what is cached serves where its right allows the kind; else there is a walk
    by_cache : (stage : Stages) (answer : Result Translation WalkFault) → owned_stages_of d.devices id ≡ Some stage → IsPending d id
        → (IsWalked stage answer → IsAnswered sure d id address kind old answer new) → IsLooked stage answer → IsAnswered sure d id address kind old answer new
    by_cache stage answer owned pending walks looked = by (old (space_in stage.mode stage.number, address / 4096)) refl looked
      where
        finds : (translation : Translation) → old (space_in stage.mode stage.number, address / 4096) ≡ Some translation → allows translation.rights kind ≡ true
            → (answer : Result Translation WalkFault) → answer ≡ Ok translation → TranslationsUnchanged old new → IsAnswered sure d id address kind old answer new
        finds translation at allowed (Ok found) same unchanged = inr (record {
          stage = stage;
          owned = owned;
          pending = pending;
          translation = translation;
          answer_is = ok_same found translation same;
          cached = at;
          allowed = allowed;
          unchanged = unchanged;
        })
          where
            ok_same : (x y : Translation) → ◌≡◌ {A = Result Translation WalkFault} (Ok x) (Ok y) → x ≡ y
            ok_same x y same = cc
        finds translation at allowed (Err fault) same unchanged = cc

        by : (o : Option Translation) → old (space_in stage.mode stage.number, address / 4096) ≡ o → LooksAt stage answer (cached_for o kind) → IsAnswered sure d id address kind old answer new
        by None at it = walks it
        by (Some translation) at it = allow (allows translation.rights kind) refl it
          where
            allow : (b : Bool) → allows translation.rights kind ≡ b → LooksAt stage answer (if b then Some translation else None) → IsAnswered sure d id address kind old answer new
            allow true allowed (same, unchanged) = finds translation at allowed answer same unchanged
            allow false allowed it = walks it

    -- without a context
    no_context : (a : Attachment) (answer : Result Translation WalkFault) → attachment_by_id d.devices id ≡ a
        → ((cause : Cause) → cause ≡ cause_at d.levels id → FaultsAs a d id address kind cause)
        → answer ≡ Err (plain (cause_at d.levels id)) → TranslationsUnchanged old new → IsAnswered sure d id address kind old answer new
    no_context a (Ok answer) is faults same unchanged = cc
    no_context a (Err fault) is faults same unchanged =
        let c : fault ≡ plain (cause_at d.levels id) = cc in
        (subst (λ a. FaultsAs a d id address kind fault.cause) (sym is) (faults fault.cause (ap (λ (f : WalkFault). f.cause) c)), unchanged)

    -- by the context of its stages, of a device that is attached, of one that is quarantined, and of one that leaves
    pub of_attached : (stage : Stages) (answer : Result Translation WalkFault) → attachment_by_id parts.driver.devices id ≡ Attached stage
        → ServesBy sure (Ok (context_for stage)) parts.memory address kind old answer new → IsAnswered sure parts.driver id address kind old answer new
    of_attached stage answer is served =
        by_cache stage answer (ap owned_stages is) (λ ticket other at. absurd (never ticket other (sym is ∙ at))) (by_tables stage answer is) (from_tables stage answer (ap owned_stages is) served)
      where
        never : (ticket : ℕ) (other : Stages) → Attached stage ≡ Quarantined ticket other → ⊥
        never ticket other same = cc

    pub of_quarantined : (ticket : ℕ) (stage : Stages) (answer : Result Translation WalkFault) → attachment_by_id parts.driver.devices id ≡ Quarantined ticket stage → IsPending parts.driver id
        → ServesBy sure (Ok (context_for stage)) parts.memory address kind old answer new → IsAnswered sure parts.driver id address kind old answer new
    of_quarantined ticket stage answer is pending served =
        by_cache stage answer (ap owned_stages is) pending
        (none_reached stage answer (ap owned_stages is) (ap attached_stages is)
        (λ cause fault. subst (λ a. FaultsAs a d id address kind cause) (sym is) (inl (pending ticket stage is, fault))))
        (from_tables stage answer (ap owned_stages is) served)

    pub of_leaving : (ticket : ℕ) (stage : Stages) (answer : Result Translation WalkFault) → attachment_by_id parts.driver.devices id ≡ Leaving ticket stage
        → ServesBy sure (Ok (context_for stage)) parts.memory address kind old answer new → IsAnswered sure parts.driver id address kind old answer new
    of_leaving ticket stage answer is served =
        by_cache stage answer (ap owned_stages is) (λ t other at. absurd (never t other (sym is ∙ at)))
        (none_reached stage answer (ap owned_stages is) (ap attached_stages is) (λ cause fault. subst (λ a. FaultsAs a d id address kind cause) (sym is) (inl fault)))
        (from_tables stage answer (ap owned_stages is) served)
      where
        never : (t : ℕ) (other : Stages) → Leaving ticket stage ≡ Quarantined t other → ⊥
        never t other same = cc

    -- by how it is attached, and what is cached
    by_attachment : (a : Attachment) (cached : Option Context) (answer : Result Translation WalkFault) → attachment_by_id d.devices id ≡ a
        → ((context : Context) → cached ≡ Some context → option_map context_for (owned_stages a) ≡ Some context) → (is_some cached ≡ true → IsPending d id)
        → ServesBy sure (found_context cached (located_as d.levels id (attached_stages a))) parts.memory address kind old answer new → IsAnswered sure d id address kind old answer new
    by_attachment Detached None answer is true_for pends served = no_context Detached answer is (λ cause same. same) served.0 served.1
    by_attachment Detached (Some context) answer is true_for pends served = let never = true_for context refl in cc
    by_attachment (Attached stage) None answer is true_for pends served = of_attached stage answer is served
    by_attachment (Quarantined ticket stage) None answer is true_for pends served = no_context (Quarantined ticket stage) answer is (λ cause same. inr same) served.0 served.1
    by_attachment (Quarantined ticket stage) (Some context) answer is true_for pends served =
        let both = true_for context refl in
        let same : context ≡ context_for stage = cc in
        of_quarantined ticket stage answer is (pends refl) (subst (λ c. ServesBy sure (Ok c) parts.memory address kind old answer new) same served)
    by_attachment (Attached stage) (Some context) answer is true_for pends served =
        let both = true_for context refl in
        let same : context ≡ context_for stage = cc in
        of_attached stage answer is (subst (λ c. ServesBy sure (Ok c) parts.memory address kind old answer new) same served)
    by_attachment (Leaving ticket stage) None answer is true_for pends served = no_context (Leaving ticket stage) answer is (λ cause same. inr same) served.0 served.1
    by_attachment (Leaving ticket stage) (Some context) answer is true_for pends served =
        let both = true_for context refl in
        let same : context ≡ context_for stage = cc in
        of_leaving ticket stage answer is (subst (λ c. ServesBy sure (Ok c) parts.memory address kind old answer new) same served)

    pub service : (answer : Result Translation WalkFault) → Serves sure parts.memory (registers_of parts.iommu) (contexts_of parts.iommu) id address kind old answer new → IsAnswered sure parts.driver id address kind old answer new
    service answer served =
        let cached = contexts_of parts.iommu id in
        let found = context_or_cause parts.memory r (contexts_of parts.iommu) id in
        let by_mode : ServesIn sure (mode_of d.levels) found parts.memory address kind old answer new =
        subst (λ m. ServesIn sure m found parts.memory address kind old answer new) names.mode served in
        by_attachment (attachment_by_id d.devices id) cached answer refl (λ context is. invariants.contexts id context is) (λ there. pending_cached parts events invariants id there)
        (subst (λ f. ServesBy sure f parts.memory address kind old answer new) (found_as id)
        (served_in sure d.levels own.sizes.in_range found parts.memory address kind old answer new by_mode))

-- WHAT THE SERVICE MEANS
pub served : {walks : List Walk} → ServiceLaws → (parts : Parts) (events : ℕ) → InvariantWith walks parts events → DriverInvariant parts.driver → (id address : ℕ) (kind : AccessKind) (sure : Bool) (old new : Translations)
    (answer : Result Translation WalkFault) → address < 2 ^ 64 → Serves sure parts.memory (registers_of parts.iommu) (contexts_of parts.iommu) id address kind old answer new
    → IsAnswered sure parts.driver id address kind old answer new
served laws parts events invariants own id address kind sure old new answer fits is = service laws parts events invariants own id address kind fits sure old new answer is

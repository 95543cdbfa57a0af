-- What the loads of a request keep.
use Rattle.std.proofs.Common.{◌≡◌, ℕ, Bool, true, false, List, length, Option, None, Some, Result, Ok, Err, if◌then◌else◌, refl, sym, ap, ◌∙◌}
use Rattle.iom_base.specs.declared.cause.Cause.{Cause}
use Rattle.iom_base.specs.declared.cause.Cause.TheVariants.{AllInboundDisallowed, TransactionTypeDisallowed}
use Rattle.iom_device_dir.proofs.Ends.{located-too_wide}
use Rattle.iom_device_dir.specs.Located.{located_context}
use Rattle.iom_device_dir.specs.Paths.{fits_directory}
use Rattle.iom_device_dir.specs.declared.context.Context.{Context}
use Rattle.iom_registers.specs.declared.directory.DirectoryMode.{DirectoryMode}
use Rattle.iom_registers.specs.declared.directory.DirectoryMode.TheVariants as mode
use Rattle.iom_registers.specs.declared.directory.DirectoryPointer.{DirectoryPointer}
use Rattle.iom_stage_walk.specs.Both.{plain}
use Rattle.iom_stage_walk.specs.declared.walked.Walked.{Walked}
use Rattle.iom_stage_walk.specs.declared.walked.WalkFault.{WalkFault}
use Rattle.iom_stepped_walk.specs.Directories.{directory_rest}
use Rattle.iom_stepped_walk.specs.Positions.{rest_of}
use Rattle.iom_stepped_walk.specs.Steps.{TableAnswer}
use Rattle.iom_tlb.specs.Content.{Key, Translations}
use Rattle.iom_tlb.specs.declared.space.Space.{Space}
use Rattle.iom_tlb.specs.declared.trans_cache.Translation.{Translation}
use Rattle.iom_walk_loads.proofs.LoadLemmas.{made_load}
use Rattle.iom_walk_loads.proofs.WholeLemmas.{locating_is_whole}
use Rattle.iom_walk_loads.specs.Directory.{locating}
use Rattle.iom_walk_loads.specs.Loads.{Ends, ReadsContext, ReadsEntry, Walk, after_load, made_from}
use Rattle.iom_walk_stops.specs.Stages.{stages_of, walk_of}
use Rattle.iom_walk_stops.specs.declared.stages.Stages.{Stages}
use Rattle.iom_stepped_requests.proofs.FirstLemmas.{locating_first, tables_first}
use Rattle.iom_stepped_requests.proofs.WholeLemmas.{begun_made, made_then}
use Rattle.iom_stepped_requests.specs.Answers.{context_of}
use Rattle.iom_stepped_requests.specs.Keeping.{Keeping, context_found, context_to_keep, keeping, kept_by_context, kept_by_stages, page_reached, told_by_stages, translation_to_keep, with_kept}
use Rattle.iom_stepped_requests.specs.Laws.{LoadsKeepOfTheRun, RunsKeep}
use Rattle.iom_stepped_requests.specs.Serving.{Remaining, answer_of, by_located, by_stages, in_directory, in_tables, kept_in_directory, kept_in_tables, looked_up, served_or, space_of, way_to_context, without_directory}
use Rattle.iom_stepped_requests.specs.Whole.{context_walk, stages_walk, walk_on}
use Rattle.iom_stepped_requests.specs.declared.request.Answer.TheVariants.{AsItIs, Faults}
use Rattle.iom_stepped_requests.specs.declared.request.Request.{Request}
use Rattle.iom_stepped_requests.specs.declared.walk.RequestWalk.TheVariants.{InDirectory, InTables}

-- in each of the two caches
abbrev both : Option (ℕ × Context) → Option (Key × Translation) → Keeping
both context translation = record { context = context; translation = translation }

-- A walk of tables, of which no load is made yet, keeps what it reaches.

on_tables : (m : List (List ℕ)) (cached : Translations) (request : Request) (context : Context) (translated : Space) (walk : Walk TableAnswer)
    → ((walked : Walked) → walk ≡ Ends (Ok walked) → ⊥)
    → keeping m cached (in_tables request context translated walk) ≡ both None (page_reached request translated (made_from m walk))
on_tables m cached request context translated (Ends (Ok walked)) loads = absurd (loads walked refl)
on_tables m cached request context translated (Ends (Err fault)) loads = refl
on_tables m cached request context translated (ReadsEntry address rest) loads = refl
on_tables m cached request context translated (ReadsContext address rest) loads = refl

stages_keep : (m : List (List ℕ)) (cached : Translations) (looked : Option Translation) (request : Request) (context : Context) (stages : Option Stages)
    → keeping m cached (by_stages (length m) looked request context stages) ≡ both None (kept_by_stages m request context looked stages)
stages_keep m cached looked request context None = refl
stages_keep m cached (Some translation) request context (Some stages) = refl
stages_keep m cached None request context (Some stages) =
    on_tables m cached request context (space_of context stages) (walk_of (length m) stages request.asked.address request.asked.kind)
    (tables_first (length m) stages request.asked.address request.asked.kind)

located_keep : (m : List (List ℕ)) (anew : Bool) (cached : Translations) (request : Request) (found : Result Context Cause)
    → keeping m cached (by_located (length m) anew cached request found) ≡ both None (kept_by_context m anew cached request found)
located_keep m anew cached request (Ok context) =
    stages_keep m cached (looked_up anew cached request context) request context (stages_of context.first_stage context.second_stage)
located_keep m anew cached request (Err cause) = refl

-- One load.

load_keeps : (m : List (List ℕ)) (cached : Translations) (request : Request) (context : Context) (translated : Space) (walk : Walk TableAnswer)
    → with_kept (kept_in_tables request translated walk) (keeping m cached (in_tables request context translated walk))
    ≡ both None (page_reached request translated (made_from m walk))
load_keeps m cached request context translated (Ends (Ok walked)) = refl
load_keeps m cached request context translated (Ends (Err fault)) = refl
load_keeps m cached request context translated (ReadsEntry address rest) = refl
load_keeps m cached request context translated (ReadsContext address rest) = refl

find_keeps : (m : List (List ℕ)) (anew : Bool) (cached : Translations) (request : Request) (walk : Walk (Result Context Cause))
    → with_kept (kept_in_directory request walk) (keeping m cached (in_directory (length m) anew cached request walk))
    ≡ both (context_found request (made_from m walk)) (kept_by_context m anew cached request (made_from m walk))
find_keeps m anew cached request (Ends (Ok context)) =
    ap (λ (k : Keeping). both (Some (request.device, context)) k.translation) (located_keep m anew cached request (Ok context))
find_keeps m anew cached request (Ends (Err cause)) = refl
find_keeps m anew cached request (ReadsEntry address rest) = refl
find_keeps m anew cached request (ReadsContext address rest) = refl

pub loads_keep_of_the_run : LoadsKeepOfTheRun
loads_keep_of_the_run m cached (InDirectory request anew walk) =
    find_keeps m anew cached request (after_load m (directory_rest walk))
    ∙ ap (λ (found : Result Context Cause). both (context_found request found) (kept_by_context m anew cached request found)) (made_load m (directory_rest walk))
loads_keep_of_the_run m cached (InTables request context translated walk) =
    load_keeps m cached request context translated (after_load m (rest_of (length m) walk))
    ∙ ap (λ (end : TableAnswer). both None (page_reached request translated end)) (made_load m (rest_of (length m) walk))

-- All loads.

-- a way to the context that isn't at its end with one
on_way : (m : List (List ℕ)) (cached : Translations) (request : Request) (walk : Walk (Result Context Cause)) → ((context : Context) → walk ≡ Ends (Ok context) → ⊥)
    → keeping m cached (in_directory (length m) false cached request walk)
    ≡ both (context_found request (made_from m walk)) (kept_by_context m false cached request (made_from m walk))
on_way m cached request (Ends (Ok context)) loads = absurd (loads context refl)
on_way m cached request (Ends (Err cause)) loads = refl
on_way m cached request (ReadsEntry address rest) loads = refl
on_way m cached request (ReadsContext address rest) loads = refl

-- through the directory
through : (m : List (List ℕ)) (cached : Translations) (request : Request) (ddtp : DirectoryPointer)
    → keeping m cached (in_directory (length m) false cached request (locating ddtp request.device))
    ≡ both (context_found request (located_context m ddtp request.device)) (kept_by_context m false cached request (located_context m ddtp request.device))
through m cached request ddtp =
    on_way m cached request (locating ddtp request.device) (locating_first ddtp request.device)
    ∙ ap (λ (found : Result Context Cause). both (context_found request found) (kept_by_context m false cached request found)) (locating_is_whole m ddtp request.device)

way_keeps : (m : List (List ℕ)) (cached : Translations) (request : Request) (ddtp : DirectoryPointer) (context : Option Context)
    → keeping m cached (in_directory (length m) false cached request (way_to_context ddtp context request.device))
    ≡ both (context_to_keep None request context (located_context m ddtp request.device)) (kept_by_context m false cached request (context_of m ddtp context request.device))
way_keeps m cached request ddtp None = through m cached request ddtp ∙ by (fits_directory ddtp.mode request.device) refl
  where
    located : Result Context Cause
    located = located_context m ddtp request.device

    by : (b : Bool) → fits_directory ddtp.mode request.device ≡ b → both (context_found request located) (kept_by_context m false cached request located)
        ≡ both (context_found request located) (kept_by_context m false cached request (if b then located else Err TransactionTypeDisallowed))
    by true is = refl
    by false is =
        ap (λ (found : Result Context Cause). both (context_found request located) (kept_by_context m false cached request found))
        (located-too_wide ddtp.mode m ddtp.ppn request.device is)
way_keeps m cached request ddtp (Some context) = by (fits_directory ddtp.mode request.device) refl
  where
    by : (b : Bool) → fits_directory ddtp.mode request.device ≡ b
        → keeping m cached (in_directory (length m) false cached request (if b then Ends (Ok context) else locating ddtp request.device))
        ≡ both None (kept_by_context m false cached request (if b then Ok context else Err TransactionTypeDisallowed))
    by true is = located_keep m false cached request (Ok context)
    by false is =
        through m cached request ddtp
        ∙ ap (λ (found : Result Context Cause). both (context_found request found) (kept_by_context m false cached request found))
        (located-too_wide ddtp.mode m ddtp.ppn request.device is)

-- the answer tells what is kept
end_told : (request : Request) (context : Context) (stages : Stages) (end : TableAnswer)
    → page_reached request (space_of context stages) end ≡ told_by_stages request context (Some stages) (answer_of end)
end_told request context stages (Ok walked) = refl
end_told request context stages (Err fault) = refl

stages_told : (m : List (List ℕ)) (request : Request) (context : Context) (looked : Option Translation) (stages : Option Stages)
    → kept_by_stages m request context looked stages ≡ told_by_stages request context stages (made_from m (stages_walk (length m) request looked stages))
stages_told m request context looked None = refl
stages_told m request context (Some translation) (Some stages) = refl
stages_told m request context None (Some stages) =
    let walk = walk_of (length m) stages request.asked.address request.asked.kind in
    end_told request context stages (made_from m walk)
    ∙ ap (told_by_stages request context (Some stages)) (sym (made_then m walk (λ end. Ends (answer_of end))))

context_told : (m : List (List ℕ)) (cached : Translations) (request : Request) (found : Result Context Cause)
    → kept_by_context m false cached request found ≡ translation_to_keep request found (made_from m (context_walk (length m) false cached request found))
context_told m cached request (Ok context) =
    stages_told m request context (looked_up false cached request context) (stages_of context.first_stage context.second_stage)
context_told m cached request (Err cause) = refl

-- without a directory nothing is kept
none_as_it_is : (request : Request) (found : Result Context Cause) → None ≡ translation_to_keep request found AsItIs
none_as_it_is request (Ok context) = by (stages_of context.first_stage context.second_stage)
  where
    by : (stages : Option Stages) → None ≡ told_by_stages request context stages AsItIs
    by None = refl
    by (Some stages) = refl
none_as_it_is request (Err cause) = refl

none_of_fault : (request : Request) (found : Result Context Cause) (fault : WalkFault) → None ≡ translation_to_keep request found (Faults fault)
none_of_fault request (Ok context) fault = by (stages_of context.first_stage context.second_stage)
  where
    by : (stages : Option Stages) → None ≡ told_by_stages request context stages (Faults fault)
    by None = refl
    by (Some stages) = refl
none_of_fault request (Err cause) fault = refl

pub runs_keep : RunsKeep
runs_keep m ddtp context cached request = by ddtp.mode
  where
    found : Result Context Cause
    found = context_of m ddtp context request.device

    located : Result Context Cause
    located = located_context m ddtp request.device

    rest : Remaining
    rest = in_directory (length m) false cached request (way_to_context ddtp context request.device)

    kept_so : keeping m cached rest ≡ both (context_to_keep None request context located) (translation_to_keep request found (made_from m (walk_on (length m) cached rest)))
    kept_so =
        way_keeps m cached request ddtp context
        ∙ ap (both (context_to_keep None request context located))
        (context_told m cached request found ∙ ap (translation_to_keep request found) (sym (begun_made m ddtp context cached request)))

    by : (x : DirectoryMode) → keeping m cached (served_or (without_directory x) rest)
        ≡ both (context_to_keep (without_directory x) request context located)
        (translation_to_keep request found (made_from m (walk_on (length m) cached (served_or (without_directory x) rest))))
    by mode.Off = ap (both None) (none_of_fault request found (plain AllInboundDisallowed))
    by mode.Bare = ap (both None) (none_as_it_is request found)
    by mode.OneLevel = kept_so
    by mode.TwoLevels = kept_so
    by mode.ThreeLevels = kept_so

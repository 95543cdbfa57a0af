-- A REQUEST BEGINS in a world, which is an event of it: all stays true, and each request under way stands somewhere.
use Rattle.std.proofs.Common.{◌≡◌, ℕ, suc, ◌^◌, ◌<◌, inl, inr, ◌∙◌, Bool, true, false, is_some, List, ◌∷◌, length, Contains, Option, Some, None, option_map, Result, Ok, Err, refl, sym, ap, subst, arith, if◌then◌else◌}
use Rattle.std.proofs.lemmas.Bool.{le-leb}
use Rattle.iom_base.specs.declared.access.Access.{Access}
use Rattle.iom_coherence.specs.Among.{AreAmong}
use Rattle.iom_coherence.proofs.ListLemmas.{cons_cases, contains_head, contains_tail}
use Rattle.iom_device_dir.specs.Cached.{cached_contexts}
use Rattle.iom_device_dir.specs.Paths.{fits_directory, ids_below}
use Rattle.iom_device_dir.specs.declared.cache.DirCache.{DirCache}
use Rattle.iom_device_dir.specs.declared.context.Context.{Context}
use Rattle.iom_directory_build.specs.Pages.{root_level}
use Rattle.iom_driver.specs.Devices.{attachment_by_id, owned_stages_of}
use Rattle.iom_driver.specs.Directory.{NamesDirectory, context_for, mode_of}
use Rattle.iom_driver.specs.Layout.{directory_frame}
use Rattle.iom_driver.specs.State.{DriverState}
use Rattle.iom_driver.specs.declared.device.Stages.{Stages}
use Rattle.iom_driver.proofs.Directories.{room_for_ids}
use Rattle.iom_iommu.specs.Parts.{contexts_of, flights_of, registers_of, translations_of}
use Rattle.iom_iommu.specs.Stepped.{AnswersAtOnce, BeginsRequest, BeginsWalk, NothingChanges, Replies, beginning, request_for, translation_by}
use Rattle.iom_iommu.specs.declared.begun.Begun.{Begun}
use Rattle.iom_iommu.specs.declared.begun.Begun.TheVariants.{Answered, Walking, Occupied}
use Rattle.iom_iommu.specs.declared.reply.Reply.{Reply}
use Rattle.iom_iommu.specs.declared.reply.Reply.TheVariants.{Accepted, Busy, BadSpan, Fault}
use Rattle.iom_stage_walk.specs.declared.walked.WalkFault.{WalkFault}
use Rattle.iom_stepped_requests.specs.Serving.{Remaining, Serves, Locates, Translates, by_context, in_directory, looked_up, served_or, way_to_context, without_directory}
use Rattle.iom_stepped_requests.specs.Standing.{stands, still_serving}
use Rattle.iom_stepped_requests.specs.declared.request.Answer.{Answer}
use Rattle.iom_stepped_requests.specs.declared.request.Answer.TheVariants.{AsItIs, Cached, Reaches, Faults}
use Rattle.iom_stepped_requests.specs.declared.request.Request.{Request}
use Rattle.iom_stepped_requests.specs.declared.walk.RequestWalk.{RequestWalk}
use Rattle.iom_stepped_requests.specs.declared.walk.RequestWalk.TheVariants as walking
use Rattle.iom_stepped_requests.specs.declared.walk.Serving.TheVariants.{GoesOn}
use Rattle.iom_tlb.specs.Chosen.{ioatc}
use Rattle.iom_tlb.specs.Content.{Translations, TranslationsUnchanged}
use Rattle.iom_tlb.specs.declared.trans_cache.Translation.{Translation}
use Rattle.iom_walk_coherence.specs.Walks.{Walk, Standing, InDirectory, InTables, walk_at}
use Rattle.iom_walk_loads.specs.Directory.{locating, locating_by, locating_from}
use Rattle.iom_walk_loads.specs.Loads.{Ends}
use Rattle.iom_walks.specs.Caches.{LooksAtBegin, looks_for_context}
use Rattle.iom_walks.specs.Calls.{StartsWalking, row_walking}
use Rattle.iom_walks.specs.Walks.{UnderWay, WalkRow, with_row}
use Rattle.iom_world_effects.specs.Invariant.{InvariantWith}
use Rattle.iom_world_effects.specs.Parts.{Parts}
use Rattle.iom_world_effects.specs.Read.{values_of}
use Rattle.iom_world_effects.proofs.DriverLemmas.{DriverInvariant}
use Rattle.iom_world_effects.proofs.PartsLemmas.{StaysReady, StaysReported, parts_are}
use Rattle.iom_world_effects.proofs.QuarantinedLemmas.{pending_cached}
use Rattle.iom_world_effects.proofs.ServedLemmas.{IsAnswered, root_low, root_aligned}
use Rattle.iom_world_effects.proofs.WalkScenes.{MayBeginThere, begin_scene}
use Rattle.iom_world_effects.proofs.WalksLeft.{walks_change}
use Rattle.iom_world_invariant.proofs.ContextKeeps.{KeepsAttached}
use Rattle.iom_world_walks.specs.Invariant.{SteppedInvariant}
use Rattle.iom_world_walks.specs.Standing.{StandsAs, StandsInDirectory, StandsInTables, RowsStand}
use Rattle.iom_world_walks.proofs.BeginLoads.{AtRoot, at_root, fits_by, none_without, way_by}
use Rattle.iom_world_walks.proofs.EffectsLeave.{RecordsLeave}
use Rattle.iom_world_walks.proofs.FoundLoads.{HasFound, found}
use Rattle.iom_world_walks.proofs.LeavingLemmas.{leaves_all, leaves_said}
use Rattle.iom_world_walks.proofs.LoadKeeps.{quiet, recorded, accepted}
use Rattle.iom_world_walks.proofs.RequestLoads.{faults_owned, low, served_served, tables_of, within}
use Rattle.iom_world_walks.proofs.RowLoads.{RowLaws, replaced_cases, stands_more}
use Rattle.iom_world_walks.proofs.StillLemmas.{rows_still}

-- a look at the caches leaves what they have
keeps_looked : (d : DriverState) (id : ℕ) (looks : Bool) (old new : DirCache) → LooksAtBegin looks id old new → KeepsAttached (attachment_by_id d.devices id) id (cached_contexts old) (cached_contexts new)
keeps_looked d id true old new looked = inl looked.unchanged
keeps_looked d id false old new same = inl (λ key. ap (λ (c : DirCache). cached_contexts c key) same)

module _ {walks : List Walk} (laws : RowLaws) (old new : Parts) (events id : ℕ) (rows new_rows : List WalkRow) (invariants : InvariantWith walks old events) (own : DriverInvariant old.driver)
    (stays_ready : StaysReady old.driver) (reported : StaysReported old.driver) (recorded_leaves : RecordsLeave old.driver) (driver : new.driver ≡ old.driver) (devices : new.devices ≡ old.devices)
    (fabric : new.fabric ≡ old.fabric) (below : (flights_of old.iommu).so_far < events) (stand : RowsStand old.driver old.memory walks rows) (access : Access) (fits : access.address < 2 ^ 64) where
  abbrev d : DriverState
  d = old.driver

  abbrev request : Request
  request = request_for id access

  abbrev cached : Translations
  cached = translations_of old.iommu

  abbrev Given : Result Translation WalkFault → Type 0
  Given answer = IsAnswered ioatc.SURE d id access.address access.kind cached answer (translations_of new.iommu)

  -- HOW THE REQUEST IS once it began
  abbrev HasCome : Remaining → Type 0
  HasCome (Serves AsItIs) = ⊥
  HasCome (Serves (Cached translation)) = Given (Ok translation)
  HasCome (Serves (Reaches walked)) = ⊥
  HasCome (Serves (Faults fault)) = Given (Err fault)
  HasCome (Locates other anew rest) = (other ≡ request) × StandsInDirectory d old.memory id rest
  HasCome (Translates other context translated rest) =
      (other ≡ request) × (is_some (contexts_of old.iommu id) ≡ true) × StandsInTables d old.memory request context translated rest InTables

  module _ (unchanged : TranslationsUnchanged cached (translations_of new.iommu)) where
    -- by a cached context, of a device that has its tables still
    come_owned : (stage : Stages) → owned_stages_of d.devices id ≡ Some stage → is_some (contexts_of old.iommu id) ≡ true → (remaining : Remaining)
        → HasFound (values_of old) old.memory cached stage.mode stage.root stage.number stage.ats request remaining → HasCome remaining
    come_owned stage owned there (Serves AsItIs) never = never
    come_owned stage owned there (Serves (Cached translation)) (at, allowed) = inr (record {
      stage = stage;
      owned = owned;
      pending = pending_cached old events invariants id there;
      translation = translation;
      answer_is = refl;
      cached = at;
      allowed = allowed;
      unchanged = unchanged;
    })
    come_owned stage owned there (Serves (Reaches walked)) never = never
    come_owned stage owned there (Serves (Faults fault)) faults =
        (faults_owned laws.loads laws.service laws.ends laws.goes_on old events invariants own request fits ioatc.SURE cached (translations_of new.iommu) stage owned (pending_cached old events invariants id there) fault.cause faults, unchanged)
    come_owned stage owned there (Locates other anew rest) never = absurd never
    come_owned stage owned there (Translates other context translated rest) (same, context_is, space_is, at) =
        (same, there, record { stage = stage; owned = owned; context_is = context_is; space_is = space_is; stands = at })

    -- from the root of the directory
    come_root : (remaining : Remaining) → AtRoot d old.memory request false remaining → HasCome remaining
    come_root (Serves answer) (wide, is) =
        subst (λ a. HasCome (Serves a)) (sym is)
        (served_served laws.loads laws.service laws.ends laws.goes_on old events invariants own request fits ioatc.SURE cached (translations_of new.iommu) wide unchanged)
    come_root (Locates other anew rest) at = at
    come_root (Translates other context translated rest) never = absurd never

    names : NamesDirectory (length old.memory) d.levels (registers_of old.iommu)
    names = invariants.ready.directory invariants.started

    -- the way to its context, where none is cached
    way_from_root : locating (registers_of old.iommu).ddtp id ≡ locating_from (root_level d.levels) (directory_frame (length old.memory)) id
    way_from_root =
        ap (λ m. locating_by m (registers_of old.iommu).ddtp.ppn id) names.mode ∙ ap (λ n. locating_by (mode_of d.levels) n id) names.root
        ∙ way_by d.levels own.sizes.in_range (directory_frame (length old.memory)) id

    -- a device that has tables has a place in the directory
    has_place : (stage : Stages) → owned_stages_of d.devices id ≡ Some stage → fits_directory (registers_of old.iommu).ddtp.mode id ≡ true
    has_place stage owned =
        let small = own.named id stage owned in
        let limit = room_for_ids d.levels own.sizes.in_range in
        ap (λ m. fits_directory m id) names.mode ∙ fits_by d.levels own.sizes.in_range id
        ∙ le-leb (suc id) (ids_below (root_level d.levels)) (subst (λ n. id < n) limit (omega (arith, small)))

    by_cached : (found_context : Option Context) → contexts_of old.iommu id ≡ found_context
        → HasCome (in_directory (length old.memory) false cached request (way_to_context (registers_of old.iommu).ddtp found_context id))
    by_cached None is =
        come_root (in_directory (length old.memory) false cached request (locating (registers_of old.iommu).ddtp id))
        (subst (λ w. AtRoot d old.memory request false (in_directory (length old.memory) false cached request w)) (sym way_from_root) (at_root d old.memory cached request false))
    by_cached (Some context) is = owned_by (owned_stages_of d.devices id) refl (invariants.contexts id context is)
      where
        owned_by : (stages : Option Stages) → owned_stages_of d.devices id ≡ stages → option_map context_for (owned_stages_of d.devices id) ≡ Some context
            → HasCome (in_directory (length old.memory) false cached request (way_to_context (registers_of old.iommu).ddtp (Some context) id))
        owned_by None none true_for = let both : option_map context_for (owned_stages_of d.devices id) ≡ None = ap (option_map context_for) none in cc
        owned_by (Some stage) owned true_for =
            let same : context_for stage ≡ context = let both : Some (context_for stage) ≡ Some context = sym (ap (option_map context_for) owned) ∙ true_for in cc in
            let tables = tables_of laws.loads laws.service laws.ends laws.goes_on old events invariants own request fits ioatc.SURE cached (translations_of new.iommu) stage owned in
            let under = root_low old.memory d.owners d.ledger id stage.mode stage.root tables in
            let many = own.sizes.size.1 in
            let few = (own.numbers.small id stage owned).1 in
            let there : is_some (contexts_of old.iommu id) ≡ true = ap is_some is in
            subst (λ b. HasCome (in_directory (length old.memory) false cached request (if b then Ends (Ok context) else locating (registers_of old.iommu).ddtp id))) (sym (has_place stage owned))
            (subst (λ c. HasCome (by_context (length old.memory) (looked_up false cached request c) request c)) same
            (come_owned stage owned there (by_context (length old.memory) (looked_up false cached request (context_for stage)) request (context_for stage))
            (found laws.loads laws.service.walks (values_of old) old.memory d.owners cached request (low laws.loads laws.service laws.ends laws.goes_on old events invariants own request fits ioatc.SURE cached (translations_of new.iommu))
            (within laws.loads laws.service laws.ends laws.goes_on old events invariants own request fits ioatc.SURE cached (translations_of new.iommu)) stage.mode stage.root stage.number stage.ats (omega (arith, under, many))
            (omega (arith, few)) (root_aligned old.memory d.owners d.ledger id stage.mode stage.root tables) tables false)))

    begun : HasCome (beginning old.iommu id access (length old.memory))
    begun =
        subst (λ o. HasCome (served_or o (in_directory (length old.memory) false cached request (way_to_context (registers_of old.iommu).ddtp (contexts_of old.iommu id) id))))
        (sym (ap without_directory names.mode ∙ none_without d.levels own.sizes.in_range)) (by_cached (contexts_of old.iommu id) refl)

    -- an answer that is given at once
    answer_at_once : (answer : Answer) → HasCome (Serves answer) → (translated : Result Translation WalkFault) → translation_by old.memory access.address access.kind answer ≡ translated → Given translated
    answer_at_once AsItIs never translated is = absurd never
    answer_at_once (Cached found_one) answers translated is = subst Given is answers
    answer_at_once (Reaches walked) never translated is = absurd never
    answer_at_once (Faults fault) answers translated is = subst Given is answers

  -- WHAT A REQUEST IS ANSWERED AT ONCE may be answered to a whole one
  pub begun_answer : (reply : Reply) → (answers : AnswersAtOnce old.memory old.iommu rows id access reply new.memory new.iommu new_rows) → (translated : Result Translation WalkFault)
      → translation_by old.memory access.address access.kind answers.answer ≡ translated → Given translated
  begun_answer reply answers translated is =
      answer_at_once answers.looks.translations answers.answer (subst HasCome (sym (answers.begun.0 (length old.memory))) (begun answers.looks.translations)) translated is

  -- the rows, where one is another
  rows_with : (left : List Walk) (later : WalkRow) → AreAmong walks left → new_rows ≡ with_row rows later → ((next : UnderWay) → later.under_way ≡ Some next
      → (next.request.asked.address < 2 ^ 64) × StandsAs d old.memory left next.request (still_serving (length old.memory) next.serving)) → RowsStand d old.memory left new_rows
  rows_with left later among is own_row one next at goes = elim (replaced_cases rows later one (subst (λ (rs : List WalkRow). Contains rs one) is at)) [
    | inl same ↦ own_row next (ap (λ (r : WalkRow). r.under_way) (sym same) ∙ goes)
    | inr before ↦
        let stood = stand one next before goes in
        (stood.0, stands_more d old.memory walks left next.request (still_serving (length old.memory) next.serving) among stood.1)
  ]

  -- IT IS UNDER WAY
  walks_from : (standing : Standing) (walk : RequestWalk) (row : WalkRow) → new_rows ≡ with_row rows (row_walking row request access.len access.bytes walk) → MayBeginThere (values_of old) id standing
      → StandsAs d old.memory (walk_at id standing ∷ walks) request (stands (length old.memory) walk) → new.memory ≡ old.memory → (begins : BeginsWalk old.iommu rows id access new.iommu new_rows) → SteppedInvariant new new_rows events
  walks_from standing walk row after may stands_now memory begins =
      let left = walk_at id standing ∷ walks in
      let more : AreAmong walks left = λ x there. contains_tail (walk_at id standing) walks x there in
      let keeps = keeps_looked d id (looks_for_context (registers_of old.iommu).ddtp.mode id) old.iommu.contexts new.iommu.contexts begins.looks.contexts in
      let changed : InvariantWith left old events =
      walks_change old events invariants
      (begin_scene (values_of old) id standing walks left may (λ x there. elim (cons_cases (walk_at id standing) walks x there) [ inl same ↦ inl (sym same) | inr earlier ↦ inr earlier ])) in
      let now : InvariantWith left new events = quiet old new events id changed own driver devices fabric keeps stays_ready memory begins.rest begins.looks.translations in
      let rows_now : RowsStand d old.memory left new_rows =
      rows_with left (row_walking row request access.len access.bytes walk) more after (λ next is.
      let one : record { request = request; serving = GoesOn walk; len = access.len } ≡ next = cc in
      subst (λ (u : UnderWay). (u.request.asked.address < 2 ^ 64) × StandsAs d old.memory left u.request (still_serving (length old.memory) u.serving)) one (fits, stands_now)) in
      (left, now, rows_still laws.driven old new events left invariants.started (leaves_all d new.driver old.memory new.memory driver memory) now new_rows rows_now)

  begins_walk : new.memory ≡ old.memory → BeginsWalk old.iommu rows id access new.iommu new_rows → SteppedInvariant new new_rows events
  begins_walk memory begins = by starts.walk (subst HasCome (sym (starts.has_begun (length old.memory))) (begun begins.looks.translations)) starts.after
    where
      starts : StartsWalking rows request access.len access.bytes (beginning old.iommu id access) new_rows
      starts = begins.begun

      by : (walk : RequestWalk) → HasCome (stands (length old.memory) walk) → new_rows ≡ with_row rows (row_walking starts.row request access.len access.bytes walk) → SteppedInvariant new new_rows events
      by (walking.InDirectory other anew at) (same, stands_there) after =
          walks_from InDirectory (walking.InDirectory other anew at) starts.row after tt (same, contains_head (walk_at id InDirectory) walks, stands_there) memory begins
      by (walking.InTables other context translated at) (same, there, stands_there) after =
          walks_from InTables (walking.InTables other context translated at) starts.row after there (same, InTables, contains_head (walk_at id InTables) walks, stands_there) memory begins

  -- IT HAS ITS ANSWER AT ONCE
  at_once : (reply : Reply) → AnswersAtOnce old.memory old.iommu rows id access reply new.memory new.iommu new_rows → SteppedInvariant new new_rows events
  at_once reply answers = by reply answers.replied
    where
      keeps : KeepsAttached (attachment_by_id d.devices id) id (contexts_of old.iommu) (contexts_of new.iommu)
      keeps = keeps_looked d id (looks_for_context (registers_of old.iommu).ddtp.mode id) old.iommu.contexts new.iommu.contexts answers.looks.contexts

      rows_now : RowsStand d old.memory walks new_rows
      rows_now = subst (RowsStand d old.memory walks) (sym answers.begun.1) stand

      by : (reply : Reply) → Replies old.memory old.iommu id access (translation_by old.memory access.address access.kind answers.answer) reply new.memory new.iommu → SteppedInvariant new new_rows events
      by (Accepted number) accepts =
          let now = accepted old new events id invariants own driver devices fabric keeps stays_ready below access (translation_by old.memory access.address access.kind answers.answer) number accepts
          (begun_answer reply answers (Ok accepts.translation) accepts.is) in
          (walks, now, rows_still laws.driven old new events walks invariants.started (leaves_all d new.driver old.memory new.memory driver accepts.memory_stays) now new_rows rows_now)
      by (Fault cause) records =
          let now = recorded old new events id invariants own driver devices fabric keeps reported access (translation_by old.memory access.address access.kind answers.answer) cause records answers.looks.translations in
          let else_same = (reported old.memory new.memory (registers_of old.iommu) (registers_of new.iommu) _ records.answer invariants.ready invariants.started records.recorded).1 in (
            walks,
            now,
            rows_still laws.driven old new events walks invariants.started
                (leaves_said d new.driver old.memory new.memory driver else_same.size (recorded_leaves old.memory new.memory (registers_of old.iommu) (registers_of new.iommu) invariants.ready.stand else_same)) now new_rows
                rows_now,
          )
      by Busy never = absurd never
      by BadSpan never = absurd never

  nothing : NothingChanges old.memory old.iommu rows new.memory new.iommu new_rows → SteppedInvariant new new_rows events
  nothing (memory, iommu, rows_stay) =
      let same : new ≡ old = parts_are new old.memory old.iommu old.driver old.devices old.fabric memory iommu driver devices fabric in
      subst (λ parts. SteppedInvariant parts new_rows events) (sym same) (subst (λ rs. SteppedInvariant old rs events) (sym rows_stay) (walks, invariants, stand))

  pub begins_keep : (answer : Begun) → BeginsRequest old.memory old.iommu rows id access answer new.memory new.iommu new_rows → SteppedInvariant new new_rows events
  begins_keep (Answered BadSpan) (wide, same) = nothing same
  begins_keep (Answered Busy) (within_page, full, same) = nothing same
  begins_keep Occupied (within_page, room, there, same) = nothing same
  begins_keep Walking (memory, begins) = begins_walk memory begins
  begins_keep (Answered (Accepted number)) answers = at_once (Accepted number) answers
  begins_keep (Answered (Fault cause)) answers = at_once (Fault cause) answers

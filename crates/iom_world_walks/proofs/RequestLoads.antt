-- ONE LOAD OF A REQUEST that is under way in a world: it goes on where it may come to from there, or is answered as a whole request may be answered then.
use Rattle.std.proofs.Common.{◌≡◌, ℕ, suc, ◌/◌, ◌^◌, ◌<◌, ◌≤◌, inl, inr, ◌∙◌, Bool, true, false, nat_lt, List, length, Contains, Option, Some, None, Result, Ok, Err, refl, sym, ap, subst, arith}
use Rattle.std.proofs.lemmas.Bool.{leb-false, leb-true, le-leb, lt-leb}
use Rattle.std.proofs.Math.Logic.{∥∥₁_elim}
use Rattle.iom_base.specs.DeviceIds.{id_limit}
use Rattle.iom_base.specs.Sizes.{page_size}
use Rattle.iom_base.specs.declared.access.AccessKind.{AccessKind}
use Rattle.iom_base.specs.declared.cause.Cause.{Cause}
use Rattle.iom_base.specs.declared.cause.Cause.TheVariants.{DirectoryEntryNotValid, TransactionTypeDisallowed}
use Rattle.iom_base.specs.declared.mode.Mode.{Mode}
use Rattle.iom_base.specs.declared.mode.Mode.TheVariants.{First, Second, Both}
use Rattle.iom_base.specs.declared.rights.Rights.{Rights}
use Rattle.iom_coherence.specs.Scene.{Scene}
use Rattle.iom_device_dir.specs.Paths.{ids_below}
use Rattle.iom_device_dir.specs.declared.context.Context.{Context}
use Rattle.iom_directory_build.specs.Pages.{root_level}
use Rattle.iom_driver.specs.Devices.{attachment_by_id, attached_stages, owned_stages, owned_stages_of, stages_of}
use Rattle.iom_driver.specs.Directory.{context_for, located_for}
use Rattle.iom_driver.specs.State.{DriverState}
use Rattle.iom_driver.specs.Tables.{AreTablesOf}
use Rattle.iom_driver.specs.declared.device.Attachment.{Attachment}
use Rattle.iom_driver.specs.declared.device.Attachment.TheVariants.{Detached, Attached, Quarantined, Leaving}
use Rattle.iom_driver.specs.declared.device.Stages.{Stages}
use Rattle.iom_driver.proofs.Directories.{room_for_ids}
use Rattle.iom_ledger.specs.History.{Pair}
use Rattle.iom_ledger.specs.Shown.{held_in}
use Rattle.iom_machine.specs.Requests.{IsPageFaultOf}
use Rattle.iom_stage_walk.specs.Both.{plain}
use Rattle.iom_standing_walks.specs.Pages.{DirectoryEndsAsNow, DirectoryGoesOn}
use Rattle.iom_stepped_requests.specs.Serving.{Remaining, Serves, Locates, Translates, by_located, by_context, in_directory, in_tables, kept, kept_in_directory, kept_in_tables, load, looked_up, translation_of}
use Rattle.iom_stepped_requests.specs.declared.request.Answer.TheVariants.{AsItIs, Cached, Reaches, Faults}
use Rattle.iom_stepped_requests.specs.declared.request.Kept.TheVariants as kept_as
use Rattle.iom_stepped_requests.specs.declared.request.Request.{Request}
use Rattle.iom_stepped_walk.specs.Steps.{TableAnswer}
use Rattle.iom_tlb.specs.Content.{Translations, TranslationsUnchanged, Keeps}
use Rattle.iom_tlb.specs.declared.space.Space.{Space}
use Rattle.iom_walk_coherence.specs.Walks.{Walk as UnderWayWalk, Standing, InDirectory, InTables, walk_at}
use Rattle.iom_walk_coherence.proofs.LawLemmas.{walks_are_not_over, guest_tables_may_be_read}
use Rattle.iom_coherence.specs.Laws.{IsNotOver}
use Rattle.iom_walk_loads.specs.Loads.{Walk, Ends, ReadsEntry, ReadsContext, after_load}
use Rattle.iom_walks.specs.Caches.{OffersTranslation}
use Rattle.iom_world_effects.specs.Devices.{shown_attachment}
use Rattle.iom_world_effects.specs.Invariant.{InvariantWith}
use Rattle.iom_world_effects.specs.Parts.{Parts}
use Rattle.iom_world_effects.specs.Read.{values_of}
use Rattle.iom_world_effects.specs.Scenes.{IsSceneOf, FactsHold}
use Rattle.iom_world_effects.proofs.DriverLemmas.{DriverInvariant}
use Rattle.iom_world_effects.proofs.QuarantinedLemmas.{IsPending}
use Rattle.iom_world_effects.proofs.ServedLemmas.{ServiceLaws, FaultsAs, IsAnswered, attached_owns, cause_at, held_inside, root_low, root_aligned}
use Rattle.iom_world_effects.proofs.WalkLemmas.{FaultsBy}
use Rattle.iom_world_effects.proofs.WalkScenes.{MayGoOnThere}
use Rattle.iom_world_invariant.proofs.DriverKeeps.{attached_is}
use Rattle.iom_world_walks.specs.Standing.{StandsInDirectory, StandsInMode, StandsInTables, StandsAs}
use Rattle.iom_world_walks.proofs.DirectoryLoads.{HasLocated, located}
use Rattle.iom_world_walks.proofs.FoundLoads.{HasFound, found}
use Rattle.iom_world_walks.proofs.StillLemmas.{IsOfTables, at_standing}
use Rattle.iom_world_walks.proofs.TableLoads.{LoadLaws, HasLoaded, tables_loaded}

-- a page fault of the mode
page_fault_in : (mode : Mode) (parts : Parts) (id page : ℕ) (kind : AccessKind) (cause : Cause) → FaultsBy mode parts.driver.ledger id page kind cause → IsPageFaultOf mode kind cause
page_fault_in (First size) parts id page kind cause faults = faults.0
page_fault_in (Second size) parts id page kind cause faults = faults.0
page_fault_in (Both size) parts id page kind cause faults = faults

-- A WALK IN TABLES is of a device that isn't quarantined, or whose ticket isn't confirmed
pending_walking : {walks : List UnderWayWalk} (parts : Parts) (events id : ℕ) (standing : Standing) → InvariantWith walks parts events → Contains walks (walk_at id standing) → IsOfTables standing
    → IsPending parts.driver id
pending_walking {walks = walks} parts events id standing invariants there tables ticket stage is = by (nat_lt parts.driver.confirmed ticket) refl
  where
    not_over : (scene : Scene) → FactsHold scene walks → IsNotOver scene (scene.attachment_of id)
    not_over scene facts = elim tables [
      | inl in_tables ↦ walks_are_not_over (record { scene = scene; walks = walks }) id (facts.copies, facts.standing) (subst (λ s. Contains walks (walk_at id s)) in_tables there)
      | inr (frame, at_entry) ↦
          (guest_tables_may_be_read (record { scene = scene; walks = walks }) id frame (facts.copies, facts.standing) (subst (λ s. Contains walks (walk_at id s)) at_entry there)).0
    ]

    above : (scene : Scene) → IsSceneOf (values_of parts) scene → FactsHold scene walks → parts.driver.confirmed < ticket
    above scene shown facts =
        let unconfirmed = subst (IsNotOver scene) (shown.attachments id ∙ ap shown_attachment is) (not_over scene facts) in
        subst (λ n. n < ticket) shown.confirmed unconfirmed.1

    by : (b : Bool) → nat_lt parts.driver.confirmed ticket ≡ b → parts.driver.confirmed < ticket
    by true low = leb-true (suc parts.driver.confirmed) ticket low
    by false high = ∥∥₁_elim invariants.copies (λ x y. absurd (never x)) (λ (scene, shown, facts). above scene shown facts)
      where
        never : parts.driver.confirmed < ticket → ⊥
        never low = let most = leb-false (suc parts.driver.confirmed) ticket high in omega (arith, low, most)

module _ {walks : List UnderWayWalk} (load_laws : LoadLaws) (laws : ServiceLaws) (ends : DirectoryEndsAsNow) (goes_on : DirectoryGoesOn) (parts : Parts) (events : ℕ)
    (invariants : InvariantWith walks parts events) (own : DriverInvariant parts.driver) (request : Request) (fits : request.asked.address < 2 ^ 64) (sure : Bool) (old new : Translations) where
  abbrev d : DriverState
  d = parts.driver

  abbrev id : ℕ
  id = request.device

  abbrev page : ℕ
  page = request.asked.address / page_size

  abbrev kind : AccessKind
  kind = request.asked.kind

  pub low : page < 2 ^ 52
  low = omega (arith, fits)

  pub tables_of : (stage : Stages) → owned_stages_of d.devices id ≡ Some stage → AreTablesOf parts.memory d.owners d.ledger id stage.mode stage.root
  tables_of stage owned = invariants.ready.stand.tables id stage owned

  pub within : (at frame : ℕ) (rights : Rights) → held_in d.ledger id at ≡ Some (frame, rights) → frame < length parts.memory
  within at frame rights held = held_inside laws parts events invariants own id at frame rights held

  abbrev Answered : TableAnswer → Type 0
  Answered (Ok walked) = IsAnswered sure d id request.asked.address kind old (Ok (translation_of walked)) new
  Answered (Err fault) = IsAnswered sure d id request.asked.address kind old (Err fault) new

  -- HOW THE REQUEST IS after a load, that stood there before
  abbrev pub HasServed : Standing → Remaining → Type 0
  HasServed from (Serves AsItIs) = ⊥
  HasServed from (Serves (Cached translation)) = IsAnswered sure d id request.asked.address kind old (Ok translation) new
  HasServed from (Serves (Reaches walked)) = IsAnswered sure d id request.asked.address kind old (Ok (translation_of walked)) new
  HasServed from (Serves (Faults fault)) = IsAnswered sure d id request.asked.address kind old (Err fault) new
  HasServed from (Locates other anew rest) = (other ≡ request) × MayGoOnThere (values_of parts) id from InDirectory × StandsInDirectory d parts.memory id rest
  HasServed from (Translates other context translated rest) =
      (other ≡ request) × (to : Standing) × MayGoOnThere (values_of parts) id from to × StandsInTables d parts.memory request context translated rest to

  -- who holds something is attached
  attached_by : (stage : Stages) (at : ℕ) (pair : Pair) → owned_stages_of d.devices id ≡ Some stage → held_in d.ledger id at ≡ Some pair → attachment_by_id d.devices id ≡ Attached stage
  attached_by stage at pair owned held = by (attachment_by_id d.devices id) refl owned
    where
      away : (a : Attachment) → attachment_by_id d.devices id ≡ a → attached_stages a ≡ None → ⊥
      away a is none = let nothing : held_in d.ledger id at ≡ None = own.holders id at (ap attached_stages is ∙ none) in let both : ◌≡◌ {A = Option Pair} None (Some pair) = sym nothing ∙ held in cc

      by : (a : Attachment) → attachment_by_id d.devices id ≡ a → owned_stages a ≡ Some stage → a ≡ Attached stage
      by Detached is has = cc
      by (Attached other) is has = let same : other ≡ stage = cc in ap Attached same
      by (Quarantined ticket other) is has = absurd (away (Quarantined ticket other) is refl)
      by (Leaving ticket other) is has = absurd (away (Leaving ticket other) is refl)

  -- a page fault in tables is told so of the device, however it is attached
  pub faults_owned : (stage : Stages) → owned_stages_of d.devices id ≡ Some stage → IsPending d id → (cause : Cause) → FaultsBy stage.mode d.ledger id page kind cause
      → FaultsAs (attachment_by_id d.devices id) d id request.asked.address kind cause
  faults_owned stage owned pending cause faults = by (attachment_by_id d.devices id) refl owned
    where
      is_fault : (other : Stages) → other ≡ stage → IsPageFaultOf other.mode kind cause
      is_fault other same = subst (λ (s : Stages). IsPageFaultOf s.mode kind cause) (sym same) (page_fault_in stage.mode parts id page kind cause faults)

      by : (a : Attachment) → attachment_by_id d.devices id ≡ a → owned_stages a ≡ Some stage → FaultsAs a d id request.asked.address kind cause
      by Detached is has = cc
      by (Attached other) is has = let same : other ≡ stage = cc in subst (λ (s : Stages). FaultsBy s.mode d.ledger id page kind cause) (sym same) faults
      by (Quarantined ticket other) is has = let same : other ≡ stage = cc in inl (pending ticket other is, is_fault other same)
      by (Leaving ticket other) is has = let same : other ≡ stage = cc in inl (is_fault other same)

  -- IN TABLES
  tables_served : (context : Context) (translated : Space) (rest : Walk TableAnswer) (from : Standing) → Contains walks (walk_at id from) → StandsInTables d parts.memory request context translated rest from
      → OffersTranslation sure (kept_in_tables request translated (after_load parts.memory rest)) old new → HasServed from (in_tables request context translated (after_load parts.memory rest))
  tables_served context translated rest from there stands offers =
      by (after_load parts.memory rest) (tables_loaded load_laws laws.walks (values_of parts) parts.memory d.owners id stands.stage.root stands.stage.mode request.asked low within
      (tables_of stands.stage stands.owned) rest from stands.stands) offers
    where
      stage : Stages
      stage = stands.stage

      on : (later : Walk TableAnswer) (to : Standing) → StandsInMode stage.mode parts.memory stage.root request.asked later to → StandsInTables d parts.memory request context translated later to
      on later to at = record { stage = stage; owned = stands.owned; context_is = stands.context_is; space_is = stands.space_is; stands = at }

      by : (after : Walk TableAnswer) → HasLoaded (values_of parts) stage.mode parts.memory id stage.root request.asked from after → OffersTranslation sure (kept_in_tables request translated after) old new
          → HasServed from (in_tables request context translated after)
      by (Ends (Ok walked)) (held, allowed) keeps = inl (record {
        stage = stage;
        attached = attached_by stage held.0 (walked.frame, held.1) stands.owned held.3;
        translation = translation_of walked;
        answer_is = refl;
        held = held;
        allowed = allowed;
        kept = subst (λ s. Keeps sure old (s, page) (translation_of walked) new) stands.space_is keeps;
      })
      by (Ends (Err fault)) faults unchanged =
          (faults_owned stage stands.owned (pending_walking parts events id from invariants there (at_standing stage.mode parts.memory stage.root request.asked rest from stands.stands)) fault.cause faults, unchanged)
      by (ReadsEntry address later) (to, may, at) unchanged = (refl, to, may, on (ReadsEntry address later) to at)
      by (ReadsContext address later) (to, may, at) unchanged = (refl, to, may, on (ReadsContext address later) to at)

  -- ONCE ITS CONTEXT IS FOUND, that of an attached device
  found_served : (stage : Stages) → attachment_by_id d.devices id ≡ Attached stage → (remaining : Remaining)
      → HasFound (values_of parts) parts.memory old stage.mode stage.root stage.number stage.ats request remaining → TranslationsUnchanged old new → HasServed InDirectory remaining
  found_served stage attached (Serves AsItIs) never unchanged = never
  found_served stage attached (Serves (Cached translation)) (cached, allowed) unchanged = inr (record {
    stage = stage;
    owned = ap owned_stages attached;
    pending = λ ticket other at. let both : Attached stage ≡ Quarantined ticket other = sym attached ∙ at in cc;
    translation = translation;
    answer_is = refl;
    cached = cached;
    allowed = allowed;
    unchanged = unchanged;
  })
  found_served stage attached (Serves (Reaches walked)) never unchanged = absurd never
  found_served stage attached (Serves (Faults fault)) faults unchanged =
      (subst (λ a. FaultsAs a d id request.asked.address kind fault.cause) (sym attached) faults, unchanged)
  found_served stage attached (Locates other anew rest) never unchanged = absurd never
  found_served stage attached (Translates other context translated rest) (same, context_is, space_is, at) unchanged = (
    same,
    InTables,
    (stage.mode, stage.ats, ap shown_attachment attached),
    record { stage = stage; owned = ap owned_stages attached; context_is = context_is; space_is = space_is; stands = at },
  )

  -- a device without a context is told so, however it is attached
  faults_without : stages_of d.devices id ≡ None → FaultsAs (attachment_by_id d.devices id) d id request.asked.address kind (cause_at d.levels id)
  faults_without none = by (attachment_by_id d.devices id) none
    where
      by : (a : Attachment) → attached_stages a ≡ None → FaultsAs a d id request.asked.address kind (cause_at d.levels id)
      by Detached is = refl
      by (Attached stage) is = cc
      by (Quarantined ticket stage) is = inr refl
      by (Leaving ticket stage) is = inr refl

  -- IN THE DIRECTORY
  located_served : (anew : Bool) (stages : Option Stages) → stages_of d.devices id ≡ stages → id < ids_below (root_level d.levels) → TranslationsUnchanged old new
      → HasServed InDirectory (by_located (length parts.memory) anew old request (located_for stages))
  located_served anew None is fits_there unchanged =
      let below : id < id_limit d.levels = subst (λ n. id < n) (sym (room_for_ids d.levels own.sizes.in_range)) fits_there in
      let cause : cause_at d.levels id ≡ DirectoryEntryNotValid = rw (lt-leb (id_limit d.levels) id below) refl in
      (subst (FaultsAs (attachment_by_id d.devices id) d id request.asked.address kind) cause (faults_without is), unchanged)
  located_served anew (Some stage) is fits_there unchanged =
      let attached = attached_is (attachment_by_id d.devices id) stage is in
      let tables = tables_of stage (ap owned_stages attached) in
      let below = root_low parts.memory d.owners d.ledger id stage.mode stage.root tables in
      let many = own.sizes.size.1 in
      let few = (own.numbers.small id stage (ap owned_stages attached)).1 in
      found_served stage attached (by_context (length parts.memory) (looked_up anew old request (context_for stage)) request (context_for stage))
      (found load_laws laws.walks (values_of parts) parts.memory d.owners old request low within stage.mode stage.root stage.number stage.ats (omega (arith, below, many)) (omega (arith, few))
      (root_aligned parts.memory d.owners d.ledger id stage.mode stage.root tables) tables anew) unchanged

  -- no translation is kept there
  kept_none : (found : Result Context Cause) → OffersTranslation sure (kept_in_directory request (Ends found)) old new → TranslationsUnchanged old new
  kept_none (Ok context) offers = offers
  kept_none (Err cause) offers = offers

  directory_served : (anew : Bool) (rest : Walk (Result Context Cause)) → StandsInDirectory d parts.memory id rest → OffersTranslation sure (kept_in_directory request (after_load parts.memory rest)) old new
      → HasServed InDirectory (in_directory (length parts.memory) anew old request (after_load parts.memory rest))
  directory_served anew rest stands offers =
      by (after_load parts.memory rest) (located ends goes_on d parts.memory id (invariants.ready.stand.directory invariants.started) rest stands) offers
    where
      by : (after : Walk (Result Context Cause)) → HasLocated d parts.memory id after → OffersTranslation sure (kept_in_directory request after) old new
          → HasServed InDirectory (in_directory (length parts.memory) anew old request after)
      by (Ends answer) is offered =
          subst (λ f. HasServed InDirectory (by_located (length parts.memory) anew old request f)) (sym is) (located_served anew (stages_of d.devices id) refl stands.fits (kept_none answer offered))
      by (ReadsEntry address later) at offered = (refl, tt, at)
      by (ReadsContext address later) at offered = (refl, tt, at)

  -- ONE THAT IS SERVED ALREADY has no place in the directory
  pub served_served : ids_below (root_level d.levels) ≤ id → TranslationsUnchanged old new → IsAnswered sure d id request.asked.address kind old (Err (plain TransactionTypeDisallowed)) new
  served_served wide unchanged =
      let high : id_limit d.levels ≤ id = subst (λ n. n ≤ id) (sym (room_for_ids d.levels own.sizes.in_range)) wide in
      let cause : cause_at d.levels id ≡ TransactionTypeDisallowed = rw (le-leb (id_limit d.levels) id high) refl in
      (subst (FaultsAs (attachment_by_id d.devices id) d id request.asked.address kind) cause (faults_without (none (stages_of d.devices id) refl high)), unchanged)
    where
      none : (stages : Option Stages) → stages_of d.devices id ≡ stages → id_limit d.levels ≤ id → stages_of d.devices id ≡ None
      none None is high = is
      none (Some stage) is high = let small = own.named id stage (attached_owns (attachment_by_id d.devices id) stage is) in absurd (omega (arith, small, high))

  -- where a request stands
  abbrev pub stands_at : (remaining : Remaining) → StandsAs d parts.memory walks request remaining → Standing
  stands_at (Serves answer) stands = InDirectory
  stands_at (Locates other anew rest) stands = InDirectory
  stands_at (Translates other context translated rest) stands = stands.1

  -- A LOAD
  pub request_loaded : (remaining : Remaining) → (stands : StandsAs d parts.memory walks request remaining) → OffersTranslation sure (kept parts.memory remaining) old new
      → HasServed (stands_at remaining stands) (load parts.memory old remaining)
  request_loaded (Serves answer) (wide, is) offers = subst (λ a. HasServed InDirectory (Serves a)) (sym is) (served_served wide offers)
  request_loaded (Locates other anew rest) (same, there, stands) offers =
      subst (λ r. HasServed InDirectory (in_directory (length parts.memory) anew old r (after_load parts.memory rest))) (sym same)
      (directory_served anew rest stands (subst (λ r. OffersTranslation sure (kept_in_directory r (after_load parts.memory rest)) old new) same offers))
  request_loaded (Translates other context translated rest) (same, from, there, stands) offers =
      subst (λ r. HasServed from (in_tables r context translated (after_load parts.memory rest))) (sym same)
      (tables_served context translated rest from there stands (subst (λ r. OffersTranslation sure (kept_in_tables r translated (after_load parts.memory rest)) old new) same offers))

  -- THE CONTEXT that is kept is that of an attached device
  abbrev pub KeepsOwn : ℕ → Context → Type 0
  KeepsOwn device context = (device ≡ id) × (stage : Stages) × (attachment_by_id d.devices id ≡ Attached stage) × (context ≡ context_for stage)

  kept_own : (found : Result Context Cause) → found ≡ located_for (stages_of d.devices id) → (device : ℕ) (context : Context) → kept_in_directory request (Ends found) ≡ kept_as.Context device context → KeepsOwn device context
  kept_own (Err cause) is device context same = cc
  kept_own (Ok located_one) is device context same = by (stages_of d.devices id) refl
    where
      mine : (located_one ≡ context) × (id ≡ device)
      mine = (cc, cc)

      by : (stages : Option Stages) → stages_of d.devices id ≡ stages → KeepsOwn device context
      by None none = let both : Ok located_one ≡ located_for None = is ∙ ap located_for none in cc
      by (Some stage) some =
          let both : Ok located_one ≡ located_for (Some stage) = is ∙ ap located_for some in
          let one : located_one ≡ context_for stage = cc in
          (sym mine.1, stage, attached_is (attachment_by_id d.devices id) stage some, sym mine.0 ∙ one)

  directory_keeps : (rest : Walk (Result Context Cause)) → StandsInDirectory d parts.memory id rest → (device : ℕ) (context : Context)
      → kept_in_directory request (after_load parts.memory rest) ≡ kept_as.Context device context → KeepsOwn device context
  directory_keeps rest stands device context same =
      by (after_load parts.memory rest) (located ends goes_on d parts.memory id (invariants.ready.stand.directory invariants.started) rest stands) same
    where
      by : (after : Walk (Result Context Cause)) → HasLocated d parts.memory id after → kept_in_directory request after ≡ kept_as.Context device context → KeepsOwn device context
      by (Ends answer) is kept_so = kept_own answer is device context kept_so
      by (ReadsEntry address later) is kept_so = cc
      by (ReadsContext address later) is kept_so = cc

  tables_keep : (translated : Space) (after : Walk TableAnswer) (device : ℕ) (context : Context) → kept_in_tables request translated after ≡ kept_as.Context device context → ⊥
  tables_keep translated (Ends (Ok walked)) device context same = cc
  tables_keep translated (Ends (Err fault)) device context same = cc
  tables_keep translated (ReadsEntry address later) device context same = cc
  tables_keep translated (ReadsContext address later) device context same = cc

  pub context_kept : (remaining : Remaining) → StandsAs d parts.memory walks request remaining → (device : ℕ) (context : Context) → kept parts.memory remaining ≡ kept_as.Context device context → KeepsOwn device context
  context_kept (Serves answer) stands device context same = cc
  context_kept (Locates other anew rest) (own_request, there, stands) device context same =
      directory_keeps rest stands device context (ap (λ r. kept_in_directory r (after_load parts.memory rest)) (sym own_request) ∙ same)
  context_kept (Translates other other_context translated rest) (own_request, from, there, stands) device context same =
      absurd (tables_keep translated (after_load parts.memory rest) device context (ap (λ r. kept_in_tables r translated (after_load parts.memory rest)) (sym own_request) ∙ same))

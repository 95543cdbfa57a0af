-- What stays true of a world when its driver is asked to attach a device, to grant a frame, and to poll.
use Rattle.std.proofs.Common.{zero, suc, ◌≡◌, ◌≢◌, ◌^◌, ◌<◌, ◌≤◌, ◌||◌, ◌&&◌, ◌++◌, ◌∙◌, ◌==◌, not, is_some, if◌then◌else◌, All, ℕ, Bool, true, false, List, [], ◌∷◌, length, Option, Some, None, Result, Ok, Err, slice_get, inl, inr, refl, sym, ap, subst, arith}
use Rattle.std.specs.Option.{option_map}
use Rattle.std.proofs.Math.Logic.{∥∥₁_map}
use Rattle.std.proofs.lemmas.Bool.{false≢true, leb-false}
use Rattle.std.proofs.lemmas.Bool.Decides.{eqb_tells}
use Rattle.iom_walk_coherence.specs.Walks.{Walk}
use Rattle.iom_base.specs.declared.grant_rights.GrantRights.{GrantRights}
use Rattle.iom_base.specs.declared.mode.Mode.{Mode}
use Rattle.iom_base.specs.declared.owner.Owner.{Owner}
use Rattle.iom_base.specs.declared.owner.Owner.TheVariants.{System, OneDevice}
use Rattle.iom_base.specs.GrantRights.{rights_of}
use Rattle.iom_device_dir.specs.declared.context.Context.{Context}
use Rattle.iom_device_dir.specs.Paths.{ids_below}
use Rattle.iom_directory_build.specs.Pages.{HasPage, root_level}
use Rattle.iom_driver.specs.Fences.{last_fence, fence_of}
use Rattle.iom_driver.specs.declared.device.Attachment.{Attachment}
use Rattle.iom_driver.specs.declared.device.Attachment.TheVariants.{Detached, Attached, Quarantined, Leaving}
use Rattle.iom_driver.specs.declared.device.Stages.{Stages}
use Rattle.iom_driver.specs.Attaching.{AnswersAttach, TakesRoot, root_frames}
use Rattle.iom_driver.specs.Calls.{AnswersGrant, TakesTables, IsSame}
use Rattle.iom_driver.specs.Choices.{AreHighestFree, owned_by, cleared}
use Rattle.iom_driver.specs.Devices.{attachment_by_id, has_device, attached_stages, owned_stages, owned_stages_of, has_trusted_cache}
use Rattle.iom_driver.specs.Directory.{context_for, DirectoryStands}
use Rattle.iom_driver.specs.Layout.{IsLevels, command_frame, completion_frame, directory_frame, completion_address}
use Rattle.iom_base.specs.DeviceIds.{id_limit}
use Rattle.iom_driver.specs.Ready.{IsReady}
use Rattle.iom_driver.specs.Reasons.{why_not_attach, why_not_grant}
use Rattle.iom_driver.specs.State.{DriverState}
use Rattle.iom_driver.proofs.Chosen.{are_chosen}
use Rattle.iom_driver.proofs.Lists.{get_there}
use Rattle.iom_driver.proofs.Owners.{NotAmong, Among, not_among, mark_stays, length-owned_by, bytes_stay, zero_among}
use Rattle.iom_iommu.specs.Parts.{registers_of, contexts_of, flights_of}
use Rattle.iom_ledger.specs.declared.ledger.Ledger.{Ledger}
use Rattle.iom_base.specs.declared.refusal.Refusal.{Refusal}
use Rattle.iom_base.specs.declared.refusal.Refusal.TheVariants.{NoSuchDevice, AlreadyAttached, IdTooWide, NotTrusted, IovaBusy}
use Rattle.iom_base.specs.Refusals.{NoneApplies}
use Rattle.iom_ledger.specs.Shown.{Agrees, held_in, lingering_in}
use Rattle.iom_machine.specs.declared.outcome.Outcome.{Outcome}
use Rattle.iom_machine.specs.declared.state.Attachment.TheVariants as shown
use Rattle.iom_phys_mem.specs.Words.{zeroed}
use Rattle.iom_table_frames.specs.Owners.{IsFreeForTable, has_owner}
use Rattle.iom_world_effects.specs.Devices.{shown_attachment}
use Rattle.iom_world_effects.specs.Effect.{AttachesDevice, GrantsPage, PollsTickets}
use Rattle.iom_world_effects.specs.Parts.{Parts}
use Rattle.iom_tlb.specs.declared.space.Space.{Space}
use Rattle.iom_world_effects.specs.Read.{space_in, space_at, values_of, accesses_of}
use Rattle.iom_world_effects.specs.Invariant.{InvariantWith, ContextsAreTrue, known_ids, row_ids}
use Rattle.iom_world_effects.proofs.CachedLemmas.{same_cached, spaces_same, none_spaced}
use Rattle.iom_world_effects.proofs.DeviceLemmas.{shown_set, trusted_set, ids_set, attachment_other, owns_nothing}
use Rattle.iom_world_effects.proofs.DriverLemmas.{DriverInvariant}
use Rattle.iom_world_invariant.proofs.HungKeeps.{AreZeros, AreOnce, hung_keeps}
use Rattle.iom_world_invariant.proofs.PollKeeps as polling
use Rattle.iom_world_invariant.proofs.PollKeeps.{same_known}
use Rattle.iom_world_effects.proofs.SceneCalls.{AreSameValues, same_scene, AttachesDetached, attach_scene, GrantsOne, grant_scene}
use Rattle.iom_world_effects.proofs.TakenLemmas.{taken_all}
use Rattle.iom_world_effects.proofs.InvariantLemmas.{same_completed, LeavesWord, same_iommu, sound_from, same_waiting, fixed_frames, none_at, kinds_kept, same_epochs}
use Rattle.iom_coherence.specs.Attachments.{caches_translations}
use Rattle.iom_device.specs.Caches.{kind_in}

-- small facts of tests
pub none_of : {A : Type 0} (o : Option A) → is_some o ≡ false → o ≡ None
none_of None nothing = refl
none_of (Some x) nothing = absurd (false≢true (sym nothing))

pub not_false : (b : Bool) → not b ≡ false → b ≡ true
not_false true it = refl
not_false false it = absurd (false≢true (sym it))

pub attached_is : (a : Attachment) (stage : Stages) → attached_stages a ≡ Some stage → a ≡ Attached stage
attached_is Detached stage at = cc
attached_is (Attached own) stage at = let same : own ≡ stage = cc in ap Attached same
attached_is (Quarantined ticket own) stage at = cc
attached_is (Leaving ticket own) stage at = cc

-- a frame without an owner is nobody's
pub unmarked : (owners : List (Option Owner)) (n : ℕ) → n < length owners → has_owner owners n ≡ false → slice_get owners n ≡ Some None
unmarked owners n lt free = by (get_there owners n lt) free
  where
    by : (m : Option Owner) × (slice_get owners n ≡ Some m) → has_owner owners n ≡ false → slice_get owners n ≡ Some None
    by (None, at) free = at
    by (Some owner, at) free = absurd (contra (rw at at free))
      where
        contra : true ≡ false → ⊥
        contra e = cc

-- and none that has an owner
pub owned_differs : (owners : List (Option Owner)) (n free : ℕ) (owner : Owner) → slice_get owners n ≡ Some (Some owner) → slice_get owners free ≡ Some None → n ≢ free
owned_differs owners n free owner own none e =
    let both : ◌≡◌ {A = Option (Option Owner)} (Some (Some owner)) (Some None) = sym own ∙ ap (λ j. slice_get owners j) e ∙ none in cc

-- a frame that is somebody's isn't chosen
pub owned_not_chosen : (owners : List (Option Owner)) (ledger : Ledger) (named : Option ℕ) (limit count n : ℕ) (chosen : List ℕ) (owner : Owner) → limit ≡ length owners
    → AreHighestFree owners ledger named limit count chosen → slice_get owners n ≡ Some (Some owner) → NotAmong n chosen
owned_not_chosen owners ledger named limit count n chosen owner long highest mark =
    let chose = are_chosen owners ledger named limit count chosen highest in
    not_among (λ t. (t < limit) × IsFreeForTable owners ledger named t) n chosen (λ k d lt. (chose.inside k d lt, chose.free k d lt))
    (λ is_free. owned_differs owners n n owner mark (unmarked owners n (subst (λ m. n < m) long is_free.0) is_free.1.unmarked) refl)

-- frames that are chosen are chosen once
chosen_once : (owners : List (Option Owner)) (ledger : Ledger) (named : Option ℕ) (limit count : ℕ) (chosen : List ℕ) → AreHighestFree owners ledger named limit count chosen → AreOnce chosen
chosen_once owners ledger named limit zero [] chose = tt
chosen_once owners ledger named limit zero (frame ∷ frames) chose = absurd chose
chosen_once owners ledger named limit (suc count) [] chose = absurd chose
chosen_once owners ledger named limit (suc count) (frame ∷ frames) chose =
    (not_among (λ t. t < frame) frame frames (are_chosen owners ledger named frame count frames chose.1).inside (λ lt. absurd (omega (arith, lt))), chosen_once owners ledger named frame count frames chose.1)

among_before : (n : ℕ) (fs gs : List ℕ) → NotAmong n (fs ++ gs) → NotAmong n fs
among_before n [] gs apart = tt
among_before n (f ∷ fs) gs apart = (apart.0, among_before n fs gs apart.1)

zeros_where : (m : List (List ℕ)) (fs : List ℕ) → ((n : ℕ) → Among n fs → slice_get m n ≡ Some zeroed) → AreZeros m fs
zeros_where m [] all = tt
zeros_where m (f ∷ fs) all = (all f (inl refl), zeros_where m fs (λ n here. all n (inr here)))

among_more : (n : ℕ) (fs gs : List ℕ) → Among n fs → Among n (fs ++ gs)
among_more n [] gs here = absurd here
among_more n (f ∷ fs) gs (inl same) = inl same
among_more n (f ∷ fs) gs (inr later) = inr (among_more n fs gs later)

-- the directory has room for the ids below the limit
room_for_ids : (levels : ℕ) → IsLevels levels → id_limit levels ≡ ids_below (root_level levels)
room_for_ids levels range = by levels range.0 range.1
  where
    by : (n : ℕ) → 1 ≤ n → n ≤ 3 → id_limit n ≡ ids_below (root_level n)
    by zero one three = absurd (omega arith)
    by (suc zero) one three = refl
    by (suc (suc zero)) one three = refl
    by (suc (suc (suc zero))) one three = refl
    by (suc (suc (suc (suc n)))) one three = absurd (omega arith)

-- ATTACH: a frame of the system's that is no page of the directory keeps its bytes
pub root_keeps : (d : DriverState) (memory : List (List ℕ)) (id : ℕ) (mode : Mode) (ats : Bool) (d' : DriverState) (memory' : List (List ℕ)) → length memory ≡ length d.owners → IsLevels d.levels
    → NoneApplies (why_not_attach d id ats) → DirectoryStands memory d.owners d.devices d.levels → TakesRoot d memory id mode ats d' memory'
    → (f : ℕ) → slice_get d.owners f ≡ Some (Some System) → ((g : ℕ) → HasPage memory (root_level d.levels) (directory_frame (length memory)) g → f ≢ g)
    → slice_get memory' f ≡ slice_get memory f
root_keeps d memory id mode ats d' memory' size range admitted stands takes f system apart =
    let top = root_level d.levels in
    let roots = root_frames mode takes.stage.root in
    let taken = takes.pages ++ roots in
    let low : id < id_limit d.levels = leb-false (id_limit d.levels) id (none_at (why_not_attach d id ats) 3 _ IdTooWide refl admitted) in
    let below : id < ids_below top = subst (λ n. id < n) (room_for_ids d.levels range) low in
    let free = taken_all d memory id takes.stage.root mode takes.pages takes.chosen takes.root in
    let inside : All (λ n. n < length memory) taken = λ k n lt. (free k n lt).0 in
    let not_taken : (g : ℕ) → slice_get d.owners g ≡ Some (Some System) → NotAmong g taken = λ g of.
    not_among (λ n. (n < length memory) × IsFreeForTable d.owners d.ledger None n) g taken free
    (λ is_free. owned_differs d.owners g g System of (unmarked d.owners g (subst (λ m. g < m) size is_free.0) is_free.1.unmarked) refl) in
    let zeros : AreZeros (cleared taken memory) takes.pages =
    zeros_where (cleared taken memory) takes.pages (λ n here. zero_among taken memory inside n (among_more n takes.pages roots here)) in
    ap (λ m. slice_get m f) takes.bytes
    ∙ hung_keeps memory (cleared taken memory) top (directory_frame (length memory)) id takes.pages (context_for takes.stage) f
    (λ lower g le at.
    let page : HasPage memory top (directory_frame (length memory)) g = (lower, id, le, below, at) in
    let mine = not_taken g (stands.own g page).system in
    (bytes_stay g taken memory mine, apart g page, among_before g takes.pages roots mine))
    zeros (chosen_once d.owners d.ledger None (length memory) _ takes.pages takes.chosen)
    (among_before f takes.pages roots (not_taken f system))
    ∙ bytes_stay f taken memory (not_taken f system)

module _ {walks : List Walk} (old new : Parts) (events id : ℕ) (invariants : InvariantWith walks old events) (own : DriverInvariant old.driver) (ats : Bool)
    (admitted : NoneApplies (why_not_attach old.driver id ats)) (mode : Mode) (takes : TakesRoot old.driver old.memory id mode ats new.driver new.memory) where
  pub attach_keeps_ring : slice_get new.memory (command_frame (length old.memory)) ≡ slice_get old.memory (command_frame (length old.memory))
  attach_keeps_ring =
      let stands = invariants.ready.stand.directory invariants.started in
      root_keeps old.driver old.memory id mode ats new.driver new.memory invariants.ready.stand.size own.sizes.in_range admitted stands takes
      (command_frame (length old.memory)) (fixed_frames old events invariants own).command (λ g page same. (stands.own g page).no_command (sym same))

  pub attach_keeps_word : slice_get new.memory (completion_frame (length old.memory)) ≡ slice_get old.memory (completion_frame (length old.memory))
  attach_keeps_word =
      let stands = invariants.ready.stand.directory invariants.started in
      root_keeps old.driver old.memory id mode ats new.driver new.memory invariants.ready.stand.size own.sizes.in_range admitted stands takes
      (completion_frame (length old.memory)) (fixed_frames old events invariants own).completion (λ g page same. (stands.own g page).no_completion (sym same))

module _ {walks : List Walk} (old new : Parts) (events id : ℕ) (invariants : InvariantWith walks old events) (own : DriverInvariant old.driver) (ready : IsReady new.driver new.memory (registers_of new.iommu))
    (ats : Bool) (admitted : NoneApplies (why_not_attach old.driver id ats)) (mode : Mode) (takes : TakesRoot old.driver old.memory id mode ats new.driver new.memory)
    (iommu : new.iommu ≡ old.iommu) (devices : new.devices ≡ old.devices) (fabric : new.fabric ≡ old.fabric) where
  leaves_attached : LeavesWord old new
  leaves_attached = record {
    size = ready.stand.size ∙ ap (λ (d : DriverState). length d.owners) takes.driver ∙ length-owned_by (OneDevice id) (root_frames mode takes.stage.root) (owned_by System takes.pages old.driver.owners)
        ∙ length-owned_by System takes.pages old.driver.owners ∙ sym invariants.ready.stand.size;
    word = attach_keeps_word old new events id invariants own ats admitted mode takes;
  }

  plugged : has_device old.driver.devices id ≡ true
  plugged = not_false (has_device old.driver.devices id) (none_at (why_not_attach old.driver id ats) 1 _ NoSuchDevice refl admitted)

  owns_none : owned_stages_of old.driver.devices id ≡ None
  owns_none = none_of (owned_stages_of old.driver.devices id) (none_at (why_not_attach old.driver id ats) 2 _ AlreadyAttached refl admitted)

  -- who has an address space keeps it
  spaces_attached : (other : ℕ) (space : Space) → space_at old.driver.devices other ≡ Some space → space_at new.driver.devices other ≡ Some space
  spaces_attached other space at = elim (eqb_tells other id) [
    | inl e ↦ absurd (none_spaced old.driver.devices other space (ap (owned_stages_of old.driver.devices) e.1 ∙ owns_none) at)
    | inr ne ↦ ap (λ (s : DriverState). space_at s.devices other) takes.driver
        ∙ ap (λ a. option_map (λ (stage : Stages). space_in stage.mode stage.number) (owned_stages a)) (attachment_other old.driver.devices id other (Attached takes.stage) ne.1) ∙ at
  ]

  -- with ATS only a device that has a cache of its own
  trusted_if : ats ≡ true → caches_translations (kind_in old.devices id) ≡ true
  trusted_if with =
      let tested : (ats && not (has_trusted_cache old.driver.devices id)) ≡ false = none_at (why_not_attach old.driver id ats) 4 _ NotTrusted refl admitted in
      sym (invariants.known.trusted id) ∙ not_false (has_trusted_cache old.driver.devices id) (ap (λ (b : Bool). b && not (has_trusted_cache old.driver.devices id)) (sym with) ∙ tested)

  attaches_detached : AttachesDetached (values_of old) (values_of new) id mode ats
  attaches_detached = record {
    trusted = trusted_if;
    detached = ap shown_attachment (owns_nothing (attachment_by_id old.driver.devices id) owns_none);
    attached = λ d. ap (λ (s : DriverState). shown_attachment (attachment_by_id s.devices d)) takes.driver ∙ shown_set old.driver.devices id (Attached takes.stage) plugged d
        ∙ ap (λ m. if id == d then shown.Attached m takes.stage.ats else shown_attachment (attachment_by_id old.driver.devices d)) takes.in_mode
        ∙ ap (λ a. if id == d then shown.Attached mode a else shown_attachment (attachment_by_id old.driver.devices d)) takes.with_ats;
    agrees = λ h agrees. subst (λ (s : DriverState). Agrees s.ledger h) (sym takes.driver) agrees;
    address = ap completion_address leaves_attached.size;
    waiting = same_waiting old new events invariants (ap registers_of iommu) (attach_keeps_ring old new events id invariants own ats admitted mode takes);
    completed = same_completed old.memory new.memory leaves_attached.size leaves_attached.word;
    last_fence = ap (λ (d : DriverState). last_fence d) takes.driver;
    given = ap (λ (d : DriverState). d.given) takes.driver;
    confirmed = ap (λ (d : DriverState). d.confirmed) takes.driver;
    so_far = ap (λ i. (flights_of i).so_far) iommu;
    in_flight = ap (λ i. accesses_of (flights_of i).rows) iommu;
    kinds = kinds_kept old new devices;
    contexts = λ d is. ap (λ i. is_some (contexts_of i d)) (sym iommu) ∙ is;
    cached = same_cached old new iommu devices fabric (ap (λ (d : DriverState). fence_of d) takes.driver) spaces_attached;
  }

  -- nothing was cached for a device that had no stage
  contexts_attached : ContextsAreTrue new
  contexts_attached other context cached =
      let was : option_map context_for (owned_stages_of old.driver.devices other) ≡ Some context = invariants.contexts other context (ap (λ i. contexts_of i other) (sym iommu) ∙ cached) in
      elim (eqb_tells other id) [
        | inl e ↦ absurd (none_some (ap (option_map context_for) (sym owns_none) ∙ ap (λ k. option_map context_for (owned_stages_of old.driver.devices k)) (sym e.1) ∙ was))
        | inr ne ↦ ap (λ (s : DriverState). option_map context_for (owned_stages_of s.devices other)) takes.driver
            ∙ ap (λ a. option_map context_for (owned_stages a)) (attachment_other old.driver.devices id other (Attached takes.stage) ne.1) ∙ was
      ]
    where
      none_some : ◌≡◌ {A = Option Context} None (Some context) → ⊥
      none_some same = cc

  pub attached_sound : InvariantWith walks new events
  attached_sound =
      sound_from old new events invariants leaves_attached (same_iommu old new iommu) (ap (λ (d : DriverState). d.started) takes.driver) ready
      (same_known old new devices fabric (ap (λ (d : DriverState). known_ids d.devices) takes.driver ∙ ids_set old.driver.devices id (Attached takes.stage))
      (λ d. ap (λ (s : DriverState). has_trusted_cache s.devices d) takes.driver ∙ trusted_set old.driver.devices id (Attached takes.stage) d) (ap (λ i. row_ids (flights_of i).rows) iommu) invariants.known)
      (same_epochs old new events invariants devices)
      (subst (λ (d : DriverState). d.given < 2 ^ 32) (sym takes.driver) invariants.small)
      contexts_attached
      (∥∥₁_map invariants.copies (attach_scene (values_of old) (values_of new) id mode ats attaches_detached walks))

pub keeps_attached : {walks : List Walk} (old new : Parts) (events id : ℕ) (mode : Mode) (ats : Bool) (reply : Outcome) → InvariantWith walks old events → DriverInvariant old.driver → IsReady new.driver new.memory (registers_of new.iommu)
    → AttachesDevice old id mode ats reply new → InvariantWith walks new events
keeps_attached {walks = walks} old new events id mode ats reply invariants own ready attaches = by attaches.answer attaches.call
  where
    by : (answer : Result (Unit {0}) Refusal) → AnswersAttach old.driver old.memory id mode ats answer new.driver new.memory → InvariantWith walks new events
    by (Ok done) (admitted, takes) = attached_sound old new events id invariants own ready ats admitted mode takes attaches.iommu attaches.devices attaches.fabric
    by (Err why) (refused, driver_stays, memory_stays) = rw (memory_stays, attaches.iommu, driver_stays, attaches.devices, attaches.fabric) invariants

-- a page that isn't busy
nothing_there : {A : Type 0} (held lingering : Option A) → (is_some held || is_some lingering) ≡ false → (held ≡ None) × (lingering ≡ None)
nothing_there None None vacant = (refl, refl)
nothing_there None (Some x) vacant = absurd (false≢true (sym vacant))
nothing_there (Some x) lingering vacant = absurd (false≢true (sym vacant))

-- a page that may be granted is vacant
pub vacant_where : (d : DriverState) (id page frame : ℕ) → NoneApplies (why_not_grant d id page frame) → (held_in d.ledger id page ≡ None) × (lingering_in d.ledger id page ≡ None)
vacant_where d id page frame none = nothing_there _ _ (none_at (why_not_grant d id page frame) 7 _ IovaBusy refl none)

-- GRANT: the system's frames keep their bytes
pub tables_keep_system : (d : DriverState) (memory : List (List ℕ)) (id page frame : ℕ) (rights : GrantRights) (d' : DriverState) (memory' : List (List ℕ)) → length memory ≡ length d.owners
    → TakesTables d memory id page frame rights d' memory' → (n : ℕ) → slice_get d.owners n ≡ Some (Some System) → slice_get memory' n ≡ slice_get memory n
tables_keep_system d memory id page frame rights d' memory' size takes n system =
    let apart = owned_not_chosen d.owners d.ledger (Some frame) (length memory) _ n takes.tables System size takes.chosen system in
    takes.others n (λ now.
    let both : ◌≡◌ {A = Option (Option Owner)} (Some (Some System)) (Some (Some (OneDevice id))) =
    sym system ∙ sym (mark_stays (OneDevice id) n takes.tables d.owners apart) ∙ sym (ap (λ (e : DriverState). slice_get e.owners n) takes.driver) ∙ now in cc)

module _ {walks : List Walk} (old new : Parts) (events id page frame : ℕ) (rights : GrantRights) (invariants : InvariantWith walks old events) (own : DriverInvariant old.driver)
    (ready : IsReady new.driver new.memory (registers_of new.iommu)) (admitted : NoneApplies (why_not_grant old.driver id page frame))
    (takes : TakesTables old.driver old.memory id page frame rights new.driver new.memory) (iommu : new.iommu ≡ old.iommu) (devices : new.devices ≡ old.devices) (fabric : new.fabric ≡ old.fabric) where
  grant_keeps_system : (n : ℕ) → slice_get old.driver.owners n ≡ Some (Some System) → slice_get new.memory n ≡ slice_get old.memory n
  grant_keeps_system = tables_keep_system old.driver old.memory id page frame rights new.driver new.memory invariants.ready.stand.size takes

  leaves_granted : LeavesWord old new
  leaves_granted = record {
    size = ready.stand.size ∙ ap (λ (d : DriverState). length d.owners) takes.driver ∙ length-owned_by (OneDevice id) takes.tables old.driver.owners ∙ sym invariants.ready.stand.size;
    word = grant_keeps_system (completion_frame (length old.memory)) (fixed_frames old events invariants own).completion;
  }

  grants_one : GrantsOne (values_of old) (values_of new) id page frame (rights_of rights)
  grants_one =
      let vacant = vacant_where old.driver id page frame admitted in
      record {
        mode = takes.stage.mode;
        ats = takes.stage.ats;
        attached = ap shown_attachment (attached_is (attachment_by_id old.driver.devices id) takes.stage takes.attached);
        not_held = vacant.0;
        not_lingering = vacant.1;
        agrees = takes.agrees;
        address = ap completion_address leaves_granted.size;
        waiting = same_waiting old new events invariants (ap registers_of iommu) (grant_keeps_system (command_frame (length old.memory)) (fixed_frames old events invariants own).command);
        completed = same_completed old.memory new.memory leaves_granted.size leaves_granted.word;
        last_fence = ap (λ (d : DriverState). last_fence d) takes.driver;
        given = ap (λ (d : DriverState). d.given) takes.driver;
        confirmed = ap (λ (d : DriverState). d.confirmed) takes.driver;
        so_far = ap (λ i. (flights_of i).so_far) iommu;
        in_flight = ap (λ i. accesses_of (flights_of i).rows) iommu;
        kinds = kinds_kept old new devices;
        attachments = λ d. ap (λ (s : DriverState). shown_attachment (attachment_by_id s.devices d)) takes.driver;
        contexts = λ d is. ap (λ i. is_some (contexts_of i d)) (sym iommu) ∙ is;
        cached = same_cached old new iommu devices fabric (ap (λ (d : DriverState). fence_of d) takes.driver) (spaces_same old.driver.devices new.driver.devices (ap (λ (d : DriverState). d.devices) takes.driver));
      }

  pub granted_sound : InvariantWith walks new events
  granted_sound =
      sound_from old new events invariants leaves_granted (same_iommu old new iommu) (ap (λ (d : DriverState). d.started) takes.driver) ready
      (same_known old new devices fabric (ap (λ (d : DriverState). known_ids d.devices) takes.driver) (λ d. ap (λ (s : DriverState). has_trusted_cache s.devices d) takes.driver)
      (ap (λ i. row_ids (flights_of i).rows) iommu) invariants.known)
      (same_epochs old new events invariants devices)
      (subst (λ n. n < 2 ^ 32) (sym (ap (λ (d : DriverState). d.given) takes.driver)) invariants.small)
      (λ other context cached.
      ap (λ (s : DriverState). option_map context_for (owned_stages_of s.devices other)) takes.driver ∙ invariants.contexts other context (ap (λ i. contexts_of i other) (sym iommu) ∙ cached))
      (∥∥₁_map invariants.copies (grant_scene (values_of old) (values_of new) id page frame (rights_of rights) grants_one walks))

-- nothing changes but what room the driver's ledger has
pub roomy_sound : {walks : List Walk} (old new : Parts) (events : ℕ) → InvariantWith walks old events → IsReady new.driver new.memory (registers_of new.iommu) → IsSame old.driver new.driver
    → new.memory ≡ old.memory → new.iommu ≡ old.iommu → new.devices ≡ old.devices → new.fabric ≡ old.fabric → InvariantWith walks new events
roomy_sound {walks = walks} old new events invariants ready same memory iommu devices fabric =
    let size : length new.memory ≡ length old.memory = ap (λ m. length m) memory in
    let word : slice_get new.memory (completion_frame (length old.memory)) ≡ slice_get old.memory (completion_frame (length old.memory)) = ap (λ m. slice_get m (completion_frame (length old.memory))) memory in
    let alike : AreSameValues (values_of old) (values_of new) = record {
      agrees = same.agrees;
      address = ap completion_address size;
      waiting = same_waiting old new events invariants (ap registers_of iommu) (ap (λ m. slice_get m (command_frame (length old.memory))) memory);
      completed = same_completed old.memory new.memory size word;
      last_fence = ap (λ (d : DriverState). last_fence d) same.rest;
      given = ap (λ (d : DriverState). d.given) same.rest;
      confirmed = ap (λ (d : DriverState). d.confirmed) same.rest;
      so_far = ap (λ i. (flights_of i).so_far) iommu;
      in_flight = ap (λ i. accesses_of (flights_of i).rows) iommu;
      kinds = kinds_kept old new devices;
      attachments = λ d. ap (λ (s : DriverState). shown_attachment (attachment_by_id s.devices d)) same.rest;
      contexts = λ d is. ap (λ i. is_some (contexts_of i d)) (sym iommu) ∙ is;
      cached = same_cached old new iommu devices fabric (ap (λ (d : DriverState). fence_of d) same.rest) (spaces_same old.driver.devices new.driver.devices (ap (λ (d : DriverState). d.devices) same.rest));
    } in
    sound_from old new events invariants (record { size = size; word = word }) (same_iommu old new iommu) (ap (λ (d : DriverState). d.started) same.rest) ready
    (same_known old new devices fabric (ap (λ (d : DriverState). known_ids d.devices) same.rest) (λ d. ap (λ (s : DriverState). has_trusted_cache s.devices d) same.rest)
    (ap (λ i. row_ids (flights_of i).rows) iommu) invariants.known)
    (same_epochs old new events invariants devices)
    (subst (λ n. n < 2 ^ 32) (sym (ap (λ (d : DriverState). d.given) same.rest)) invariants.small)
    (λ other context cached.
    ap (λ (s : DriverState). option_map context_for (owned_stages_of s.devices other)) same.rest ∙ invariants.contexts other context (ap (λ i. contexts_of i other) (sym iommu) ∙ cached))
    (∥∥₁_map invariants.copies (same_scene (values_of old) (values_of new) alike walks))

pub keeps_granted : {walks : List Walk} (old new : Parts) (events id page frame : ℕ) (rights : GrantRights) (reply : Outcome) → InvariantWith walks old events → DriverInvariant old.driver
    → IsReady new.driver new.memory (registers_of new.iommu) → GrantsPage old id page frame rights reply new → InvariantWith walks new events
keeps_granted {walks = walks} old new events id page frame rights reply invariants own ready grants = by grants.answer grants.call
  where
    by : (answer : Result (Unit {0}) Refusal) → AnswersGrant old.driver old.memory id page frame rights answer new.driver new.memory → InvariantWith walks new events
    by (Ok done) (admitted, takes) = granted_sound old new events id page frame rights invariants own ready admitted takes grants.iommu grants.devices grants.fabric
    by (Err why) (refused, same, memory_stays) = roomy_sound old new events invariants ready same memory_stays grants.iommu grants.devices grants.fabric

pub keeps_polled : {walks : List Walk} (old new : Parts) (events : ℕ) (reply : Outcome) → InvariantWith walks old events → DriverInvariant old.driver → IsReady new.driver new.memory (registers_of new.iommu)
    → PollsTickets old reply new → InvariantWith walks new events
keeps_polled = polling.keeps_polled

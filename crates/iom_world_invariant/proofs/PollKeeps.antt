-- What stays true of a world at a poll: a device that left has no context cached any more, since its ticket's fence came after the command that drops it.
use Rattle.std.proofs.Common.{◌≡◌, ◌+◌, ◌-◌, ◌^◌, ◌<◌, ◌≤◌, ◌==◌, ◌⊎◌, inl, inr, ◌∙◌, min, nat_le, nat_lt, is_some, ℕ, Bool, true, false, List, length, Option, Some, Result, Ok, Err, slice_get, refl, sym, ap, subst, arith, if◌then◌else◌}
use Rattle.std.specs.Option.{option_map, option_map_or}
use Rattle.std.proofs.Math.Logic.{∥∥₁_map}
use Rattle.std.proofs.Math.Nat.{min-le_right}
use Rattle.std.proofs.lemmas.Bool.{eqb-true, leb-true}
use Rattle.iom_walk_coherence.specs.Walks.{Walk}
use Rattle.iom_base.specs.declared.owner.Owner.{Owner}
use Rattle.iom_base.specs.declared.owner.Owner.TheVariants.{System}
use Rattle.iom_driver.specs.declared.answers.Polled.{Polled}
use Rattle.iom_driver.specs.declared.device.Attachment.{Attachment}
use Rattle.iom_driver.specs.declared.device.Attachment.TheVariants.{Detached, Attached, Quarantined, Leaving}
use Rattle.iom_driver.specs.declared.device.Stages.{Stages}
use Rattle.iom_driver.specs.Confirmed.{has_left_until, is_gone}
use Rattle.iom_driver.specs.Devices.{attachment_by_id, has_trusted_cache, owned_stages, owned_stages_of}
use Rattle.iom_driver.specs.Directory.{context_for}
use Rattle.iom_driver.specs.Fences.{last_fence, fence_of, done_by}
use Rattle.iom_driver.specs.Layout.{command_frame, completion_frame, completion_address}
use Rattle.iom_driver.specs.Polling.{AnswersPoll, ConfirmsDone, done_after}
use Rattle.iom_driver.specs.Ready.{IsReady}
use Rattle.iom_driver.specs.State.{DriverState}
use Rattle.iom_iommu.specs.Parts.{registers_of, contexts_of, translations_of, flights_of, fence_snapshot_of, slots_of}
use Rattle.iom_base.specs.declared.refusal.Refusal.{Refusal}
use Rattle.iom_machine.specs.declared.outcome.Outcome.{Outcome}
use Rattle.iom_registers.specs.declared.registers.Registers.{Registers}
use Rattle.iom_registers.specs.Queues.{command_status}
use Rattle.iom_world_effects.specs.Devices.{shown_attachment}
use Rattle.iom_world_effects.specs.Effect.{PollsTickets}
use Rattle.iom_world_effects.specs.Parts.{Parts}
use Rattle.iom_world_effects.specs.Queued.{completed_in}
use Rattle.iom_tlb.specs.declared.space.Space.{Space}
use Rattle.iom_world_effects.specs.Read.{space_in, space_at, values_of, accesses_of}
use Rattle.iom_world_effects.specs.Scenes.{HasSceneWith}
use Rattle.iom_world_effects.specs.Invariant.{InvariantWith, AreKnown, ContextsAreTrue, known_ids, plugged_ids, row_ids}
use Rattle.iom_world_effects.proofs.DeviceLemmas.{after, attachment_confirmed, trusted_confirmed, ids_confirmed, left_is}
use Rattle.iom_world_effects.proofs.DriverLemmas.{DriverInvariant}
use Rattle.iom_world_effects.proofs.CachedLemmas.{none_spaced}
use Rattle.iom_world_effects.proofs.ConfirmScenes.{AreDone}
use Rattle.iom_world_effects.proofs.SceneCalls.{HasLeft, ConfirmsSome, poll_scene}
use Rattle.iom_world_effects.proofs.InvariantLemmas.{detached_uncached, same_completed, LeavesWord, same_iommu, sound_from, same_waiting, fixed_frames, kinds_kept, same_epochs, traffic_kept}
use Rattle.iom_coherence.specs.Attachments.{caches_translations}
use Rattle.iom_device.specs.Caches.{kind_in}
use Rattle.iom_device.specs.declared.device.Device.{Device}

-- driver and world and IOMMU have the same ids as before, and the driver trusts the same devices
pub same_known : (old new : Parts) → new.devices ≡ old.devices → new.fabric ≡ old.fabric → known_ids new.driver.devices ≡ known_ids old.driver.devices
    → ((id : ℕ) → has_trusted_cache new.driver.devices id ≡ has_trusted_cache old.driver.devices id) → row_ids (flights_of new.iommu).rows ≡ row_ids (flights_of old.iommu).rows
    → AreKnown old → AreKnown new
same_known old new devices fabric driver trusted rows known = record {
  own_ids = rw devices known.own_ids;
  driver = driver ∙ known.driver ∙ ap plugged_ids (sym devices);
  iommu = rows ∙ known.iommu ∙ ap plugged_ids (sym devices);
  caches = rw devices known.caches;
  trusted = λ id. trusted id ∙ known.trusted id ∙ sym (ap (λ (ds : List Device). caches_translations (kind_in ds id)) devices);
  askers = rw (devices, fabric) known.askers;
}

-- no ticket is done that wasn't given
done_low : (d : DriverState) (word : ℕ) → done_by d word ≤ d.given
done_low d word = by (nat_lt word (d.restarted + d.restarts))
  where
    by : (none : Bool) → (if none then 0 else min (word - d.restarts) d.given) ≤ d.given
    by true = omega arith
    by false = min-le_right (word - d.restarts) d.given

-- a poll confirms tickets that were given
pub polled_most : (r : Registers) (d : DriverState) (memory : List (List ℕ)) (polled : Polled) (next : DriverState) (memory' : List (List ℕ)) → DriverInvariant d
    → ConfirmsDone r d memory polled next memory' → d.confirmed + polled.count ≤ d.given
polled_most r d memory polled next memory' own confirms =
    let low = done_low d confirms.word in let ordered = own.tickets.ordered in let count = confirms.count in omega (arith, low, ordered, count)

module _ {walks : List Walk} (old new : Parts) (events : ℕ) (polled : Polled) (invariants : InvariantWith walks old events) (own : DriverInvariant old.driver) (ready : IsReady new.driver new.memory (registers_of new.iommu))
    (confirms : ConfirmsDone (registers_of old.iommu) old.driver old.memory polled new.driver new.memory) (iommu : new.iommu ≡ old.iommu) (devices : new.devices ≡ old.devices) (fabric : new.fabric ≡ old.fabric) where
  done : ℕ
  done = done_after old.driver polled

  -- the system's frames stay
  system_kept : (n : ℕ) → slice_get old.driver.owners n ≡ Some (Some System) → slice_get new.memory n ≡ slice_get old.memory n
  system_kept n system = confirms.cleared.others n (λ owner at.
      let both : ◌≡◌ {A = Option (Option Owner)} (Some (Some owner)) (Some (Some System)) = sym at ∙ system in
      let same : owner ≡ System = cc in
      subst (λ o. is_gone (done_after old.driver polled) old.driver.devices o ≡ false) (sym same) refl)

  leaves : LeavesWord old new
  leaves = record { size = confirms.cleared.size; word = system_kept (completion_frame (length old.memory)) (fixed_frames old events invariants own).completion }

  attachment_now : (id : ℕ) → attachment_by_id new.driver.devices id ≡ after (done_after old.driver polled) (attachment_by_id old.driver.devices id)
  attachment_now id = ap (λ (d : DriverState). attachment_by_id d.devices id) confirms.driver ∙ attachment_confirmed (done_after old.driver polled) old.driver.devices id

  -- who has an address space keeps it, or has left
  spaces_polled : (id : ℕ) (space : Space) (a : Attachment) → attachment_by_id old.driver.devices id ≡ a → space_at old.driver.devices id ≡ Some space
      → (space_at new.driver.devices id ≡ Some space) ⊎ HasLeft (shown_attachment (attachment_by_id old.driver.devices id)) old.driver.confirmed (old.driver.confirmed + polled.count)
  spaces_polled id space Detached is at = absurd (none_spaced old.driver.devices id space (ap owned_stages is) at)
  spaces_polled id space (Attached stage) is at = inl (
      ap (λ a. option_map (λ (s : Stages). space_in s.mode s.number) (owned_stages a)) (attachment_now id ∙ ap (after (done_after old.driver polled)) is)
      ∙ sym (ap (λ a. option_map (λ (s : Stages). space_in s.mode s.number) (owned_stages a)) is) ∙ at)
  spaces_polled id space (Quarantined ticket stage) is at = inl (
      ap (λ a. option_map (λ (s : Stages). space_in s.mode s.number) (owned_stages a)) (attachment_now id ∙ ap (after (done_after old.driver polled)) is)
      ∙ sym (ap (λ a. option_map (λ (s : Stages). space_in s.mode s.number) (owned_stages a)) is) ∙ at)
  spaces_polled id space (Leaving ticket stage) is at = by (nat_le ticket (done_after old.driver polled)) refl
    where
      by : (b : Bool) → nat_le ticket (done_after old.driver polled) ≡ b
          → (space_at new.driver.devices id ≡ Some space) ⊎ HasLeft (shown_attachment (attachment_by_id old.driver.devices id)) old.driver.confirmed (old.driver.confirmed + polled.count)
      by true gone =
          let low : ticket ≤ old.driver.confirmed + polled.count = leb-true ticket (old.driver.confirmed + polled.count) gone in
          inr (subst (λ a. HasLeft (shown_attachment a) old.driver.confirmed (old.driver.confirmed + polled.count)) (sym is) ((own.leaving id ticket stage is).0, low))
      by false unchanged = inl (
          ap (λ a. option_map (λ (s : Stages). space_in s.mode s.number) (owned_stages a))
          (attachment_now id ∙ ap (after (done_after old.driver polled)) is ∙ ap (λ b. if b then Detached else Leaving ticket stage) unchanged)
          ∙ sym (ap (λ a. option_map (λ (s : Stages). space_in s.mode s.number) (owned_stages a)) is) ∙ at)

  most : old.driver.confirmed + polled.count ≤ old.driver.given
  most = polled_most (registers_of old.iommu) old.driver old.memory polled new.driver new.memory own confirms

  -- the fences of these tickets are done
  fences_done : AreDone (fence_of old.driver) old.driver.confirmed polled.count (completed_in old.memory)
  fences_done ticket above up_to =
      let completed : completed_in old.memory ≡ confirms.word = ap (λ o. option_map_or (λ word. word) o 0) confirms.read in
      subst (λ w. fence_of old.driver ticket ≤ w) (sym completed) ((confirms.exact ticket above (omega (arith, up_to, most))).0 up_to)

  abbrev rest : ℕ
  rest = old.driver.given - (old.driver.confirmed + polled.count)

  confirms_some : ConfirmsSome (values_of old) (values_of new) polled.count rest
  confirms_some =
      record {
        many = let low = most in omega (arith, low);
        done = fences_done;
        agrees = confirms.agrees;
        attachments = λ d.
            ap shown_attachment (attachment_now d)
            ∙ sym (left_is old.driver.confirmed polled.count (λ e. shown_attachment (attachment_by_id old.driver.devices e)) d (attachment_by_id old.driver.devices d) refl
            (λ ticket stage is. (own.leaving d ticket stage is).0));
        address = ap completion_address leaves.size;
        waiting = same_waiting old new events invariants (ap registers_of iommu) (system_kept (command_frame (length old.memory)) (fixed_frames old events invariants own).command);
        completed = same_completed old.memory new.memory leaves.size leaves.word;
        last_fence = ap (λ (d : DriverState). last_fence d) confirms.driver;
        fences = ap (λ (d : DriverState). fence_of d) confirms.driver;
        stopped = ap (λ i. (command_status (registers_of i)).cmd_to) iommu;
        given = ap (λ (d : DriverState). d.given) confirms.driver;
        confirmed = ap (λ (d : DriverState). d.confirmed) confirms.driver;
        so_far = ap (λ i. (flights_of i).so_far) iommu;
        in_flight = ap (λ i. accesses_of (flights_of i).rows) iommu;
        kinds = kinds_kept old new devices;
        contexts = λ d is. ap (λ i. is_some (contexts_of i d)) (sym iommu) ∙ is;
        spaces = λ d space at. spaces_polled d space (attachment_by_id old.driver.devices d) refl at;
        translations = ap translations_of iommu;
        fence_snapshot = ap fence_snapshot_of iommu;
        traffic = traffic_kept old new devices fabric (ap slots_of iommu);
      }

  contexts_true : ∥ HasSceneWith (values_of new) walks ∥₁ → ContextsAreTrue new
  contexts_true copies id context cached = by (has_left_until (done_after old.driver polled) (attachment_by_id old.driver.devices id)) refl
    where
      by : (b : Bool) → has_left_until (done_after old.driver polled) (attachment_by_id old.driver.devices id) ≡ b → option_map context_for (owned_stages_of new.driver.devices id) ≡ Some context
      by true gone =
          absurd (detached_uncached new id context copies cached
          (ap shown_attachment (attachment_now id) ∙ ap (λ b. shown_attachment (if b then Detached else attachment_by_id old.driver.devices id)) gone))
      by false unchanged =
          ap (λ a. option_map context_for (owned_stages a)) (attachment_now id)
          ∙ ap (λ b. option_map context_for (owned_stages (if b then Detached else attachment_by_id old.driver.devices id))) unchanged
          ∙ invariants.contexts id context (ap (λ i. contexts_of i id) (sym iommu) ∙ cached)

  pub polled_sound : InvariantWith walks new events
  polled_sound =
      let given : new.driver.given ≡ old.driver.given = ap (λ (d : DriverState). d.given) confirms.driver in
      let small = invariants.small in
      let copies = ∥∥₁_map invariants.copies (poll_scene (values_of old) (values_of new) polled.count rest confirms_some walks) in
      sound_from old new events invariants leaves (same_iommu old new iommu) (ap (λ (d : DriverState). d.started) confirms.driver) ready
      (same_known old new devices fabric (ap (λ (d : DriverState). known_ids d.devices) confirms.driver ∙ ids_confirmed (done_after old.driver polled) old.driver.devices)
      (λ d. ap (λ (s : DriverState). has_trusted_cache s.devices d) confirms.driver ∙ trusted_confirmed (done_after old.driver polled) old.driver.devices d)
      (ap (λ i. row_ids (flights_of i).rows) iommu) invariants.known)
      (same_epochs old new events invariants devices)
      (omega (arith, given, small)) (contexts_true copies) copies

pub keeps_polled : {walks : List Walk} (old new : Parts) (events : ℕ) (reply : Outcome) → InvariantWith walks old events → DriverInvariant old.driver → IsReady new.driver new.memory (registers_of new.iommu)
    → PollsTickets old reply new → InvariantWith walks new events
keeps_polled {walks = walks} old new events reply invariants own ready polls = by polls.answer polls.call
  where
    by : (answer : Result Polled Refusal) → AnswersPoll (registers_of old.iommu) old.driver old.memory answer new.driver new.memory → InvariantWith walks new events
    by (Ok polled) (admitted, confirms) = polled_sound old new events polled invariants own ready confirms polls.iommu polls.devices polls.fabric
    by (Err why) (refused, driver_stays, memory_stays) = rw (memory_stays, polls.iommu, driver_stays, polls.devices, polls.fabric) invariants

-- the tickets that a poll tells are 32 bits wide
pub polled_low : {walks : List Walk} (old : Parts) (events : ℕ) (polled : Polled) (next : DriverState) (memory : List (List ℕ)) → InvariantWith walks old events → DriverInvariant old.driver
    → AnswersPoll (registers_of old.iommu) old.driver old.memory (Ok polled) next memory → polled.first + polled.count ≤ 2 ^ 32
polled_low old events polled next memory invariants own (admitted, confirms) =
    let small = invariants.small in
    let most = polled_most (registers_of old.iommu) old.driver old.memory polled next memory own confirms in
    by (polled.count == 0) refl confirms.first most small
  where
    by : (none : Bool) → (polled.count == 0) ≡ none → polled.first ≡ (if none then 0 else old.driver.confirmed + 1) → old.driver.confirmed + polled.count ≤ old.driver.given
        → old.driver.given < 2 ^ 32 → polled.first + polled.count ≤ 2 ^ 32
    by true test first most small = omega (arith, eqb-true polled.count 0 test, first)
    by false test first most small = omega (arith, first, most, small)

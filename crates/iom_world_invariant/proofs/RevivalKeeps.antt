-- What stays true of a world when a device that was quarantined is attached again.
use Rattle.std.proofs.Common.{suc, ◌≡◌, ◌≢◌, ◌^◌, ◌<◌, ◌≤◌, ◌∙◌, inl, inr, is_some, ℕ, true, false, List, [], length, Option, Some, None, Result, Ok, Err, slice_get, refl, sym, ap, subst, arith}
use Rattle.std.specs.Option.{option_map}
use Rattle.std.proofs.Math.Logic.{∥∥₁_map}
use Rattle.std.proofs.lemmas.Bool.{false≢true, leb-false}
use Rattle.std.proofs.lemmas.Bool.Decides.{eqb_tells}
use Rattle.iom_walk_coherence.specs.Transitions.{AreOfOthers}
use Rattle.iom_walk_coherence.specs.Walks.{Walk}
use Rattle.iom_device_dir.specs.Paths.{ids_below}
use Rattle.iom_directory_build.specs.Pages.{HasPage, root_level}
use Rattle.iom_driver.specs.declared.device.Attachment.TheVariants.{Attached}
use Rattle.iom_driver.specs.Devices.{attachment_by_id, has_device, owned_stages, owned_stages_of, has_trusted_cache, with_attachment}
use Rattle.iom_driver.specs.Directory.{context_for}
use Rattle.iom_driver.specs.Fences.{last_fence, fence_of}
use Rattle.iom_driver.specs.Layout.{command_frame, completion_frame, completion_address, directory_frame}
use Rattle.iom_base.specs.DeviceIds.{id_limit}
use Rattle.iom_driver.specs.Ready.{IsReady}
use Rattle.iom_driver.specs.Reasons.{why_not_revive, waits_for_its_ticket}
use Rattle.iom_driver.specs.Revivals.{WritesContextAgain, AnswersRevive}
use Rattle.iom_driver.specs.State.{DriverState}
use Rattle.iom_driver.proofs.Directories.{room_for_ids}
use Rattle.iom_iommu.specs.Parts.{registers_of, contexts_of, translations_of, flights_of, fence_snapshot_of, slots_of}
use Rattle.iom_base.specs.declared.refusal.Refusal.{Refusal}
use Rattle.iom_base.specs.declared.refusal.Refusal.TheVariants.{NoSuchDevice, StillGranted}
use Rattle.iom_base.specs.Refusals.{NoneApplies}
use Rattle.iom_machine.specs.declared.outcome.Outcome.{Outcome}
use Rattle.iom_machine.specs.declared.outcome.Outcome.TheVariants as outcome
use Rattle.iom_base.specs.declared.device_kind.DeviceKind.{DeviceKind}
use Rattle.iom_registers.specs.Queues.{command_status}
use Rattle.iom_device.specs.declared.device.Device.{Device}
use Rattle.iom_device.specs.Caches.{cache_of, device_with, epoch_in, kind_in}
use Rattle.iom_world_effects.specs.Answers.{outcome_of_done}
use Rattle.iom_world_effects.specs.Devices.{shown_attachment}
use Rattle.iom_world_effects.specs.Parts.{Parts}
use Rattle.iom_world_effects.specs.Read.{values_of, accesses_of}
use Rattle.iom_device.specs.Calls.{reset_of, with_reset, devices_revived}
use Rattle.iom_world_effects.specs.Recovery.{RevivesDevice}
use Rattle.iom_world_effects.specs.Invariant.{InvariantWith, known_ids}
use Rattle.iom_world_effects.specs.Traffic.{entries_in, traffic_of}
use Rattle.iom_world_effects.proofs.CacheSets.{kind_set}
use Rattle.iom_world_effects.proofs.CachedLemmas.{spaces_owned}
use Rattle.iom_world_effects.proofs.DeviceLemmas.{shown_set, trusted_set, ids_set, attachment_set, attachment_other}
use Rattle.iom_world_invariant.proofs.DriverKeeps.{not_false}
use Rattle.iom_world_effects.proofs.DriverLemmas.{DriverInvariant}
use Rattle.iom_world_invariant.proofs.HungKeeps.{hung_keeps}
use Rattle.iom_world_effects.proofs.PresentLemmas.{kind_absent, known_absent}
use Rattle.iom_world_invariant.proofs.ResetKeeps.{found_there, reset_epochs, reset_others, reset_under_way, reset_known}
use Rattle.iom_world_effects.proofs.WalksLeft.{AreLeft, given_up}
use Rattle.iom_world_effects.proofs.RevivalScenes.{RevivesOne, revival_scene}
use Rattle.iom_world_effects.proofs.InvariantLemmas.{same_completed, LeavesWord, same_iommu, sound_from, same_waiting, none_at}

-- a device that the driver knows is there
known_there : {walks : List Walk} (parts : Parts) (events id : ℕ) → InvariantWith walks parts events → has_device parts.driver.devices id ≡ true → is_some (device_with parts.devices id) ≡ true
known_there parts events id invariants there = by (kind_in parts.devices id) refl
  where
    by : (kind : Option DeviceKind) → kind_in parts.devices id ≡ kind → is_some (device_with parts.devices id) ≡ true
    by (Some kind) is = found_there parts.devices id kind is
    by None is = absurd (false≢true (sym (known_absent parts.driver.devices parts.devices id invariants.known.driver (kind_absent parts.devices id is)) ∙ there))

module _ {walks : List Walk} (old new : Parts) (events id : ℕ) (invariants : InvariantWith walks old events) (own : DriverInvariant old.driver) (admitted : NoneApplies (why_not_revive old.driver id))
    (writes : WritesContextAgain old.driver old.memory id new.driver new.memory) where
  -- a frame that is no page of the directory keeps its bytes
  again_keeps : (f : ℕ) → ((g : ℕ) → HasPage old.memory (root_level old.driver.levels) (directory_frame (length old.memory)) g → f ≢ g) → slice_get new.memory f ≡ slice_get old.memory f
  again_keeps f apart =
      let top = root_level old.driver.levels in
      let low : id < id_limit old.driver.levels = own.named id writes.stage (ap owned_stages writes.quarantined) in
      let below : id < ids_below top = subst (λ n. id < n) (room_for_ids old.driver.levels own.sizes.in_range) low in
      ap (λ m. slice_get m f) writes.bytes
      ∙ hung_keeps old.memory old.memory top (directory_frame (length old.memory)) id [] (context_for writes.stage) f
      (λ lower g le at. (refl, apart g (lower, id, le, below, at), tt)) tt tt tt

  pub again_keeps_ring : slice_get new.memory (command_frame (length old.memory)) ≡ slice_get old.memory (command_frame (length old.memory))
  again_keeps_ring = again_keeps (command_frame (length old.memory)) (λ g page same. ((invariants.ready.stand.directory invariants.started).own g page).no_command (sym same))

  pub again_keeps_word : slice_get new.memory (completion_frame (length old.memory)) ≡ slice_get old.memory (completion_frame (length old.memory))
  again_keeps_word = again_keeps (completion_frame (length old.memory)) (λ g page same. ((invariants.ready.stand.directory invariants.started).own g page).no_completion (sym same))

  pub revival_plugged : has_device old.driver.devices id ≡ true
  revival_plugged = not_false (has_device old.driver.devices id) (none_at (why_not_revive old.driver id) 1 _ NoSuchDevice refl admitted)

  -- its ticket is confirmed
  ticket_done : writes.ticket ≤ old.driver.confirmed
  ticket_done =
      let low = leb-false (suc old.driver.confirmed) writes.ticket
      (subst (λ a. waits_for_its_ticket old.driver.confirmed a ≡ false) writes.quarantined (none_at (why_not_revive old.driver id) 4 _ StillGranted refl admitted)) in
      omega (arith, low)

  -- it has the stages that it had
  owned_still : (other : ℕ) → owned_stages_of new.driver.devices other ≡ owned_stages_of old.driver.devices other
  owned_still other =
      ap (λ (s : DriverState). owned_stages_of s.devices other) writes.driver
      ∙ elim (eqb_tells other id) [
        | inl e ↦ ap (owned_stages_of (with_attachment old.driver.devices id (Attached writes.stage))) e.1
            ∙ ap owned_stages (attachment_set old.driver.devices id (Attached writes.stage) revival_plugged) ∙ sym (ap owned_stages writes.quarantined) ∙ sym (ap (owned_stages_of old.driver.devices) e.1)
        | inr ne ↦ ap owned_stages (attachment_other old.driver.devices id other (Attached writes.stage) ne.1)
      ]

module _ {walks : List Walk} (old new : Parts) (events id : ℕ) (invariants : InvariantWith walks old events) (own : DriverInvariant old.driver) (ready : IsReady new.driver new.memory (registers_of new.iommu))
    (below : epoch_in old.devices id < events) (admitted : NoneApplies (why_not_revive old.driver id)) (writes : WritesContextAgain old.driver old.memory id new.driver new.memory)
    (devices : new.devices ≡ with_reset old.devices id) (iommu : new.iommu ≡ old.iommu) (fabric : new.fabric ≡ old.fabric) where
  leaves : LeavesWord old new
  leaves = record {
    size = ready.stand.size ∙ ap (λ (d : DriverState). length d.owners) writes.driver ∙ sym invariants.ready.stand.size;
    word = again_keeps_word old new events id invariants own admitted writes;
  }

  revives_one : RevivesOne (values_of old) (values_of new) id (entries_in (with_reset old.devices id))
  revives_one = record {
    ticket = writes.ticket;
    mode = writes.stage.mode;
    ats = writes.stage.ats;
    quarantined = ap shown_attachment writes.quarantined;
    done = ticket_done old new events id invariants own admitted writes;
    attached = λ d. ap (λ (s : DriverState). shown_attachment (attachment_by_id s.devices d)) writes.driver
        ∙ shown_set old.driver.devices id (Attached writes.stage) (revival_plugged old new events id invariants own admitted writes) d;
    others = reset_others old.devices id invariants.known.own_ids (known_there old events id invariants (revival_plugged old new events id invariants own admitted writes));
    traffic = ap (λ (ds : List Device). traffic_of ds new.fabric (slots_of new.iommu)) devices
        ∙ ap (λ fs. traffic_of (with_reset old.devices id) fs (slots_of new.iommu)) fabric
        ∙ ap (λ i. traffic_of (with_reset old.devices id) old.fabric (slots_of i)) iommu
        ∙ reset_under_way old.devices old.fabric (slots_of old.iommu) id invariants.known.caches;
    ledger = ap (λ (d : DriverState). d.ledger) writes.driver;
    address = ap completion_address leaves.size;
    waiting = same_waiting old new events invariants (ap registers_of iommu) (again_keeps_ring old new events id invariants own admitted writes);
    completed = same_completed old.memory new.memory leaves.size leaves.word;
    last_fence = ap (λ (d : DriverState). last_fence d) writes.driver;
    fences = ap (λ (d : DriverState). fence_of d) writes.driver;
    given = ap (λ (d : DriverState). d.given) writes.driver;
    confirmed = ap (λ (d : DriverState). d.confirmed) writes.driver;
    so_far = ap (λ i. (flights_of i).so_far) iommu;
    in_flight = ap (λ i. accesses_of (flights_of i).rows) iommu;
    kinds = λ d. ap (λ (ds : List Device). kind_in ds d) devices ∙ kind_set old.devices id (reset_of (cache_of old.devices id)) d;
    contexts = λ d is. ap (λ i. is_some (contexts_of i d)) (sym iommu) ∙ is;
    spaces = spaces_owned old.driver.devices new.driver.devices (owned_still old new events id invariants own admitted writes);
    translations = λ key translation at. ap (λ i. translations_of i key) (sym iommu) ∙ at;
    fence_snapshot = ap fence_snapshot_of iommu;
    stopped = ap (λ i. (command_status (registers_of i)).cmd_to) iommu;
  }

  pub revived_sound : {left : List Walk} → AreOfOthers left id walks → InvariantWith left new events
  revived_sound {left = left} of_others =
      sound_from old new events invariants leaves (same_iommu old new iommu) (ap (λ (d : DriverState). d.started) writes.driver) ready
      (reset_known old new id invariants.known devices
      (ap (λ (d : DriverState). known_ids d.devices) writes.driver ∙ ids_set old.driver.devices id (Attached writes.stage))
      (λ d. ap (λ (s : DriverState). has_trusted_cache s.devices d) writes.driver ∙ trusted_set old.driver.devices id (Attached writes.stage) d) iommu fabric)
      (λ d. subst (λ (ds : List Device). epoch_in ds d ≤ events) (sym devices) (reset_epochs old.devices events id invariants.known.caches invariants.epochs below d))
      (subst (λ (d : DriverState). d.given < 2 ^ 32) (sym writes.driver) invariants.small)
      (λ other context cached.
      ap (option_map context_for) (owned_still old new events id invariants own admitted writes other) ∙ invariants.contexts other context (ap (λ i. contexts_of i other) (sym iommu) ∙ cached))
      (∥∥₁_map invariants.copies (revival_scene (values_of old) (values_of new) id (entries_in (with_reset old.devices id)) revives_one walks left of_others))

-- ALL STAYS TRUE: walks of the device are given up
pub keeps_revived : {walks left : List Walk} (old new : Parts) (events id : ℕ) (reply : Outcome) → InvariantWith walks old events → DriverInvariant old.driver → IsReady new.driver new.memory (registers_of new.iommu)
    → epoch_in old.devices id < events → RevivesDevice old id reply new → AreLeft (reply ≡ outcome.Done) id left walks → InvariantWith left new events
keeps_revived {left = left} old new events id reply invariants own ready below revives are_left = by revives.answer revives.reply_is revives.call revives.devices
  where
    by : (answer : Result (Unit {0}) Refusal) → reply ≡ outcome_of_done answer → AnswersRevive old.driver old.memory id answer new.driver new.memory → new.devices ≡ devices_revived answer old.devices id
        → InvariantWith left new events
    by (Ok done) reply_is (admitted, writes) devices =
        revived_sound old new events id invariants own ready below admitted writes devices revives.iommu revives.fabric (are_left.1 reply_is)
    by (Err why) reply_is (refused, driver_stays, memory_stays) devices = rw (memory_stays, revives.iommu, driver_stays, devices, revives.fabric) (given_up old events are_left.0 invariants)

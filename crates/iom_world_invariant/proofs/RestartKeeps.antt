-- What stays true of a world when the command queue is emptied, and filled with what is still needed.
use Rattle.std.proofs.Common.{◌≡◌, ◌+◌, ◌^◌, ◌<◌, ◌≤◌, ◌∙◌, is_some, ℕ, Bool, true, false, List, [], length, map, None, Result, Ok, Err, refl, sym, ap, subst, arith}
use Rattle.std.specs.Option.{option_map}
use Rattle.std.proofs.Math.Logic.{∥∥₁_map}
use Rattle.std.proofs.Math.Nat.{max-eq_right}
use Rattle.iom_walk_coherence.specs.Walks.{Walk}
use Rattle.iom_command_queue.specs.declared.entry.QueueEntry.{QueueEntry}
use Rattle.iom_command_queue.specs.declared.entry.QueueEntry.TheVariants as stands
use Rattle.iom_command_queue.specs.OpenSlots.{OpenSlots}
use Rattle.iom_driver.specs.declared.device.Attachment as driver
use Rattle.iom_driver.specs.declared.device.Attachment.TheVariants as attached
use Rattle.iom_driver.specs.declared.device.Device.{Device as Known}
use Rattle.iom_driver.specs.Devices.{attachment_by_id, owned_stages_of, has_trusted_cache}
use Rattle.iom_driver.specs.Directory.{context_for}
use Rattle.iom_driver.specs.Fences.{last_fence, fence_of}
use Rattle.iom_driver.specs.Layout.{completion_frame, completion_address}
use Rattle.iom_driver.specs.Ready.{IsReady}
use Rattle.iom_driver.specs.Restarts.{turned_off_and_on, all_requeued, restart_commands, QueuesRestart, AnswersRestart}
use Rattle.iom_driver.specs.State.{DriverState}
use Rattle.iom_fabric.specs.declared.fabric.OnLink.{OnLink}
use Rattle.iom_iommu.specs.Parts.{registers_of, contexts_of, translations_of, flights_of, fence_snapshot_of, slots_of, frames_of, mmio}
use Rattle.iom_inflight.specs.Flights.{Flights}
use Rattle.iom_base.specs.declared.refusal.Refusal.{Refusal}
use Rattle.iom_ledger.specs.Shown.{Agrees}
use Rattle.iom_machine.specs.declared.outcome.Outcome.{Outcome}
use Rattle.iom_machine.specs.declared.state.Attachment.TheVariants as shown
use Rattle.iom_base.specs.declared.mode.Mode.{Mode}
use Rattle.iom_registers.specs.Queues.{command_status, is_command_queue_on}
use Rattle.iom_tlb.specs.Content.{Translations}
use Rattle.iom_device.specs.declared.device.Device.{Device}
use Rattle.iom_world_effects.specs.Devices.{shown_attachment}
use Rattle.iom_iommu.specs.OwnIommu.{Iommu}
use Rattle.iom_world_effects.specs.Parts.{Parts}
use Rattle.iom_world_effects.specs.Read.{values_of, accesses_of}
use Rattle.iom_world_effects.specs.Recovery.{RestartsQueue}
use Rattle.iom_world_effects.specs.Invariant.{InvariantWith, IsUnmarked, known_ids, row_ids}
use Rattle.iom_world_effects.specs.Traffic.{traffic_of}
use Rattle.iom_world_effects.proofs.CachedLemmas.{spaces_same}
use Rattle.iom_world_effects.proofs.DriverLemmas.{DriverInvariant}
use Rattle.iom_world_invariant.proofs.PollKeeps.{same_known}
use Rattle.iom_world_invariant.proofs.ReleaseKeeps.{IsRung, rung_all}
use Rattle.iom_world_effects.proofs.RestartLists.{queued_requeued, restart_last, known_there}
use Rattle.iom_world_effects.proofs.RestartScenes.{RestartsAll, restart_scene}
use Rattle.iom_world_effects.proofs.InvariantLemmas.{same_completed, LeavesWord, kinds_kept, same_epochs, still_unmarked}

-- Of the IOMMU nothing changes but that its queue is on and empty, and that no request is open and no fence has counted; nothing is wrong any more.
pub record IsEmptied (old new : Iommu) : Type 0 where
  pub on : is_command_queue_on (registers_of new) ≡ true
  pub unmarked : IsUnmarked (registers_of new)
  pub stopped : (command_status (registers_of new)).cmd_to ≡ false
  pub contexts : (id : ℕ) → contexts_of new id ≡ contexts_of old id
  pub translations : translations_of new ≡ translations_of old
  pub fence_snapshot : fence_snapshot_of new ≡ None
  pub slots : slots_of new ≡ record (slots_of old) { open_slots = [] }
  pub flights : flights_of new ≡ flights_of old
  pub frames : frames_of new ≡ frames_of old

-- the queue is turned off and on
emptied_at_once : (old : Iommu) → is_command_queue_on (registers_of old) ≡ true → IsEmptied old (turned_off_and_on mmio old)
emptied_at_once old on = record {
  on = rw on refl;
  unmarked = record { loaded = rw on refl; legal = rw on refl };
  stopped = rw on refl;
  contexts = λ id. refl;
  translations = refl;
  fence_snapshot = rw on refl;
  slots = rw on refl;
  flights = refl;
  frames = refl;
}

-- and then commands are appended
emptied_rung : (old mid new : Iommu) → IsEmptied old mid → IsRung mid new → IsEmptied old new
emptied_rung old mid new emptied rung = record {
  on = rung.on ∙ emptied.on;
  unmarked = still_unmarked (registers_of mid) (registers_of new) rung.status emptied.unmarked;
  stopped = ap (λ c. c.cmd_to) rung.status ∙ emptied.stopped;
  contexts = λ id. rung.contexts id ∙ emptied.contexts id;
  translations = rung.translations ∙ emptied.translations;
  fence_snapshot = rung.fence_snapshot emptied.on ∙ emptied.fence_snapshot;
  slots = rung.slots emptied.on ∙ emptied.slots;
  flights = rung.flights ∙ emptied.flights;
  frames = rung.frames ∙ emptied.frames;
}

-- a device that leaves does so under a ticket that was given
given_to : (d : DriverState) → DriverInvariant d → (id ticket : ℕ) (mode : Mode) (ats : Bool) (a : driver.Attachment) → attachment_by_id d.devices id ≡ a
    → shown_attachment a ≡ shown.Leaving ticket mode ats → ticket ≤ d.given
given_to d own id ticket mode ats attached.Detached at is = cc
given_to d own id ticket mode ats (attached.Attached stage) at is = cc
given_to d own id ticket mode ats (attached.Quarantined other stage) at is = cc
given_to d own id ticket mode ats (attached.Leaving other stage) at is =
    let same : other ≡ ticket = cc in subst (λ t. t ≤ d.given) same (own.leaving id other stage at).1

-- each ticket that was given waits for the fence of the restart
waits_for_it : (d : DriverState) (ticket : ℕ) → ticket ≤ d.given → fence_of (record d { restarts = d.restarts + 1; restarted = d.given }) ticket ≡ last_fence d + 1
waits_for_it d ticket low = ap (λ n. n + (d.restarts + 1)) (max-eq_right low) ∙ omega arith

module _ {walks : List Walk} (old new : Parts) (events : ℕ) (invariants : InvariantWith walks old events) (own : DriverInvariant old.driver) (ready : IsReady new.driver new.memory (registers_of new.iommu))
    (queues : QueuesRestart mmio old.driver old.memory old.iommu new.driver new.memory new.iommu)
    (devices : new.devices ≡ old.devices) (fabric : new.fabric ≡ old.fabric) where
  emptied : IsEmptied old.iommu new.iommu
  emptied =
      emptied_rung old.iommu (turned_off_and_on mmio old.iommu) new.iommu (emptied_at_once old.iommu (invariants.ready.ring invariants.started).on)
      (rung_all (restart_commands old.driver.devices (completion_address (length old.memory)) (last_fence old.driver + 1)) old.memory new.memory (turned_off_and_on mmio old.iommu) new.iommu queues.queued)

  leaves : LeavesWord old new
  leaves = record {
    size = ready.stand.size ∙ ap (λ (d : DriverState). length d.owners) queues.driver ∙ sym invariants.ready.stand.size;
    word = queues.others (completion_frame (length old.memory)) (let many = own.sizes.size.0 in let size = invariants.ready.stand.size in λ same. absurd (omega (arith, size, many, same)));
  }

  same_devices : new.driver.devices ≡ old.driver.devices
  same_devices = ap (λ (d : DriverState). d.devices) queues.driver

  traffic_now : (values_of new).traffic ≡ record (values_of old).traffic { slots = [] }
  traffic_now =
      ap (λ (ds : List Device). traffic_of ds new.fabric (slots_of new.iommu)) devices
      ∙ ap (λ (ms : List OnLink). traffic_of old.devices ms (slots_of new.iommu)) fabric
      ∙ ap (traffic_of old.devices old.fabric) emptied.slots

  abbrev commands : List QueueEntry
  commands = map stands.Command (all_requeued old.driver.devices)

  restarts_all : RestartsAll (values_of old) (values_of new) (known_ids old.driver.devices) commands
  restarts_all = record {
    ordered = own.tickets.ordered;
    known = known_there old.driver.devices;
    given_to = λ d ticket mode ats is. given_to old.driver own d ticket mode ats (attachment_by_id old.driver.devices d) refl is;
    appended = queued_requeued (completion_address (length old.memory)) old.driver.devices own.ids;
    agrees = λ h agrees. subst (λ (s : DriverState). Agrees s.ledger h) (sym queues.driver) agrees;
    waiting = queues.list ∙ restart_last old.driver.devices (completion_address (length old.memory)) (last_fence old.driver + 1);
    address = ap completion_address leaves.size;
    completed = same_completed old.memory new.memory leaves.size leaves.word;
    last_fence = ap (λ (d : DriverState). last_fence d) queues.driver ∙ omega arith;
    fences = λ ticket low. ap (λ (d : DriverState). fence_of d ticket) queues.driver ∙ waits_for_it old.driver ticket low;
    given = ap (λ (d : DriverState). d.given) queues.driver;
    confirmed = ap (λ (d : DriverState). d.confirmed) queues.driver;
    so_far = ap (λ (f : Flights). f.so_far) emptied.flights;
    in_flight = ap (λ (f : Flights). accesses_of f.rows) emptied.flights;
    kinds = kinds_kept old new devices;
    attachments = λ d. ap (λ (s : DriverState). shown_attachment (attachment_by_id s.devices d)) queues.driver;
    contexts = λ d is. sym (ap is_some (emptied.contexts d)) ∙ is;
    spaces = spaces_same old.driver.devices new.driver.devices same_devices;
    translations = λ key translation at. sym (ap (λ (c : Translations). c key) emptied.translations) ∙ at;
    fence_snapshot = emptied.fence_snapshot;
    stopped = emptied.stopped;
    traffic = traffic_now;
  }

  pub restarted_sound : InvariantWith walks new events
  restarted_sound = record {
    ready = ready;
    started = ap (λ (d : DriverState). d.started) queues.driver ∙ invariants.started;
    unmarked = emptied.unmarked;
    size = emptied.frames ∙ invariants.size ∙ sym leaves.size;
    known = same_known old new devices fabric (ap known_ids same_devices) (λ d. ap (λ (ds : List Known). has_trusted_cache ds d) same_devices) (ap (λ (f : Flights). row_ids f.rows) emptied.flights) invariants.known;
    small = subst (λ (d : DriverState). d.given < 2 ^ 32) (sym queues.driver) invariants.small;
    counted = subst (λ (f : Flights). f.so_far ≤ events) (sym emptied.flights) invariants.counted;
    serials = subst (λ (s : OpenSlots). s.last ≤ events) (sym emptied.slots) invariants.serials;
    epochs = same_epochs old new events invariants devices;
    contexts = λ id context at. ap (λ (ds : List Known). option_map context_for (owned_stages_of ds id)) same_devices ∙ invariants.contexts id context (sym (emptied.contexts id) ∙ at);
    copies = ∥∥₁_map invariants.copies (restart_scene (values_of old) (values_of new) (known_ids old.driver.devices) commands restarts_all walks);
  }

pub keeps_restarted : {walks : List Walk} (old new : Parts) (events : ℕ) (reply : Outcome) → InvariantWith walks old events → DriverInvariant old.driver → IsReady new.driver new.memory (registers_of new.iommu)
    → RestartsQueue old reply new → InvariantWith walks new events
keeps_restarted {walks = walks} old new events reply invariants own ready restarts = by restarts.answer restarts.call
  where
    by : (answer : Result (Unit {0}) Refusal) → AnswersRestart mmio old.driver old.memory old.iommu answer new.driver new.memory new.iommu → InvariantWith walks new events
    by (Ok done) (admitted, queues) = restarted_sound old new events invariants own ready queues restarts.devices restarts.fabric
    by (Err why) (refused, driver_stays, memory_stays, iommu_stays) = rw (driver_stays, memory_stays, iommu_stays, restarts.devices, restarts.fabric) invariants

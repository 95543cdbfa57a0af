-- What stays true of a world while the reserved frames and the registers do: of requests, commits and what the processor writes.
use Rattle.std.proofs.Common.{◌≡◌, ◌≢◌, ◌*◌, ◌/◌, ◌<◌, ◌≤◌, ◌∙◌, ℕ, false, is_some, List, length, Option, Some, None, slice_get, refl, sym, ap, subst, arith}
use Rattle.std.specs.Option.{option_map_or}
use Rattle.std.proofs.Math.Logic.{∥∥₁_map}
use Rattle.std.proofs.lemmas.Bool.{false≢true}
use Rattle.iom_walk_coherence.specs.Walks.{Walk}
use Rattle.iom_command_queue.specs.OpenSlots.{OpenSlots}
use Rattle.iom_base.specs.declared.owner.Owner.{Owner}
use Rattle.iom_base.specs.declared.owner.Owner.TheVariants.{System}
use Rattle.iom_command_queue.specs.Waiting.{commands_in}
use Rattle.iom_driver.specs.Fences.{last_fence, fence_of}
use Rattle.iom_driver.specs.Devices.{attachment_by_id}
use Rattle.iom_driver.specs.Laws.{KeepsReserved, KeepsRing, LeavesCommands, LeavesAllElse}
use Rattle.iom_driver.specs.Layout.{AreFixed, command_frame, completion_frame, completion_address}
use Rattle.iom_driver.specs.Ready.{IsReady}
use Rattle.iom_driver.specs.State.{DriverState}
use Rattle.iom_driver.proofs.Lists.{get_there}
use Rattle.iom_driver.proofs.Ring.{same_commands}
use Rattle.iom_iommu.specs.Parts.{fence_snapshot_of, registers_of, flights_of, frames_of, slots_of}
use Rattle.iom_inflight.specs.Flights.{Flights}
use Rattle.iom_phys_mem.specs.Words.{word_at}
use Rattle.iom_registers.specs.declared.registers.Registers.{Registers}
use Rattle.iom_registers.specs.Queues.{command_status}
use Rattle.iom_table_frames.specs.Owners.{has_owner}
use Rattle.iom_world_effects.specs.Devices.{shown_attachment}
use Rattle.iom_world_effects.specs.Parts.{Parts}
use Rattle.iom_world_effects.specs.Queued.{completed_in}
use Rattle.iom_world_effects.specs.Read.{space_at, values_of}
use Rattle.iom_world_effects.specs.Scenes.{HasSceneWith}
use Rattle.iom_world_effects.specs.Invariant.{InvariantWith, ContextsAreTrue, row_ids}
use Rattle.iom_world_effects.proofs.DriverLemmas.{DriverInvariant}
use Rattle.iom_world_effects.proofs.PartsLemmas.{StaysReady}
use Rattle.iom_world_effects.proofs.SceneSteps.{KeepsGrants, KeepsQueue}
use Rattle.iom_world_effects.proofs.InvariantLemmas.{same_epochs, traffic_kept, kinds_kept, still_unmarked}

-- a frame without an owner is nobody's, and none that is somebody's
pub unmarked : (owners : List (Option Owner)) (frame : ℕ) → frame < length owners → has_owner owners frame ≡ false → slice_get owners frame ≡ Some None
unmarked owners frame below none =
    let there = get_there owners frame below in
    there.1 ∙ ap Some (by there.0 (sym (ap (λ (o : Option (Option Owner)). option_map_or (λ mark. is_some mark) o false) there.1) ∙ none))
  where
    by : (mark : Option Owner) → is_some mark ≡ false → mark ≡ None
    by None is = refl
    by (Some owner) is = absurd (false≢true (sym is))

pub owned_differs : (owners : List (Option Owner)) (n m : ℕ) (owner : Owner) → slice_get owners n ≡ Some (Some owner) → slice_get owners m ≡ Some None → n ≢ m
owned_differs owners n m owner own free same =
    let both : ◌≡◌ {A = Option (Option Owner)} (Some (Some owner)) (Some None) = sym own ∙ ap (λ k. slice_get owners k) same ∙ free in cc

-- the word at the beginning of a frame that keeps its bytes
word_of_frame : (m n : List (List ℕ)) (frame : ℕ) → slice_get n frame ≡ slice_get m frame → word_at 4 n (4096 * frame) ≡ word_at 4 m (4096 * frame)
word_of_frame m n frame same = let at : 4096 * frame / 4096 ≡ frame = omega arith in rw (at, same) refl

-- where its frame keeps its bytes, the completion word is the same
pub same_completed : (m n : List (List ℕ)) → length n ≡ length m → slice_get n (completion_frame (length m)) ≡ slice_get m (completion_frame (length m)) → completed_in n ≡ completed_in m
same_completed m n size same =
    ap (λ k. option_map_or (λ word. word) (word_at 4 n (completion_address k)) 0) size
    ∙ ap (λ o. option_map_or (λ word. word) o 0) (word_of_frame m n (completion_frame (length m)) same)

-- reserved frames, registers, driver, devices and messages stay, and so do the ids of the rows
pub record Leaves (old new : Parts) : Type 0 where
  pub size : length new.memory ≡ length old.memory
  pub reserved : (frame : ℕ) (owner : Owner) → slice_get old.driver.owners frame ≡ Some (Some owner) → slice_get new.memory frame ≡ slice_get old.memory frame
  pub registers : registers_of new.iommu ≡ registers_of old.iommu
  pub frames : frames_of new.iommu ≡ frames_of old.iommu
  pub slots : slots_of new.iommu ≡ slots_of old.iommu
  pub rows : row_ids (flights_of new.iommu).rows ≡ row_ids (flights_of old.iommu).rows
  pub driver : new.driver ≡ old.driver
  pub devices : new.devices ≡ old.devices
  pub fabric : new.fabric ≡ old.fabric

module _ {walks : List Walk} (old new : Parts) (events : ℕ) (invariants : InvariantWith walks old events) (own : DriverInvariant old.driver) (leaves : Leaves old new) where
  fixed : AreFixed old.driver.owners (length old.memory)
  fixed = subst (λ m. AreFixed old.driver.owners m) (sym invariants.ready.stand.size) own.fixed

  pub same_waiting : commands_in new.memory (registers_of new.iommu) ≡ commands_in old.memory (registers_of old.iommu)
  same_waiting =
      ap (λ r. commands_in new.memory r) leaves.registers
      ∙ same_commands old.memory new.memory (registers_of old.iommu) (invariants.ready.ring invariants.started) (leaves.reserved (command_frame (length old.memory)) System fixed.command)

  pub same_done : completed_in new.memory ≡ completed_in old.memory
  same_done = same_completed old.memory new.memory leaves.size (leaves.reserved (completion_frame (length old.memory)) System fixed.completion)

  pub grants_kept : KeepsGrants (values_of old) (values_of new)
  grants_kept = record {
    ledger = ap (λ (d : DriverState). d.ledger) leaves.driver;
    address = ap completion_address leaves.size;
    given = ap (λ (d : DriverState). d.given) leaves.driver;
    confirmed = ap (λ (d : DriverState). d.confirmed) leaves.driver;
    last_fence = ap (λ (d : DriverState). last_fence d) leaves.driver;
    fences = ap (λ (d : DriverState). fence_of d) leaves.driver;
    stopped = ap (λ (r : Registers). (command_status r).cmd_to) leaves.registers;
    kinds = kinds_kept old new leaves.devices;
    attachments = λ id. ap (λ (d : DriverState). shown_attachment (attachment_by_id d.devices id)) leaves.driver;
    spaces = λ id. ap (λ (d : DriverState). space_at d.devices id) leaves.driver;
  }

  pub queue_kept : fence_snapshot_of new.iommu ≡ fence_snapshot_of old.iommu → KeepsQueue (values_of old) (values_of new)
  queue_kept fence_snapshot = record { waiting = same_waiting; completed = same_done; fence_snapshot = fence_snapshot; traffic = traffic_kept old new leaves.devices leaves.fabric leaves.slots }

  pub sound_from : StaysReady old.driver → (flights_of new.iommu).so_far ≤ events → ContextsAreTrue new
      → (HasSceneWith (values_of old) walks → HasSceneWith (values_of new) walks) → InvariantWith walks new events
  sound_from unchanged counted contexts scene =
      let keeps : KeepsReserved old.driver old.memory new.memory = record { size = leaves.size; bytes = λ frame owner mark other. leaves.reserved frame owner mark } in
      let ring : KeepsRing (registers_of old.iommu) (registers_of old.iommu) = record { on = refl; base = refl; entries = refl; faults_on = refl; faults_base = refl; faults_head = refl; faults_tail = refl; mode = refl; root = refl } in
      record {
        ready = rw leaves.driver
            (unchanged old.memory new.memory (registers_of old.iommu) (registers_of new.iommu) invariants.ready keeps (subst (λ s. KeepsRing (registers_of old.iommu) s) (sym leaves.registers) ring));
        started = rw leaves.driver invariants.started;
        unmarked = still_unmarked (registers_of old.iommu) (registers_of new.iommu) (ap command_status leaves.registers) invariants.unmarked;
        size = leaves.frames ∙ invariants.size ∙ sym leaves.size;
        known = record {
          own_ids = rw leaves.devices invariants.known.own_ids;
          driver = rw (leaves.driver, leaves.devices) invariants.known.driver;
          iommu = leaves.rows ∙ rw leaves.devices invariants.known.iommu;
          caches = rw leaves.devices invariants.known.caches;
          trusted = rw (leaves.driver, leaves.devices) invariants.known.trusted;
          askers = rw (leaves.devices, leaves.fabric) invariants.known.askers;
        };
        serials = subst (λ (s : OpenSlots). s.last ≤ events) (sym leaves.slots) invariants.serials;
        epochs = same_epochs old new events invariants leaves.devices;
        small = rw leaves.driver invariants.small;
        counted = counted;
        contexts = contexts;
        copies = ∥∥₁_map invariants.copies scene;
      }

-- where a fault was reported: the fault queue's frame and registers changed, and of the IOMMU what it cached
pub record LeavesReport (old new : Parts) : Type 0 where
  pub ready : IsReady new.driver new.memory (registers_of new.iommu)
  pub else_same : LeavesAllElse old.memory new.memory (registers_of old.iommu) (registers_of new.iommu)
  pub frames : frames_of new.iommu ≡ frames_of old.iommu
  pub slots : slots_of new.iommu ≡ slots_of old.iommu
  pub flights : flights_of new.iommu ≡ flights_of old.iommu
  pub driver : new.driver ≡ old.driver
  pub devices : new.devices ≡ old.devices
  pub fabric : new.fabric ≡ old.fabric

-- the same registers of the command queue give the same commands
pub commands_by : (memory : List (List ℕ)) (r s : Registers) → LeavesCommands r s → commands_in memory s ≡ commands_in memory r
unfolding commands_in
commands_by memory r s same = rw (same.base, same.head, same.tail) refl

module _ {walks : List Walk} (old new : Parts) (events : ℕ) (invariants : InvariantWith walks old events) (own : DriverInvariant old.driver) (leaves : LeavesReport old new) where
  pub report_waiting : commands_in new.memory (registers_of new.iommu) ≡ commands_in old.memory (registers_of old.iommu)
  report_waiting =
      let many = own.sizes.size.0 in
      let size = invariants.ready.stand.size in
      commands_by new.memory (registers_of old.iommu) (registers_of new.iommu) leaves.else_same.registers
      ∙ same_commands old.memory new.memory (registers_of old.iommu) (invariants.ready.ring invariants.started)
      (leaves.else_same.frames (command_frame (length old.memory)) (λ same. absurd (omega (arith, many, size, same))))

  report_done : completed_in new.memory ≡ completed_in old.memory
  report_done =
      let many = own.sizes.size.0 in
      let size = invariants.ready.stand.size in
      same_completed old.memory new.memory leaves.else_same.size
      (leaves.else_same.frames (completion_frame (length old.memory)) (λ same. absurd (omega (arith, many, size, same))))

  pub report_grants : KeepsGrants (values_of old) (values_of new)
  report_grants = record {
    ledger = ap (λ (d : DriverState). d.ledger) leaves.driver;
    address = ap completion_address leaves.else_same.size;
    given = ap (λ (d : DriverState). d.given) leaves.driver;
    confirmed = ap (λ (d : DriverState). d.confirmed) leaves.driver;
    last_fence = ap (λ (d : DriverState). last_fence d) leaves.driver;
    fences = ap (λ (d : DriverState). fence_of d) leaves.driver;
    stopped = ap (λ c. c.cmd_to) leaves.else_same.registers.status;
    kinds = kinds_kept old new leaves.devices;
    attachments = λ id. ap (λ (d : DriverState). shown_attachment (attachment_by_id d.devices id)) leaves.driver;
    spaces = λ id. ap (λ (d : DriverState). space_at d.devices id) leaves.driver;
  }

  pub report_queue : fence_snapshot_of new.iommu ≡ fence_snapshot_of old.iommu → KeepsQueue (values_of old) (values_of new)
  report_queue fence_snapshot = record { waiting = report_waiting; completed = report_done; fence_snapshot = fence_snapshot; traffic = traffic_kept old new leaves.devices leaves.fabric leaves.slots }

  pub report_sound : (flights_of new.iommu).so_far ≤ events → ContextsAreTrue new → (HasSceneWith (values_of old) walks → HasSceneWith (values_of new) walks) → InvariantWith walks new events
  report_sound counted contexts scene = record {
    ready = leaves.ready;
    started = rw leaves.driver invariants.started;
    unmarked = still_unmarked (registers_of old.iommu) (registers_of new.iommu) leaves.else_same.registers.status invariants.unmarked;
    size = leaves.frames ∙ invariants.size ∙ sym leaves.else_same.size;
    known = record {
      own_ids = rw leaves.devices invariants.known.own_ids;
      driver = rw (leaves.driver, leaves.devices) invariants.known.driver;
      iommu = ap (λ (f : Flights). row_ids f.rows) leaves.flights ∙ rw leaves.devices invariants.known.iommu;
      caches = rw leaves.devices invariants.known.caches;
      trusted = rw (leaves.driver, leaves.devices) invariants.known.trusted;
      askers = rw (leaves.devices, leaves.fabric) invariants.known.askers;
    };
    serials = subst (λ (s : OpenSlots). s.last ≤ events) (sym leaves.slots) invariants.serials;
    epochs = same_epochs old new events invariants leaves.devices;
    small = rw leaves.driver invariants.small;
    counted = counted;
    contexts = contexts;
    copies = ∥∥₁_map invariants.copies scene;
  }

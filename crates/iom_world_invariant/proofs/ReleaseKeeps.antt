-- What stays true of a world when what a device holds at a page is released: its commands wait, the ticket's fence the last of them.
use Rattle.std.proofs.Common.{◌≡◌, ◌≢◌, ◌+◌, ◌^◌, ◌<◌, ◌++◌, ◌∙◌, nat_le, is_some, ℕ, Bool, true, false, List, [], ◌∷◌, length, map, Option, None, Some, Result, Ok, Err, slice_get, refl, sym, ap, subst, arith, if◌then◌else◌}
use Rattle.std.specs.Option.{option_map}
use Rattle.std.proofs.Math.Logic.{∥∥₁_map}
use Rattle.std.proofs.lemmas.Bool.{leb-false}
use Rattle.iom_walk_coherence.specs.Walks.{Walk}
use Rattle.iom_base.specs.Modes.{size_in}
use Rattle.iom_base.specs.declared.owner.Owner.{Owner}
use Rattle.iom_base.specs.declared.owner.Owner.TheVariants.{System, OneDevice}
use Rattle.iom_command_queue.specs.declared.command.Command.{Command}
use Rattle.iom_command_queue.specs.declared.entry.QueueEntry.TheVariants as stands
use Rattle.iom_command_queue.specs.Waiting.{commands_in}
use Rattle.iom_driver.specs.Fences.{last_fence, fence_of}
use Rattle.iom_driver.specs.declared.answers.Ticket as answers
use Rattle.iom_driver.specs.Appends.{invalidation, device_invalidation, release_commands, Appends, AppendsAll}
use Rattle.iom_driver.specs.Calls.{AnswersRelease, QueuesRelease}
use Rattle.iom_driver.specs.declared.device.Stages.{Stages}
use Rattle.iom_driver.specs.Devices.{attachment_by_id, owned_stages, owned_stages_of}
use Rattle.iom_driver.specs.Directory.{context_for}
use Rattle.iom_driver.specs.Layout.{completion_frame, completion_address}
use Rattle.iom_driver.specs.Ready.{IsReady}
use Rattle.iom_driver.specs.Reasons.{why_not_release}
use Rattle.iom_driver.specs.State.{DriverState}
use Rattle.iom_iommu.specs.OwnIommu.{Iommu}
use Rattle.iom_iommu.specs.Parts.{registers_of, contexts_of, translations_of, flights_of, fence_snapshot_of, frames_of, mmio, slots_of}
use Rattle.iom_base.specs.declared.refusal.Refusal.{Refusal}
use Rattle.iom_base.specs.declared.refusal.Refusal.TheVariants.{NumbersUsedUp}
use Rattle.iom_ledger.specs.declared.entry.HistoryEntry.TheVariants.{Released}
use Rattle.iom_ledger.specs.History.{History, confirms}
use Rattle.iom_ledger.specs.Shown.{Agrees}
use Rattle.iom_machine.specs.declared.outcome.Outcome.{Outcome}
use Rattle.iom_page_table.specs.FirstTables.{unmapped}
use Rattle.iom_registers.specs.Queues.{command_status, is_command_queue_on}
use Rattle.iom_world_effects.proofs.DriverLemmas.{next_fence}
use Rattle.iom_tlb.specs.Content.{Translations}
use Rattle.iom_world_effects.specs.Devices.{shown_attachment}
use Rattle.iom_world_effects.specs.Effect.{ReleasesPage}
use Rattle.iom_world_effects.specs.Parts.{Parts}
use Rattle.iom_tlb.specs.declared.space.Space.{Space}
use Rattle.iom_world_effects.specs.Read.{space_in, space_at, values_of, accesses_of}
use Rattle.iom_world_effects.specs.Invariant.{InvariantWith, known_ids, row_ids}
use Rattle.iom_world_invariant.proofs.DriverKeeps.{attached_is}
use Rattle.iom_world_effects.proofs.DriverLemmas.{DriverInvariant}
use Rattle.iom_world_invariant.proofs.PollKeeps.{same_known}
use Rattle.iom_coherence.specs.DriverCalls.{released_extent, queued_by_release}
use Rattle.iom_world_effects.proofs.CachedLemmas.{spaces_same}
use Rattle.iom_world_effects.proofs.QueuedLemmas.{queued_release, released_last}
use Rattle.iom_world_effects.proofs.SceneCalls.{KeepsCached, QueuesTicket, release_scene}
use Rattle.iom_world_effects.proofs.InvariantLemmas.{same_completed, LeavesWord, LeavesIommu, sound_from, fixed_frames, none_at}
use Rattle.iom_command_queue.specs.declared.entry.QueueEntry.{QueueEntry}
use Rattle.iom_iommu.specs.Parts.{slots_of}
use Rattle.iom_driver.specs.Devices.{has_trusted_cache}
use Rattle.iom_world_effects.proofs.InvariantLemmas.{traffic_kept, kinds_kept, same_epochs}

-- a frame of the system's isn't a device's
pub not_of_device : (owners : List (Option Owner)) (n id : ℕ) → slice_get owners n ≡ Some (Some System) → slice_get owners n ≢ Some (Some (OneDevice id))
not_of_device owners n id system own = let both : ◌≡◌ {A = Option (Option Owner)} (Some (Some System)) (Some (Some (OneDevice id))) = sym system ∙ own in cc

-- of the IOMMU nothing changes but the index that software writes
pub record IsRung (old new : Iommu) : Type 0 where
  pub status : command_status (registers_of new) ≡ command_status (registers_of old)
  pub on : is_command_queue_on (registers_of new) ≡ is_command_queue_on (registers_of old)
  pub contexts : (id : ℕ) → contexts_of new id ≡ contexts_of old id
  pub translations : translations_of new ≡ translations_of old
  pub fence_snapshot : is_command_queue_on (registers_of old) ≡ true → fence_snapshot_of new ≡ fence_snapshot_of old
  pub slots : is_command_queue_on (registers_of old) ≡ true → slots_of new ≡ slots_of old
  pub flights : flights_of new ≡ flights_of old
  pub frames : frames_of new ≡ frames_of old

rung_once : (memory memory' : List (List ℕ)) (old new : Iommu) (command : Command) → Appends mmio memory old command memory' new → IsRung old new
rung_once memory memory' old new command appends = record {
  status = ap (λ i. command_status (registers_of i)) appends.rung;
  on = ap (λ i. is_command_queue_on (registers_of i)) appends.rung;
  contexts = λ id. ap (λ i. contexts_of i id) appends.rung;
  translations = ap translations_of appends.rung;
  fence_snapshot = λ is_on. ap fence_snapshot_of appends.rung ∙ ap (λ (b : Bool). if b then fence_snapshot_of old else None) is_on;
  slots = λ is_on. ap slots_of appends.rung ∙ ap (λ (b : Bool). if b then slots_of old else record (slots_of old) { open_slots = [] }) is_on;
  flights = ap flights_of appends.rung;
  frames = ap frames_of appends.rung;
}

rung_both : (old mid new : Iommu) → IsRung old mid → IsRung mid new → IsRung old new
rung_both old mid new one other = record {
  status = other.status ∙ one.status;
  on = other.on ∙ one.on;
  contexts = λ id. other.contexts id ∙ one.contexts id;
  translations = other.translations ∙ one.translations;
  fence_snapshot = λ is_on. other.fence_snapshot (one.on ∙ is_on) ∙ one.fence_snapshot is_on;
  slots = λ is_on. other.slots (one.on ∙ is_on) ∙ one.slots is_on;
  flights = other.flights ∙ one.flights;
  frames = other.frames ∙ one.frames;
}

rung_none : (iommu : Iommu) → IsRung iommu iommu
rung_none iommu = record {
  status = refl;
  on = refl;
  contexts = λ id. refl;
  translations = refl;
  fence_snapshot = λ is_on. refl;
  slots = λ is_on. refl;
  flights = refl;
  frames = refl;
}

-- so often as there are commands
pub rung_all : (commands : List Command) (memory memory' : List (List ℕ)) (old new : Iommu) → AppendsAll mmio memory old commands memory' new → IsRung old new
rung_all [] memory memory' old new all = subst (IsRung old) (sym all.1) (rung_none old)
rung_all (command ∷ later) memory memory' old new (mid, between, first, rest) =
    rung_both old between new (rung_once memory mid old between command first) (rung_all later mid memory' between new rest)

pub rung_leaves : (old new : Parts) → is_command_queue_on (registers_of old.iommu) ≡ true → IsRung old.iommu new.iommu → LeavesIommu old new
rung_leaves old new on rung = record {
  status = rung.status;
  frames = rung.frames;
  so_far = ap (λ f. f.so_far) rung.flights;
  slots = rung.slots on;
}

pub rung_cached : (old new : Parts) → is_command_queue_on (registers_of old.iommu) ≡ true → IsRung old.iommu new.iommu → new.devices ≡ old.devices → new.fabric ≡ old.fabric
    → fence_of new.driver ≡ fence_of old.driver
    → ((id : ℕ) (space : Space) → space_at old.driver.devices id ≡ Some space → space_at new.driver.devices id ≡ Some space) → KeepsCached (values_of old) (values_of new)
rung_cached old new on rung devices fabric fences spaces = record {
  spaces = spaces;
  translations = λ key translation at. sym (ap (λ (c : Translations). c key) rung.translations) ∙ at;
  fence_snapshot = rung.fence_snapshot on;
  fences = fences;
  stopped = ap (λ c. c.cmd_to) rung.status;
  traffic = traffic_kept old new devices fabric (rung.slots on);
}

-- a ticket that is given is one of 32 bits
pub next_small : (given restarts : ℕ) → nat_le 4294967295 (given + restarts) ≡ false → given + 1 < 2 ^ 32
next_small given restarts numbers = let below : given + restarts < 4294967295 = leb-false 4294967295 (given + restarts) numbers in omega (arith, below)

module _ {walks : List Walk} (old new : Parts) (events id page ticket : ℕ) (invariants : InvariantWith walks old events) (own : DriverInvariant old.driver) (ready : IsReady new.driver new.memory (registers_of new.iommu))
    (numbers : nat_le 4294967295 (last_fence old.driver) ≡ false) (queues : QueuesRelease mmio old.driver old.memory old.iommu id page ticket new.driver new.memory new.iommu)
    (devices : new.devices ≡ old.devices) (fabric : new.fabric ≡ old.fabric) where
  rung : IsRung old.iommu new.iommu
  rung = rung_all (release_commands id queues.stage page (completion_address (length old.memory)) (last_fence old.driver + 1)) (unmapped (size_in queues.stage.mode) old.memory queues.stage.root page) new.memory old.iommu new.iommu queues.queued

  abbrev commands : List QueueEntry
  commands = stands.Command (invalidation queues.stage.mode queues.stage.number page) ∷ map stands.Command (device_invalidation id queues.stage page)

  leaves : LeavesWord old new
  leaves = record {
    size = ready.stand.size ∙ ap (λ (d : DriverState). length d.owners) queues.driver ∙ sym invariants.ready.stand.size;
    word =
        let fixed = fixed_frames old events invariants own in
        queues.others (completion_frame (length old.memory)) (not_of_device old.driver.owners (completion_frame (length old.memory)) id fixed.completion)
        (let many = own.sizes.size.0 in let size = invariants.ready.stand.size in omega (arith, size, many));
  }

  given_now : new.driver.given ≡ old.driver.given + 1
  given_now = ap (λ (d : DriverState). d.given) queues.driver ∙ queues.next

  queues_ticket : QueuesTicket (values_of old) (values_of new) commands (queued_by_release id (released_extent queues.stage.mode page) queues.stage.ats)
  queues_ticket =
      record {
        ordered = own.tickets.ordered;
        appended = queued_release (completion_address (length old.memory)) (space_at old.driver.devices) id page queues.stage
            (ap (option_map (λ (stage : Stages). space_in stage.mode stage.number)) (ap owned_stages (attached_is (attachment_by_id old.driver.devices id) queues.stage queues.attached)));
        waiting = queues.list
            ∙ ap (λ l. commands_in old.memory (registers_of old.iommu) ++ l) (released_last id page (completion_address (length old.memory)) (last_fence old.driver + 1) queues.stage);
        address = ap completion_address leaves.size;
        completed = same_completed old.memory new.memory leaves.size leaves.word;
        last_fence = ap (λ n. n + new.driver.restarts) given_now ∙ ap (λ n. old.driver.given + 1 + n) (ap (λ (d : DriverState). d.restarts) queues.driver) ∙ omega arith;
        next_fence = next_fence old.driver own;
        given = given_now;
        confirmed = ap (λ (d : DriverState). d.confirmed) queues.driver;
        so_far = ap (λ f. f.so_far) rung.flights;
        in_flight = ap (λ f. accesses_of f.rows) rung.flights;
        kinds = kinds_kept old new devices;
        contexts = λ d is. sym (ap is_some (rung.contexts d)) ∙ is;
        cached = rung_cached old new (invariants.ready.ring invariants.started).on rung devices fabric (ap (λ (d : DriverState). fence_of d) queues.driver) (spaces_same old.driver.devices new.driver.devices (ap (λ (d : DriverState). d.devices) queues.driver));
      }

  pub released_sound : InvariantWith walks new events
  released_sound =
      sound_from old new events invariants leaves (rung_leaves old new (invariants.ready.ring invariants.started).on rung) (ap (λ (d : DriverState). d.started) queues.driver) ready
      (same_known old new devices fabric (ap (λ (d : DriverState). known_ids d.devices) queues.driver) (λ d. ap (λ (s : DriverState). has_trusted_cache s.devices d) queues.driver)
      (ap (λ f. row_ids f.rows) rung.flights) invariants.known)
      (same_epochs old new events invariants devices)
      (subst (λ n. n < 2 ^ 32) (sym given_now) (next_small old.driver.given old.driver.restarts numbers))
      (λ other context cached.
      ap (λ (s : DriverState). option_map context_for (owned_stages_of s.devices other)) queues.driver ∙ invariants.contexts other context (sym (rung.contexts other) ∙ cached))
      (∥∥₁_map invariants.copies
      (release_scene (values_of old) (values_of new) id page queues.stage.mode queues.stage.ats commands queues_ticket
      (ap shown_attachment (attached_is (attachment_by_id old.driver.devices id) queues.stage queues.attached))
      (λ d. ap (λ (s : DriverState). shown_attachment (attachment_by_id s.devices d)) queues.driver)
      (subst (λ t. (h : History) → Agrees old.driver.ledger h → confirms h t ≡ false → Agrees new.driver.ledger (Released id page t ∷ h)) queues.next queues.agrees)
      walks))

pub keeps_released : {walks : List Walk} (old new : Parts) (events id page : ℕ) (reply : Outcome) → InvariantWith walks old events → DriverInvariant old.driver → IsReady new.driver new.memory (registers_of new.iommu)
    → ReleasesPage old id page reply new → InvariantWith walks new events
keeps_released {walks = walks} old new events id page reply invariants own ready releases = by releases.answer releases.call
  where
    by : (answer : Result answers.Ticket Refusal) → AnswersRelease mmio old.driver old.memory old.iommu id page answer new.driver new.memory new.iommu → InvariantWith walks new events
    by (Ok ticket) (admitted, queues) =
        released_sound old new events id page ticket.0 invariants own ready
        (none_at (why_not_release old.driver (registers_of old.iommu) id page) 7 (nat_le 4294967295 (last_fence old.driver)) NumbersUsedUp refl admitted) queues releases.devices releases.fabric
    by (Err why) (refused, driver_stays, memory_stays, iommu_stays) = rw (driver_stays, memory_stays, iommu_stays, releases.devices, releases.fabric) invariants

-- What stays true of a world when a device is quarantined: three more commands wait, and what it held lingers until the ticket of their fence is confirmed.
use Rattle.std.proofs.Common.{◌≡◌, ◌+◌, ◌^◌, ◌<◌, ◌==◌, ◌∙◌, inl, inr, nat_le, is_some, ℕ, true, false, List, [], ◌∷◌, length, Result, Ok, Err, refl, sym, ap, subst, arith, if◌then◌else◌}
use Rattle.std.specs.Option.{option_map}
use Rattle.std.proofs.Math.Logic.{∥∥₁_map}
use Rattle.std.proofs.lemmas.Bool.Decides.{eqb_tells}
use Rattle.iom_walk_coherence.specs.Walks.{Walk}
use Rattle.iom_base.specs.Modes.{size_in}
use Rattle.iom_command_queue.specs.declared.entry.QueueEntry.{QueueEntry}
use Rattle.iom_command_queue.specs.declared.entry.QueueEntry.TheVariants as stands
use Rattle.iom_coherence.specs.DriverCalls.{leave_commands}
use Rattle.iom_directory_build.specs.Pages.{root_level}
use Rattle.iom_directory_build.specs.Written.{without_context}
use Rattle.iom_driver.specs.declared.answers.Ticket as answers
use Rattle.iom_driver.specs.declared.device.Attachment.TheVariants.{Attached, Quarantined}
use Rattle.iom_driver.specs.declared.device.Stages.{Stages}
use Rattle.iom_driver.specs.Appends.{context_invalidation, space_invalidation, detach_commands}
use Rattle.iom_driver.specs.Devices.{attachment_by_id, has_device, owned_stages, owned_stages_of, has_trusted_cache, with_attachment}
use Rattle.iom_driver.specs.Directory.{context_for}
use Rattle.iom_driver.specs.Fences.{last_fence, fence_of}
use Rattle.iom_driver.specs.Layout.{completion_frame, completion_address, directory_frame}
use Rattle.iom_driver.specs.Quarantines.{all_unmapped, AnswersQuarantine, QueuesQuarantine}
use Rattle.iom_driver.specs.Ready.{IsReady}
use Rattle.iom_driver.specs.Reasons.{why_not_quarantine}
use Rattle.iom_driver.specs.State.{DriverState}
use Rattle.iom_driver.proofs.Places.{attached_there}
use Rattle.iom_iommu.specs.Parts.{registers_of, mmio}
use Rattle.iom_ledger.specs.declared.entry.HistoryEntry.TheVariants.{AllReleased}
use Rattle.iom_base.specs.declared.refusal.Refusal.{Refusal}
use Rattle.iom_base.specs.declared.refusal.Refusal.TheVariants.{NumbersUsedUp}
use Rattle.iom_ledger.specs.History.{History, confirms}
use Rattle.iom_ledger.specs.Shown.{Agrees}
use Rattle.iom_machine.specs.declared.outcome.Outcome.{Outcome}
use Rattle.iom_machine.specs.declared.state.Attachment.TheVariants as shown
use Rattle.iom_world_effects.specs.Devices.{shown_attachment}
use Rattle.iom_world_effects.specs.Parts.{Parts}
use Rattle.iom_world_effects.specs.Read.{space_in, space_at, values_of, accesses_of}
use Rattle.iom_world_effects.specs.Recovery.{QuarantinesDevice}
use Rattle.iom_world_effects.specs.Invariant.{InvariantWith, known_ids, row_ids}
use Rattle.iom_world_effects.proofs.CachedLemmas.{spaces_owned}
use Rattle.iom_world_effects.proofs.DeviceLemmas.{shown_set, trusted_set, ids_set, attachment_set, attachment_other}
use Rattle.iom_world_invariant.proofs.DriverKeeps.{attached_is}
use Rattle.iom_world_effects.proofs.DriverLemmas.{DriverInvariant, next_fence}
use Rattle.iom_world_invariant.proofs.PollKeeps.{same_known}
use Rattle.iom_world_effects.proofs.QuarantineScenes.{quarantine_scene}
use Rattle.iom_world_effects.proofs.QueuedLemmas.{queued_space}
use Rattle.iom_world_invariant.proofs.ReleaseKeeps.{not_of_device, rung_cached, IsRung, rung_all, rung_leaves, next_small}
use Rattle.iom_world_effects.proofs.SceneCalls.{QueuesTicket}
use Rattle.iom_world_effects.proofs.InvariantLemmas.{same_completed, LeavesWord, sound_from, fixed_frames, none_at, kinds_kept, same_epochs}

module _ {walks : List Walk} (old new : Parts) (events id ticket : ℕ) (invariants : InvariantWith walks old events) (own : DriverInvariant old.driver) (ready : IsReady new.driver new.memory (registers_of new.iommu))
    (numbers : nat_le 4294967295 (last_fence old.driver) ≡ false) (queues : QueuesQuarantine mmio old.driver old.memory old.iommu id ticket new.driver new.memory new.iommu)
    (devices : new.devices ≡ old.devices) (fabric : new.fabric ≡ old.fabric) where
  rung : IsRung old.iommu new.iommu
  rung =
      rung_all (detach_commands id queues.stage (completion_address (length old.memory)) (last_fence old.driver + 1))
      (all_unmapped (size_in queues.stage.mode) (without_context old.memory (root_level old.driver.levels) (directory_frame (length old.memory)) id) queues.stage.root queues.pages) new.memory old.iommu new.iommu queues.queued

  -- the completion word's frame is neither the device's, nor a page of the directory, nor the ring's
  leaves : LeavesWord old new
  leaves = record {
    size = ready.stand.size ∙ ap (λ (d : DriverState). length d.owners) queues.driver ∙ sym invariants.ready.stand.size;
    word =
        let stands_so = invariants.ready.stand.directory invariants.started in
        let fixed = fixed_frames old events invariants own in
        queues.others (completion_frame (length old.memory)) (not_of_device old.driver.owners (completion_frame (length old.memory)) id fixed.completion)
        (λ page. (stands_so.own (completion_frame (length old.memory)) page).no_completion refl)
        (let many = own.sizes.size.0 in let size = invariants.ready.stand.size in omega (arith, size, many));
  }

  given_now : new.driver.given ≡ old.driver.given + 1
  given_now = ap (λ (d : DriverState). d.given) queues.driver ∙ queues.next

  was_attached : attachment_by_id old.driver.devices id ≡ Attached queues.stage
  was_attached = attached_is (attachment_by_id old.driver.devices id) queues.stage queues.attached

  plugged : has_device old.driver.devices id ≡ true
  plugged = attached_there old.driver.devices id queues.stage queues.attached

  abbrev commands : List QueueEntry
  commands = stands.Command (context_invalidation id) ∷ stands.Command (space_invalidation queues.stage.mode queues.stage.number) ∷ []

  -- a device that is quarantined has its stage still
  owned_still : (other : ℕ) → owned_stages_of new.driver.devices other ≡ owned_stages_of old.driver.devices other
  owned_still other =
      ap (λ (s : DriverState). owned_stages_of s.devices other) queues.driver
      ∙ elim (eqb_tells other id) [
        | inl e ↦ ap (owned_stages_of (with_attachment old.driver.devices id (Quarantined ticket queues.stage))) e.1
            ∙ ap owned_stages (attachment_set old.driver.devices id (Quarantined ticket queues.stage) plugged) ∙ sym (ap owned_stages was_attached) ∙ sym (ap (owned_stages_of old.driver.devices) e.1)
        | inr ne ↦ ap owned_stages (attachment_other old.driver.devices id other (Quarantined ticket queues.stage) ne.1)
      ]

  queues_ticket : QueuesTicket (values_of old) (values_of new) commands (leave_commands id)
  queues_ticket =
      record {
        ordered = own.tickets.ordered;
        appended = (
          refl,
          (
            queued_space (completion_address (length old.memory)) (space_at old.driver.devices) queues.stage.mode queues.stage.number id
                (ap (λ a. option_map (λ (stage : Stages). space_in stage.mode stage.number) (owned_stages a)) was_attached),
            tt,
          ),
        );
        waiting = queues.list;
        address = ap completion_address leaves.size;
        completed = same_completed old.memory new.memory leaves.size leaves.word;
        last_fence = ap (λ n. n + new.driver.restarts) given_now ∙ ap (λ n. old.driver.given + 1 + n) (ap (λ (d : DriverState). d.restarts) queues.driver) ∙ omega arith;
        next_fence = next_fence old.driver own;
        given = given_now;
        confirmed = ap (λ (d : DriverState). d.confirmed) queues.driver;
        so_far = ap (λ f. f.so_far) rung.flights;
        in_flight = ap (λ f. accesses_of f.rows) rung.flights;
        kinds = kinds_kept old new devices;
        contexts = λ d is. sym (ap is_some (rung.contexts d)) ∙ is;
        cached = rung_cached old new (invariants.ready.ring invariants.started).on rung devices fabric (ap (λ (d : DriverState). fence_of d) queues.driver) (spaces_owned old.driver.devices new.driver.devices owned_still);
      }

  pub quarantined_sound : InvariantWith walks new events
  quarantined_sound =
      sound_from old new events invariants leaves (rung_leaves old new (invariants.ready.ring invariants.started).on rung) (ap (λ (d : DriverState). d.started) queues.driver) ready
      (same_known old new devices fabric (ap (λ (d : DriverState). known_ids d.devices) queues.driver ∙ ids_set old.driver.devices id (Quarantined ticket queues.stage))
      (λ d. ap (λ (s : DriverState). has_trusted_cache s.devices d) queues.driver ∙ trusted_set old.driver.devices id (Quarantined ticket queues.stage) d)
      (ap (λ f. row_ids f.rows) rung.flights) invariants.known)
      (same_epochs old new events invariants devices)
      (subst (λ n. n < 2 ^ 32) (sym given_now) (next_small old.driver.given old.driver.restarts numbers))
      (λ other context cached. ap (option_map context_for) (owned_still other) ∙ invariants.contexts other context (sym (rung.contexts other) ∙ cached))
      (∥∥₁_map invariants.copies
      (quarantine_scene (values_of old) (values_of new) id queues.stage.mode queues.stage.ats commands queues_ticket
      (ap shown_attachment was_attached)
      (λ d. ap (λ (s : DriverState). shown_attachment (attachment_by_id s.devices d)) queues.driver ∙ shown_set old.driver.devices id (Quarantined ticket queues.stage) plugged d
      ∙ ap (λ t. if id == d then shown.Quarantined t queues.stage.mode queues.stage.ats else shown_attachment (attachment_by_id old.driver.devices d)) queues.next)
      (subst (λ t. (h : History) → Agrees old.driver.ledger h → confirms h t ≡ false → Agrees new.driver.ledger (AllReleased id t ∷ h)) queues.next queues.agrees)
      walks))

pub keeps_quarantined : {walks : List Walk} (old new : Parts) (events id : ℕ) (reply : Outcome) → InvariantWith walks old events → DriverInvariant old.driver → IsReady new.driver new.memory (registers_of new.iommu)
    → QuarantinesDevice old id reply new → InvariantWith walks new events
keeps_quarantined {walks = walks} old new events id reply invariants own ready quarantines = by quarantines.answer quarantines.call
  where
    by : (answer : Result answers.Ticket Refusal) → AnswersQuarantine mmio old.driver old.memory old.iommu id answer new.driver new.memory new.iommu → InvariantWith walks new events
    by (Ok ticket) (admitted, queues) =
        quarantined_sound old new events id ticket.0 invariants own ready
        (none_at (why_not_quarantine old.driver (registers_of old.iommu) id) 6 (nat_le 4294967295 (last_fence old.driver)) NumbersUsedUp refl admitted) queues quarantines.devices quarantines.fabric
    by (Err why) (refused, driver_stays, memory_stays, iommu_stays) = rw (driver_stays, memory_stays, iommu_stays, quarantines.devices, quarantines.fabric) invariants

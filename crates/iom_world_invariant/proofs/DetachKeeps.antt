-- What stays true of a world when a device is detached: three more commands wait, and it leaves until the ticket of their fence is confirmed.
use Rattle.std.proofs.Common.{◌≡◌, ◌+◌, ◌^◌, ◌<◌, ◌==◌, ◌∙◌, inl, inr, nat_le, is_some, ℕ, Bool, true, false, List, [], ◌∷◌, length, Option, Some, None, Result, Ok, Err, refl, sym, ap, subst, arith, if◌then◌else◌}
use Rattle.std.specs.Bool.{IsTrue}
use Rattle.std.specs.Option.{option_map}
use Rattle.std.proofs.Math.Logic.{∥∥₁_map}
use Rattle.std.proofs.lemmas.Bool.{false≢true}
use Rattle.std.proofs.lemmas.Bool.Decides.{eqb_tells}
use Rattle.iom_walk_coherence.specs.Walks.{Walk}
use Rattle.iom_command_queue.specs.declared.entry.QueueEntry.{QueueEntry}
use Rattle.iom_command_queue.specs.declared.entry.QueueEntry.TheVariants as stands
use Rattle.iom_coherence.specs.DriverCalls.{leave_commands}
use Rattle.iom_directory_build.specs.Pages.{root_level}
use Rattle.iom_directory_build.specs.Written.{without_context}
use Rattle.iom_driver.specs.Fences.{last_fence, fence_of}
use Rattle.iom_driver.specs.declared.answers.Ticket as answers
use Rattle.iom_driver.specs.declared.device.Attachment.TheVariants.{Attached, Leaving}
use Rattle.iom_driver.specs.Appends.{context_invalidation, space_invalidation, detach_commands}
use Rattle.iom_driver.specs.declared.device.Stages.{Stages}
use Rattle.iom_driver.specs.Devices.{attachment_by_id, has_device, owned_stages, owned_stages_of, has_trusted_cache, with_attachment}
use Rattle.iom_driver.specs.Directory.{context_for}
use Rattle.iom_driver.specs.Layout.{completion_frame, completion_address, directory_frame}
use Rattle.iom_driver.specs.Leaving.{QueuesDetach, IsReplyToDetach, DetachEffect, AnswersDetach}
use Rattle.iom_driver.specs.Ready.{IsReady}
use Rattle.iom_driver.specs.Reasons.{why_not_detach, HasGrants}
use Rattle.iom_driver.specs.State.{DriverState}
use Rattle.iom_driver.proofs.Places.{attached_there}
use Rattle.iom_iommu.specs.Parts.{registers_of, mmio}
use Rattle.iom_base.specs.declared.refusal.Refusal.{Refusal}
use Rattle.iom_base.specs.declared.refusal.Refusal.TheVariants.{StillGranted, NumbersUsedUp}
use Rattle.iom_ledger.specs.History.{Pair}
use Rattle.iom_base.specs.Refusals.{NoneApplies}
use Rattle.iom_ledger.specs.Shown.{Agrees, held_in, lingering_in}
use Rattle.iom_machine.specs.declared.outcome.Outcome.{Outcome}
use Rattle.iom_machine.specs.declared.state.Attachment.TheVariants as shown
use Rattle.iom_registers.specs.declared.registers.Registers.{Registers}
use Rattle.iom_device.specs.declared.device.Device.{Device}
use Rattle.iom_world_effects.specs.BlockDevices.{devices_left}
use Rattle.iom_device.specs.Caches.{epoch_in}
use Rattle.iom_world_effects.specs.Devices.{shown_attachment}
use Rattle.iom_world_effects.specs.Effect.{DetachesDevice}
use Rattle.iom_world_effects.specs.Parts.{Parts}
use Rattle.iom_world_effects.specs.Read.{space_in, space_at, values_of, accesses_of}
use Rattle.iom_world_effects.specs.Invariant.{InvariantWith, known_ids, row_ids}
use Rattle.iom_world_effects.proofs.DeviceLemmas.{shown_set, trusted_set, ids_set, attachment_set, attachment_other}
use Rattle.iom_world_effects.proofs.WalksLeft.{AreLeft, given_up}
use Rattle.iom_world_invariant.proofs.BlockKeeps.{IsOfBlocks, left_sound}
use Rattle.iom_world_effects.proofs.CachedLemmas.{spaces_owned}
use Rattle.iom_world_effects.proofs.QueuedLemmas.{queued_space}
use Rattle.iom_world_invariant.proofs.DriverKeeps.{attached_is}
use Rattle.iom_world_effects.proofs.DriverLemmas.{DriverInvariant, next_fence}
use Rattle.iom_world_invariant.proofs.PollKeeps.{same_known}
use Rattle.iom_world_invariant.proofs.ReleaseKeeps.{rung_cached, IsRung, rung_all, rung_leaves, next_small}
use Rattle.iom_world_effects.proofs.SceneCalls.{QueuesTicket, detach_scene}
use Rattle.iom_world_effects.proofs.InvariantLemmas.{same_completed, LeavesWord, sound_from, none_at, kinds_kept, same_epochs}

-- the reasons of a detach that is answered, whatever tells that something is granted
abbrev pub IsAdmitted : DriverState → Registers → ℕ → Type 0
IsAdmitted d r id = (granted : Bool) → (IsTrue granted → HasGrants d.ledger id) × (HasGrants d.ledger id → IsTrue granted) → NoneApplies (why_not_detach d r granted id)

-- it has no grants
pub has_none : (d : DriverState) (r : Registers) (id : ℕ) → IsAdmitted d r id → ¬ HasGrants d.ledger id
has_none d r id admitted has =
    false≢true (sym (none_at (why_not_detach d r true id) 4 true StillGranted refl (admitted true ((λ is. has), (λ it. refl)))))

pub ungranted : (d : DriverState) (r : Registers) (id : ℕ) → IsAdmitted d r id → (page : ℕ) → (held_in d.ledger id page ≡ None) × (lingering_in d.ledger id page ≡ None)
ungranted d r id admitted page = (held (held_in d.ledger id page) refl, lingers (lingering_in d.ledger id page) refl)
  where
    held : (o : Option Pair) → held_in d.ledger id page ≡ o → held_in d.ledger id page ≡ None
    held None at = at
    held (Some pair) at = absurd (has_none d r id admitted (page, inl (ap is_some at)))

    lingers : (o : Option Pair) → lingering_in d.ledger id page ≡ o → lingering_in d.ledger id page ≡ None
    lingers None at = at
    lingers (Some pair) at = absurd (has_none d r id admitted (page, inr (ap is_some at)))

pub numbers_left : (d : DriverState) (r : Registers) (id : ℕ) → IsAdmitted d r id → nat_le 4294967295 (last_fence d) ≡ false
numbers_left d r id admitted =
    none_at (why_not_detach d r false id) 7 (nat_le 4294967295 (last_fence d)) NumbersUsedUp refl
    (admitted false ((λ is. absurd (false≢true is)), (λ has. absurd (has_none d r id admitted has))))

module _ {walks : List Walk} (old new : Parts) (events id ticket : ℕ) (invariants : InvariantWith walks old events) (own : DriverInvariant old.driver) (ready : IsReady new.driver new.memory (registers_of new.iommu))
    (admitted : IsAdmitted old.driver (registers_of old.iommu) id) (queues : QueuesDetach mmio old.driver old.memory old.iommu id ticket new.driver new.memory new.iommu)
    (devices : new.devices ≡ old.devices) (fabric : new.fabric ≡ old.fabric) where
  rung : IsRung old.iommu new.iommu
  rung =
      rung_all (detach_commands id queues.stage (completion_address (length old.memory)) (last_fence old.driver + 1))
      (without_context old.memory (root_level old.driver.levels) (directory_frame (length old.memory)) id) new.memory old.iommu new.iommu queues.queued

  leaves : LeavesWord old new
  leaves = record {
    size = ready.stand.size ∙ ap (λ (d : DriverState). length d.owners) queues.driver ∙ sym invariants.ready.stand.size;
    word =
        let stands_so = invariants.ready.stand.directory invariants.started in
        queues.others (completion_frame (length old.memory)) (λ page. (stands_so.own (completion_frame (length old.memory)) page).no_completion refl)
        (let many = own.sizes.size.0 in let size = invariants.ready.stand.size in omega (arith, size, many));
  }

  given_now : new.driver.given ≡ old.driver.given + 1
  given_now = ap (λ (d : DriverState). d.given) queues.driver ∙ queues.next

  was_attached : attachment_by_id old.driver.devices id ≡ Attached queues.stage
  was_attached = attached_is (attachment_by_id old.driver.devices id) queues.stage queues.attached

  plugged : has_device old.driver.devices id ≡ true
  plugged = attached_there old.driver.devices id queues.stage queues.attached

  abbrev commands : List QueueEntry
  commands = stands.Command (context_invalidation id) ∷ stands.Command (space_invalidation queues.stage.mode queues.stage.number) ∷ []

  -- a leaving device has its stage still
  owned_still : (other : ℕ) → owned_stages_of new.driver.devices other ≡ owned_stages_of old.driver.devices other
  owned_still other =
      ap (λ (s : DriverState). owned_stages_of s.devices other) queues.driver
      ∙ elim (eqb_tells other id) [
        | inl e ↦ ap (owned_stages_of (with_attachment old.driver.devices id (Leaving ticket queues.stage))) e.1
            ∙ ap owned_stages (attachment_set old.driver.devices id (Leaving ticket queues.stage) plugged) ∙ sym (ap owned_stages was_attached) ∙ sym (ap (owned_stages_of old.driver.devices) e.1)
        | inr ne ↦ ap owned_stages (attachment_other old.driver.devices id other (Leaving ticket queues.stage) ne.1)
      ]

  queues_ticket : QueuesTicket (values_of old) (values_of new) commands (leave_commands id)
  queues_ticket =
      record {
        ordered = own.tickets.ordered;
        appended = (
          refl,
          (
            queued_space (completion_address (length old.memory)) (space_at old.driver.devices) queues.stage.mode queues.stage.number id
                (ap (λ a. option_map (λ (stage : Stages). space_in stage.mode stage.number) (owned_stages a)) was_attached),
            tt,
          ),
        );
        waiting = queues.list;
        address = ap completion_address leaves.size;
        completed = same_completed old.memory new.memory leaves.size leaves.word;
        last_fence = ap (λ n. n + new.driver.restarts) given_now ∙ ap (λ n. old.driver.given + 1 + n) (ap (λ (d : DriverState). d.restarts) queues.driver) ∙ omega arith;
        next_fence = next_fence old.driver own;
        given = given_now;
        confirmed = ap (λ (d : DriverState). d.confirmed) queues.driver;
        so_far = ap (λ f. f.so_far) rung.flights;
        in_flight = ap (λ f. accesses_of f.rows) rung.flights;
        kinds = kinds_kept old new devices;
        contexts = λ d is. sym (ap is_some (rung.contexts d)) ∙ is;
        cached = rung_cached old new (invariants.ready.ring invariants.started).on rung devices fabric (ap (λ (d : DriverState). fence_of d) queues.driver) (spaces_owned old.driver.devices new.driver.devices owned_still);
      }

  pub detached_sound : InvariantWith walks new events
  detached_sound =
      sound_from old new events invariants leaves (rung_leaves old new (invariants.ready.ring invariants.started).on rung) (ap (λ (d : DriverState). d.started) queues.driver) ready
      (same_known old new devices fabric (ap (λ (d : DriverState). known_ids d.devices) queues.driver ∙ ids_set old.driver.devices id (Leaving ticket queues.stage))
      (λ d. ap (λ (s : DriverState). has_trusted_cache s.devices d) queues.driver ∙ trusted_set old.driver.devices id (Leaving ticket queues.stage) d)
      (ap (λ f. row_ids f.rows) rung.flights) invariants.known)
      (same_epochs old new events invariants devices)
      (subst (λ n. n < 2 ^ 32) (sym given_now) (next_small old.driver.given old.driver.restarts (numbers_left old.driver (registers_of old.iommu) id admitted)))
      (λ other context cached. ap (option_map context_for) (owned_still other) ∙ invariants.contexts other context (sym (rung.contexts other) ∙ cached))
      (∥∥₁_map invariants.copies
      (detach_scene (values_of old) (values_of new) id queues.stage.mode queues.stage.ats commands queues_ticket
      (ap shown_attachment was_attached)
      (λ d. ap (λ (s : DriverState). shown_attachment (attachment_by_id s.devices d)) queues.driver ∙ shown_set old.driver.devices id (Leaving ticket queues.stage) plugged d
      ∙ ap (λ t. if id == d then shown.Leaving t queues.stage.mode queues.stage.ats else shown_attachment (attachment_by_id old.driver.devices d)) queues.next)
      (ungranted old.driver (registers_of old.iommu) id admitted)
      (λ h agrees. subst (λ (s : DriverState). Agrees s.ledger h) (sym queues.driver) agrees)
      walks))

-- what the driver does keeps the facts, where the devices are the same
keeps_called : {walks : List Walk} (old new : Parts) (events id : ℕ) → InvariantWith walks old events → DriverInvariant old.driver → IsReady new.driver new.memory (registers_of new.iommu)
    → (answer : Result answers.Ticket Refusal) → AnswersDetach mmio old.driver old.memory old.iommu id answer new.driver new.memory new.iommu
    → new.devices ≡ old.devices → new.fabric ≡ old.fabric → InvariantWith walks new events
keeps_called {walks = walks} old new events id invariants own ready answer call devices fabric = by answer call.reply call.effect
  where
    by : (answer : Result answers.Ticket Refusal)
        → ((granted : Bool) → (IsTrue granted → HasGrants old.driver.ledger id) × (HasGrants old.driver.ledger id → IsTrue granted) → IsReplyToDetach old.driver (registers_of old.iommu) granted id answer)
        → DetachEffect mmio old.driver old.memory old.iommu id answer new.driver new.memory new.iommu → InvariantWith walks new events
    by (Ok ticket) admitted queues = detached_sound old new events id ticket.0 invariants own ready admitted queues devices fabric
    by (Err why) refused (driver_stays, memory_stays, iommu_stays) = rw (driver_stays, memory_stays, iommu_stays, devices, fabric) invariants

-- a block device is detached
abbrev pub BlockDetaches : Result answers.Ticket Refusal → List Device → ℕ → Type 0
BlockDetaches answer devices id = (ticket : answers.Ticket) × (answer ≡ Ok ticket) × IsOfBlocks devices id

-- and then its disk goes, and a block device is reset, and its walks are given up
pub keeps_detached : {walks left : List Walk} (old new : Parts) (events id : ℕ) (reply : Outcome) → InvariantWith walks old events → DriverInvariant old.driver
    → IsReady new.driver new.memory (registers_of new.iommu) → epoch_in old.devices id < events
    → (detaches : DetachesDevice old id reply new) → AreLeft (BlockDetaches detaches.answer old.devices id) id left walks → InvariantWith left new events
keeps_detached {walks = walks} {left = left} old new events id reply invariants own ready below detaches are_left =
    subst (λ (devices : List Device). InvariantWith left (record new { devices = devices }) events) (sym detaches.devices) (by detaches.answer refl)
  where
    called : InvariantWith walks (record new { devices = old.devices }) events
    called = keeps_called old (record new { devices = old.devices }) events id invariants own ready detaches.answer detaches.call refl detaches.fabric

    by : (answer : Result answers.Ticket Refusal) → detaches.answer ≡ answer → InvariantWith left (record new { devices = devices_left answer old.devices id }) events
    by (Ok ticket) is = left_sound (record new { devices = old.devices }) events id called (are_left.0, λ block. are_left.1 (ticket, is, block)) below
    by (Err why) is = given_up (record new { devices = old.devices }) events are_left.0 called

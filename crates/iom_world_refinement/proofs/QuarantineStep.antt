-- A quarantine of the driver is one of the ledger machine, and where it is refused nothing changes.
use Rattle.std.proofs.Common.{◌≡◌, ◌+◌, ◌∙◌, ℕ, List, [], ◌∷◌, length, Option, Some, None, Result, Ok, Err, slice_get, refl, sym, ap, subst, arith}
use Rattle.std.specs.Option.{option_map_or}
use Rattle.iom_walk_coherence.specs.Walks.{Walk}
use Rattle.iom_base.specs.Modes.{size_in}
use Rattle.iom_base.specs.declared.size.Size.{Size}
use Rattle.iom_base.specs.declared.owner.Owner.TheVariants.{System, OneDevice}
use Rattle.iom_directory_build.specs.Pages.{HasPage, root_level}
use Rattle.iom_directory_build.specs.Written.{without_context}
use Rattle.iom_driver.specs.declared.answers.Ticket.{Ticket}
use Rattle.iom_driver.specs.declared.device.Attachment.TheVariants as attached
use Rattle.iom_driver.specs.Appends.{detach_commands}
use Rattle.iom_driver.specs.Devices.{attachment_by_id, with_attachment}
use Rattle.iom_driver.specs.Fences.{last_fence}
use Rattle.iom_driver.specs.Layout.{command_frame, completion_address, directory_frame}
use Rattle.iom_driver.specs.Quarantines.{all_unmapped, AnswersQuarantine, QueuesQuarantine}
use Rattle.iom_driver.specs.State.{DriverState}
use Rattle.iom_driver.proofs.Places.{attached_is, attached_there, attachment_set, attachment_other}
use Rattle.iom_iommu.specs.Parts.{mmio, flights_of}
use Rattle.iom_inflight.specs.Flights.{Flights}
use Rattle.iom_ledger.specs.declared.entry.HistoryEntry.TheVariants as entry
use Rattle.iom_base.specs.declared.refusal.Refusal.{Refusal}
use Rattle.iom_machine.specs.Quarantining.{quarantined_under}
use Rattle.iom_machine.specs.declared.outcome.Outcome.{Outcome}
use Rattle.iom_machine.specs.declared.outcome.Outcome.TheVariants as outcome
use Rattle.iom_machine.specs.declared.state.Attachment.TheVariants.{Detached, Attached}
use Rattle.iom_machine.specs.declared.state.Device as declared
use Rattle.iom_machine.specs.declared.state.State.{State}
use Rattle.iom_machine.specs.Devices.{device_of, with_device}
use Rattle.iom_machine.specs.Machine as machine
use Rattle.iom_machine.specs.Refusals as refusals
use Rattle.iom_page_table.specs.FirstTables.{unmapped}
use Rattle.iom_world_effects.specs.Answers.{outcome_of_ticket}
use Rattle.iom_world_effects.specs.Devices.{shown_attachment}
use Rattle.iom_world_effects.specs.Frames.{ShowsFrames}
use Rattle.iom_world_effects.specs.Unchanged.{AreSame, SameIfRefused}
use Rattle.iom_iommu.specs.OwnIommu.{Iommu}
use Rattle.iom_world_effects.specs.Parts.{Parts}
use Rattle.iom_world_effects.specs.Recovery.{QuarantinesDevice}
use Rattle.iom_world_effects.specs.Shows.{PartsShow}
use Rattle.iom_world_effects.specs.Invariant.{InvariantWith}
use Rattle.iom_world_effects.proofs.CallRefused.{same_of}
use Rattle.iom_world_effects.proofs.DriverLemmas.{DriverInvariant}
use Rattle.iom_world_effects.proofs.FrameLemmas.{shows_kept}
use Rattle.iom_world_refinement.proofs.HungLemmas.{length-without_context}
use Rattle.iom_world_refinement.proofs.PlaceLemmas.{found_there, replaced_found}
use Rattle.iom_world_refinement.proofs.QuarantineReasons.{quarantine_refused_by, may_quarantine}
use Rattle.iom_world_refinement.proofs.ReasonLemmas.{there_shown, how_shown}
use Rattle.iom_world_refinement.proofs.RefusalLemmas.{some_and}
use Rattle.iom_world_refinement.proofs.ReleaseStep.{flights_appended, size_appended, not_ring}
use Rattle.iom_world_effects.proofs.UnchangedLemmas.{shows_same, not_owned, length-unmapped}

-- memory has as many frames after the leaves of some pages are cleared
length-all_unmapped : (size : Size) (memory : List (List ℕ)) (root : ℕ) (pages : List ℕ) → length (all_unmapped size memory root pages) ≡ length memory
length-all_unmapped size memory root [] = refl
length-all_unmapped size memory root (page ∷ pages) = length-all_unmapped size (unmapped size memory root page) root pages ∙ length-unmapped size memory root page

-- and after a quarantine
size_quarantined : (d d' : DriverState) (memory memory' : List (List ℕ)) (io io' : Iommu) (id ticket : ℕ) → QueuesQuarantine mmio d memory io id ticket d' memory' io' → length memory' ≡ length memory
size_quarantined d d' memory memory' io io' id ticket queues =
    let cleared = without_context memory (root_level d.levels) (directory_frame (length memory)) id in
    size_appended (detach_commands id queues.stage (completion_address (length memory)) (last_fence d + 1)) (all_unmapped (size_in queues.stage.mode) cleared queues.stage.root queues.pages) memory' io io' queues.queued
    ∙ length-all_unmapped (size_in queues.stage.mode) cleared queues.stage.root queues.pages
    ∙ length-without_context memory (root_level d.levels) (directory_frame (length memory)) id

-- a frame that is nobody's is no page of the directory
no_page : {walks : List Walk} (old : Parts) (events : ℕ) (frame : ℕ) → InvariantWith walks old events → slice_get old.driver.owners frame ≡ Some None
    → ¬ HasPage old.memory (root_level old.driver.levels) (directory_frame (length old.memory)) frame
no_page old events frame invariants free page =
    let stands = invariants.ready.stand.directory invariants.started in
    not_owned old.driver.owners frame System free (stands.own frame page).system

-- how the device that is found is attached
how_found : (state : State) (id : ℕ) (found : declared.Device) → device_of state id ≡ Some found → found.attachment ≡ refusals.attachment_of state id
how_found state id found at = sym (ap (λ (o : Option declared.Device). option_map_or (λ (device : declared.Device). device.attachment) o Detached) at)

-- the machine's state after it
abbrev pub quarantined : State → declared.Device → ℕ → ℕ → State
quarantined state device id ticket = record (with_device state (record device { attachment = quarantined_under ticket device.attachment })) {
  history = entry.AllReleased id ticket ∷ state.history;
  last_ticket = ticket;
}

module _ {walks : List Walk} (old new : Parts) (events id ticket : ℕ) (found : declared.Device) (invariants : InvariantWith walks old events) (own : DriverInvariant old.driver)
    (queues : QueuesQuarantine mmio old.driver old.memory old.iommu id ticket new.driver new.memory new.iommu) (devices : new.devices ≡ old.devices)
    (state : State) (shows : PartsShow old state) (at : device_of state id ≡ Some found) (how : found.attachment ≡ Attached queues.stage.mode queues.stage.ats) where
  -- frames that are nobody's keep their bytes
  frames_kept : ShowsFrames new.memory old.driver.owners state.frames
  frames_kept =
      let d = old.driver in
      let ring = subst (λ n. slice_get d.owners (command_frame n) ≡ Some (Some System)) (sym invariants.ready.stand.size) own.fixed.command in
      shows_kept old.memory new.memory d.owners state.frames shows.frames
      (λ k free. queues.others k (not_owned d.owners k (OneDevice id) free) (no_page old events k invariants free) (not_ring d.owners k (length old.memory) ring free))
      (size_quarantined d new.driver old.memory new.memory old.iommu new.iommu id ticket queues)

  flights_kept : flights_of new.iommu ≡ flights_of old.iommu
  flights_kept =
      flights_appended (detach_commands id queues.stage (completion_address (length old.memory)) (last_fence old.driver + 1))
      (all_unmapped (size_in queues.stage.mode) (without_context old.memory (root_level old.driver.levels) (directory_frame (length old.memory)) id) queues.stage.root queues.pages)
      new.memory old.iommu new.iommu queues.queued

  pub shows_quarantined : PartsShow new (quarantined state found id ticket)
  shows_quarantined =
      let d = old.driver in
      let cut = attached.Quarantined ticket queues.stage in
      let next : ticket ≡ d.given + 1 = queues.next in
      let ordered = own.tickets.ordered in
      let replaced = replaced_found d.devices (with_attachment d.devices id cut) (flights_of old.iommu).rows old.devices state.devices id cut found
      (λ other differs. attachment_other d.devices id other cut differs) (attachment_set d.devices id cut (attached_there d.devices id queues.stage queues.attached))
      invariants.known.own_ids shows.devices at in
      record {
        ledger = queues.agrees state.history shows.ledger (shows.none_later ticket (omega (arith, next, ordered)));
        frames = subst (λ ms. ShowsFrames new.memory ms state.frames) (sym (ap (λ (x : DriverState). x.owners) queues.driver)) frames_kept;
        devices = rw (devices, ap (λ (f : Flights). f.rows) flights_kept, ap (λ (x : DriverState). x.devices) queues.driver)
            (ap (λ a. (with_device state (record found { attachment = quarantined_under ticket a })).devices) how ∙ replaced);
        given = sym (ap (λ (x : DriverState). x.given) queues.driver);
        confirmed = shows.confirmed ∙ sym (ap (λ (x : DriverState). x.confirmed) queues.driver);
        all_earlier = rw (ap (λ (x : DriverState). x.confirmed) queues.driver) shows.all_earlier;
        none_later = rw (ap (λ (x : DriverState). x.confirmed) queues.driver) shows.none_later;
        levels = shows.levels ∙ sym (ap (λ (x : DriverState). x.levels) queues.driver);
        limits = shows.limits;
      }

pub quarantine_step : {walks : List Walk} (old new : Parts) (events id : ℕ) (reply : Outcome) → InvariantWith walks old events → DriverInvariant old.driver → QuarantinesDevice old id reply new
    → (state : State) → PartsShow old state → (next : State) × machine.Quarantines state id reply next × PartsShow new next
quarantine_step old new events id reply invariants own effect state shows = by effect.answer effect.reply_is effect.call
  where
    by : (answer : Result Ticket Refusal) → reply ≡ outcome_of_ticket answer → AnswersQuarantine mmio old.driver old.memory old.iommu id answer new.driver new.memory new.iommu
        → (next : State) × machine.Quarantines state id reply next × PartsShow new next
    by (Ok ticket) is (none, queues) =
        let d = old.driver in
        let there = attached_there d.devices id queues.stage queues.attached in
        let found = found_there (device_of state id) (there_shown old events state id invariants shows ∙ there) in
        let how : found.0.attachment ≡ Attached queues.stage.mode queues.stage.ats = how_found state id found.0 found.1 ∙ how_shown old events state id invariants shows
        ∙ ap shown_attachment (attached_is (attachment_by_id d.devices id) queues.stage queues.attached) in
        let next = quarantined state found.0 id ticket.0 in (
          next,
          subst (λ t. machine.Quarantines state id t next) (sym is) (
            may_quarantine old events state id invariants shows none,
            queues.next ∙ ap (λ n. n + 1) (sym shows.given),
            some_and (λ (d : declared.Device). next ≡ quarantined state d id ticket.0) (device_of state id) found.0 found.1 refl,
          ),
          shows_quarantined old new events id ticket.0 found.0 invariants own queues effect.devices state shows found.1 how,
        )
    by (Err why) is call = (
      state,
      subst (λ t. machine.Quarantines state id t state) (sym is) (quarantine_refused_by old events state id why invariants shows call.0, refl),
      shows_same old new state call.2 (ap (λ (i : Iommu). flights_of i) call.3) effect.devices call.1 shows,
    )

pub quarantine_refused : (old new : Parts) (id : ℕ) (reply : Outcome) → QuarantinesDevice old id reply new → SameIfRefused reply old new
quarantine_refused old new id reply effect why is = by effect.answer (sym effect.reply_is ∙ is) effect.call
  where
    by : (answer : Result Ticket Refusal) → outcome_of_ticket answer ≡ outcome.Refused why → AnswersQuarantine mmio old.driver old.memory old.iommu id answer new.driver new.memory new.iommu → AreSame old new
    by (Ok ticket) refused call = cc
    by (Err reason) refused call = same_of old new call.2 call.3 effect.devices effect.fabric call.1

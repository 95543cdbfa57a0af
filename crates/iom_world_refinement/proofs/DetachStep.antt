-- A detach of the driver is one of the ledger machine.
use Rattle.std.proofs.Common.{◌≡◌, ◌+◌, ◌==◌, ◌∙◌, ℕ, false, List, find, length, Option, Some, None, Result, Ok, Err, slice_get, refl, sym, ap, subst}
use Rattle.std.specs.Option.{option_map_or}
use Rattle.iom_walk_coherence.specs.Walks.{Walk}
use Rattle.iom_base.specs.declared.owner.Owner.TheVariants.{System}
use Rattle.iom_directory_build.specs.Pages.{HasPage, root_level}
use Rattle.iom_directory_build.specs.Written.{without_context}
use Rattle.iom_driver.specs.declared.answers.Ticket.{Ticket}
use Rattle.iom_driver.specs.declared.device.Attachment.TheVariants as attached
use Rattle.iom_driver.specs.declared.device.Device as driver
use Rattle.iom_driver.specs.Devices.{attachment_by_id, with_attachment}
use Rattle.iom_driver.specs.Fences.{last_fence}
use Rattle.iom_driver.specs.Layout.{command_frame, completion_address, directory_frame}
use Rattle.iom_driver.specs.Appends.{detach_commands}
use Rattle.iom_driver.specs.Leaving.{QueuesDetach, IsReplyToDetach, DetachEffect}
use Rattle.iom_driver.specs.State.{DriverState}
use Rattle.iom_driver.proofs.Places.{attached_is, attached_there, attachment_set, attachment_other}
use Rattle.iom_iommu.specs.OwnIommu.{Iommu}
use Rattle.iom_iommu.specs.Parts.{mmio, registers_of, flights_of}
use Rattle.iom_inflight.specs.Flights.{Flights, FlightRow}
use Rattle.iom_base.specs.declared.refusal.Refusal.{Refusal}
use Rattle.iom_machine.specs.declared.outcome.Outcome.{Outcome}
use Rattle.iom_machine.specs.declared.state.Attachment.TheVariants.{Detached, Attached}
use Rattle.iom_machine.specs.declared.state.Device as declared
use Rattle.iom_machine.specs.declared.state.State.{State}
use Rattle.iom_machine.specs.Devices.{device_of, replaced_device, with_device}
use Rattle.iom_machine.proofs.DeviceLemmas.{found_replaced}
use Rattle.iom_machine.proofs.InFlightLemmas.{found_device}
use Rattle.iom_machine.specs.Leaving.{leaving_under}
use Rattle.iom_machine.specs.Machine as machine
use Rattle.iom_machine.specs.Refusals as refusals
use Rattle.iom_machine.specs.Refusals.{has_grants}
use Rattle.iom_device.specs.declared.device.Device.{Device}
use Rattle.iom_world_effects.specs.BlockDevices.{devices_left}
use Rattle.iom_device.specs.Calls.{with_block_reset}
use Rattle.iom_device.specs.Caches.{with_has_disk}
use Rattle.iom_world_effects.specs.Devices.{shown_attachment, shown_devices}
use Rattle.iom_world_effects.specs.Answers.{outcome_of_ticket}
use Rattle.iom_world_effects.specs.Effect.{DetachesDevice}
use Rattle.iom_world_effects.specs.Frames.{ShowsFrames}
use Rattle.iom_world_effects.specs.Parts.{Parts}
use Rattle.iom_world_effects.specs.Shows.{PartsShow}
use Rattle.iom_world_effects.specs.Invariant.{InvariantWith}
use Rattle.iom_world_invariant.proofs.BlockKeeps.{shown_block_reset}
use Rattle.iom_world_effects.proofs.DiskPlaces.{shown_found, replaced_has, replaced_twice}
use Rattle.iom_world_effects.proofs.DriverLemmas.{DriverInvariant}
use Rattle.iom_world_effects.proofs.FrameLemmas.{shows_kept}
use Rattle.iom_world_refinement.proofs.HungLemmas.{length-without_context}
use Rattle.iom_world_refinement.proofs.PlaceLemmas.{found_there, replaced_found}
use Rattle.iom_world_refinement.proofs.ReasonLemmas.{there_shown, how_shown, grants_shown, may_detach, detach_refused_by}
use Rattle.iom_world_refinement.proofs.RefusalLemmas.{some_and}
use Rattle.iom_world_effects.proofs.RowPlaces.{shown_of}
use Rattle.iom_world_refinement.proofs.ReleaseStep.{flights_appended, size_appended, not_ring}
use Rattle.iom_world_effects.proofs.UnchangedLemmas.{shows_same, not_owned}

-- memory has as many frames after a detach
size_left : (d d' : DriverState) (memory memory' : List (List ℕ)) (io io' : Iommu) (id ticket : ℕ) → QueuesDetach mmio d memory io id ticket d' memory' io' → length memory' ≡ length memory
size_left d d' memory memory' io io' id ticket queues =
    size_appended (detach_commands id queues.stage (completion_address (length memory)) (last_fence d + 1))
    (without_context memory (root_level d.levels) (directory_frame (length memory)) id) memory' io io' queues.queued
    ∙ length-without_context memory (root_level d.levels) (directory_frame (length memory)) id

-- a frame that is nobody's is no page of the directory
not_page : {walks : List Walk} (old : Parts) (events : ℕ) (frame : ℕ) → InvariantWith walks old events → slice_get old.driver.owners frame ≡ Some None
    → ¬ HasPage old.memory (root_level old.driver.levels) (directory_frame (length old.memory)) frame
not_page old events frame invariants free page =
    let stands = invariants.ready.stand.directory invariants.started in
    not_owned old.driver.owners frame System free (stands.own frame page).system

-- how the device that is found is attached
found_how : (state : State) (id : ℕ) (found : declared.Device) → device_of state id ≡ Some found → found.attachment ≡ refusals.attachment_of state id
found_how state id found at = sym (ap (λ (o : Option declared.Device). option_map_or (λ (device : declared.Device). device.attachment) o Detached) at)

-- the machine's state after what the driver did, while the device has its disk still; and once it has none
abbrev leaving_state : State → declared.Device → ℕ → State
leaving_state state device ticket = record (with_device state (record device { attachment = leaving_under ticket device.attachment })) { last_ticket = ticket }

abbrev pub left_state : State → declared.Device → ℕ → State
left_state state device ticket =
    record (with_device state (record device { has_disk = false; attachment = leaving_under ticket device.attachment })) { last_ticket = ticket }

shows_leaving : {walks : List Walk} (old new : Parts) (events id ticket : ℕ) (found : declared.Device) → InvariantWith walks old events → DriverInvariant old.driver
    → (queues : QueuesDetach mmio old.driver old.memory old.iommu id ticket new.driver new.memory new.iommu) → new.devices ≡ old.devices
    → (state : State) → PartsShow old state → device_of state id ≡ Some found → found.attachment ≡ Attached queues.stage.mode queues.stage.ats → PartsShow new (leaving_state state found ticket)
shows_leaving old new events id ticket found invariants driver_invariant queues devices state shows at how =
    let d = old.driver in
    let rows = (flights_of old.iommu).rows in
    let flights = flights_appended (detach_commands id queues.stage (completion_address (length old.memory)) (last_fence d + 1)) (without_context old.memory (root_level d.levels) (directory_frame (length old.memory)) id) new.memory old.iommu new.iommu queues.queued in
    let known' = with_attachment d.devices id (attached.Leaving ticket queues.stage) in
    let there = attached_there d.devices id queues.stage queues.attached in
    let ring = subst (λ n. slice_get d.owners (command_frame n) ≡ Some (Some System)) (sym invariants.ready.stand.size) driver_invariant.fixed.command in
    let frames = shows_kept old.memory new.memory d.owners state.frames shows.frames
    (λ k free. queues.others k (not_page old events k invariants free) (not_ring d.owners k (length old.memory) ring free))
    (size_left d new.driver old.memory new.memory old.iommu new.iommu id ticket queues) in
    let replaced = replaced_found d.devices known' rows old.devices state.devices id (attached.Leaving ticket queues.stage) found
    (λ other differs. attachment_other d.devices id other (attached.Leaving ticket queues.stage) differs) (attachment_set d.devices id (attached.Leaving ticket queues.stage) there)
    invariants.known.own_ids shows.devices at in
    record {
      ledger = rw (ap (λ (x : DriverState). x.ledger) queues.driver) shows.ledger;
      frames = subst (λ ms. ShowsFrames new.memory ms state.frames) (sym (ap (λ (x : DriverState). x.owners) queues.driver)) frames;
      devices = rw (devices, ap (λ (f : Flights). f.rows) flights, ap (λ (x : DriverState). x.devices) queues.driver)
          (ap (λ a. (with_device state (record found { attachment = leaving_under ticket a })).devices) how ∙ replaced);
      given = sym (ap (λ (x : DriverState). x.given) queues.driver);
      confirmed = shows.confirmed ∙ sym (ap (λ (x : DriverState). x.confirmed) queues.driver);
      all_earlier = rw (ap (λ (x : DriverState). x.confirmed) queues.driver) shows.all_earlier;
      none_later = rw (ap (λ (x : DriverState). x.confirmed) queues.driver) shows.none_later;
      levels = shows.levels ∙ sym (ap (λ (x : DriverState). x.levels) queues.driver);
      limits = shows.limits;
    }

-- the machine's devices once it has none: those of the world whose caches don't count
devices_shown : (known : List driver.Device) (rows : List FlightRow) (devices : List Device) (shown : List declared.Device) (id : ℕ) (found leaving : declared.Device)
    → find (λ (d : declared.Device). d.id == id) shown ≡ Some found → leaving.id ≡ id → replaced_device shown id leaving ≡ shown_devices known rows devices
    → replaced_device shown id (record leaving { has_disk = false }) ≡ shown_devices known rows (with_block_reset (with_has_disk devices id false) id)
devices_shown known rows devices shown id found leaving at own is =
    let there : shown_of known rows devices id ≡ Some leaving =
    ap (λ (ds : List declared.Device). find (λ (d : declared.Device). d.id == id) ds) (sym is) ∙ found_replaced shown id found leaving at own in
    let mine = shown_found known rows devices id leaving there in
    sym (replaced_twice shown id leaving (record leaving { has_disk = false }) own)
    ∙ ap (λ (ds : List declared.Device). replaced_device ds id (record leaving { has_disk = false })) is
    ∙ ap (λ (d : declared.Device). replaced_device (shown_devices known rows devices) id (record d { has_disk = false })) mine.2
    ∙ replaced_has known rows devices id false mine.0 mine.1
    ∙ sym (shown_block_reset known rows (with_has_disk devices id false) id)

shows_left : (new : Parts) (devices : List Device) (id ticket : ℕ) (found : declared.Device) → new.devices ≡ with_block_reset (with_has_disk devices id false) id
    → (state : State) → device_of state id ≡ Some found → PartsShow (record new { devices = devices }) (leaving_state state found ticket) → PartsShow new (left_state state found ticket)
shows_left new devices id ticket found left state at shows =
    let own : found.id ≡ id = (found_device state.devices id found at).1 in
    let leaving : declared.Device = record found { attachment = leaving_under ticket found.attachment } in
    let before : replaced_device state.devices id leaving ≡ shown_devices new.driver.devices (flights_of new.iommu).rows devices =
    ap (λ n. replaced_device state.devices n leaving) (sym own) ∙ shows.devices in
    record {
      ledger = shows.ledger;
      frames = shows.frames;
      devices = ap (λ n. replaced_device state.devices n (record leaving { has_disk = false })) own
          ∙ devices_shown new.driver.devices (flights_of new.iommu).rows devices state.devices id found leaving at own before
          ∙ ap (shown_devices new.driver.devices (flights_of new.iommu).rows) (sym left);
      given = shows.given;
      confirmed = shows.confirmed;
      all_earlier = shows.all_earlier;
      none_later = shows.none_later;
      levels = shows.levels;
      limits = shows.limits;
    }

pub detach_step : {walks : List Walk} (old new : Parts) (events id : ℕ) (reply : Outcome) → InvariantWith walks old events → DriverInvariant old.driver → DetachesDevice old id reply new
    → (state : State) → PartsShow old state → (next : State) × machine.Detaches state id reply next × PartsShow new next
detach_step old new events id reply invariants driver_invariant effect state shows =
    by effect.answer effect.reply_is (effect.call.reply (has_grants state id) (grants_shown old.driver.ledger state id shows.ledger)) effect.call.effect effect.devices
  where
    by : (answer : Result Ticket Refusal) → reply ≡ outcome_of_ticket answer → IsReplyToDetach old.driver (registers_of old.iommu) (has_grants state id) id answer
        → DetachEffect mmio old.driver old.memory old.iommu id answer new.driver new.memory new.iommu → new.devices ≡ devices_left answer old.devices id → (next : State) × machine.Detaches state id reply next × PartsShow new next
    by (Ok ticket) is none queues devices =
        let d = old.driver in
        let there = attached_there d.devices id queues.stage queues.attached in
        let found = found_there (device_of state id) (there_shown old events state id invariants shows ∙ there) in
        let how : found.0.attachment ≡ Attached queues.stage.mode queues.stage.ats = found_how state id found.0 found.1 ∙ how_shown old events state id invariants shows
        ∙ ap shown_attachment (attached_is (attachment_by_id d.devices id) queues.stage queues.attached) in (
          left_state state found.0 ticket.0,
          subst (λ t. machine.Detaches state id t (left_state state found.0 ticket.0)) (sym is) (
            may_detach old events state id invariants shows none,
            queues.next ∙ ap (λ n. n + 1) (sym shows.given),
            some_and (λ (d : declared.Device). left_state state found.0 ticket.0 ≡ left_state state d ticket.0) (device_of state id) found.0 found.1 refl,
          ),
          shows_left new old.devices id ticket.0 found.0 devices state found.1
              (shows_leaving old (record new { devices = old.devices }) events id ticket.0 found.0 invariants driver_invariant queues refl state shows found.1 how),
        )
    by (Err why) is first call devices = (
      state,
      subst (λ t. machine.Detaches state id t state) (sym is) (detach_refused_by old events state id why invariants shows first, refl),
      shows_same old new state call.1 (ap (λ (i : Iommu). flights_of i) call.2) devices call.0 shows,
    )

-- The answer to a request is one that the ledger machine may give, and its state shows the parts then.
use Rattle.std.proofs.Common.{IsSomeAnd, ◌≡◌, ℕ, ◌+◌, ◌<◌, ◌≤◌, ◌∙◌, true, false, List, [], length, map, Option, Some, None, Result, Ok, Err, refl, sym, ap, subst, arith}
use Rattle.std.proofs.lemmas.List.{length-map}
use Rattle.iom_base.specs.Accesses.{IsWithinPage, MayWant}
use Rattle.std.specs.Option.{option_map_or}
use Rattle.iom_base.specs.DeviceKinds.{has_cache, is_block_device, sends_untranslated}
use Rattle.iom_base.specs.Sizes.{in_flight_limit}
use Rattle.iom_base.specs.declared.access.Access.{Access}
use Rattle.iom_base.specs.declared.device_kind.DeviceKind.{DeviceKind}
use Rattle.iom_base.specs.declared.device_kind.DeviceKind.TheVariants.{Raw, Ats, Block, CachedBlock}
use Rattle.iom_driver.specs.Devices.{attachment_by_id}
use Rattle.iom_fault_queue.specs.Fields.{untranslated_of}
use Rattle.iom_fault_queue.specs.Records.{record_of}
use Rattle.iom_inflight.specs.Flights.{FlightRow, NumberedAccess, count_in, row_of}
use Rattle.iom_iommu.specs.Parts.{flights_of, translations_of}
use Rattle.iom_iommu.specs.Requests.{fault_of, faulted_of}
use Rattle.iom_iommu.specs.Stepped.{Replies}
use Rattle.iom_iommu.specs.declared.reply.Reply.{Reply}
use Rattle.iom_iommu.specs.declared.reply.Reply.TheVariants.{Accepted, Busy, BadSpan, Fault}
use Rattle.iom_machine.specs.BlockDevices.{TakesStep}
use Rattle.iom_machine.specs.Devices.{device_of}
use Rattle.iom_machine.specs.Machine.{ChosenStep}
use Rattle.iom_machine.specs.Requests.{IsBusy, MayAccept, MayAnswer, MayFault, state_after, with_accepted}
use Rattle.iom_machine.specs.declared.state.Device as machine
use Rattle.iom_machine.specs.declared.state.Limits.{Limits}
use Rattle.iom_machine.specs.declared.state.State.{State}
use Rattle.iom_stage_walk.specs.declared.walked.WalkFault.{WalkFault}
use Rattle.iom_stepped_machine.specs.Machine.{IsFullBesides, walks_at_steps}
use Rattle.iom_stepped_machine.specs.Walks.{Asking, Begins, Reads, Writes, access_of, event_of}
use Rattle.iom_stepped_refinement.specs.Shows.{Asks, CanAsk}
use Rattle.iom_tlb.specs.Chosen.{ioatc}
use Rattle.iom_tlb.specs.declared.trans_cache.Translation.{Translation}
use Rattle.iom_walk_coherence.specs.Walks.{Walk}
use Rattle.iom_world_effects.specs.Devices.{in_flight_of, shown_attachment, shown_device, shown_devices}
use Rattle.iom_world_effects.specs.Invariant.{InvariantWith}
use Rattle.iom_world_effects.specs.Parts.{Parts}
use Rattle.iom_world_effects.specs.Requests.{outcome_of_reply}
use Rattle.iom_world_effects.specs.Shows.{PartsShow}
use Rattle.iom_world_effects.proofs.DriverLemmas.{DriverInvariant}
use Rattle.iom_world_effects.proofs.PartsLemmas.{StaysReported}
use Rattle.iom_world_effects.proofs.PresentLemmas.{kind_present}
use Rattle.iom_world_effects.proofs.RowPlaces.{IsFound, present_found, shown_of}
use Rattle.iom_world_effects.proofs.ServedLemmas.{IsAnswered}
use Rattle.iom_world_effects.proofs.SoundFrom.{LeavesReport}
use Rattle.iom_world_invariant.proofs.RequestKeeps.{record_leaves}
use Rattle.iom_world_invariant.proofs.RequestStep.{accepted_shown, acts_at, kind_found, may_accept, may_fault, shows_reported, shows_where}
use Rattle.iom_world_refinement.proofs.EventLemmas.{access_chosen}

-- a block device of the kind has no cache of its own
steps_at : (kind : DeviceKind) → walks_at_steps kind ≡ true → (is_block_device kind ≡ true) × (has_cache kind ≡ false)
steps_at Raw is = cc
steps_at Ats is = cc
steps_at Block is = (refl, refl)
steps_at CachedBlock is = cc

-- a device that is found is plugged in
pub plugged_from : (parts : Parts) (state : State) (id : ℕ) → state.devices ≡ shown_devices parts.driver.devices (flights_of parts.iommu).rows parts.devices
    → (is : IsFound parts.driver.devices (flights_of parts.iommu).rows parts.devices id) → device_of state id ≡ Some (shown_device parts.driver.devices (flights_of parts.iommu).rows is.device)
plugged_from parts state id shows is = rw (shows, is.shown) refl

-- and one that isn't there isn't
pub absent_from : (parts : Parts) (state : State) (id : ℕ) → state.devices ≡ shown_devices parts.driver.devices (flights_of parts.iommu).rows parts.devices
    → shown_of parts.driver.devices (flights_of parts.iommu).rows parts.devices id ≡ None → device_of state id ≡ None
absent_from parts state id shows none = rw (shows, none) refl

module _ (parts : Parts) (state : State) (shows : PartsShow parts state) (id : ℕ) (asking : Asking) (asks : Asks parts.devices id asking) where
  pub found : IsFound parts.driver.devices (flights_of parts.iommu).rows parts.devices id
  found = present_found parts.driver.devices (flights_of parts.iommu).rows parts.devices id (kind_present parts.devices id asks.kind asks.there)

  abbrev pub device : machine.Device
  device = shown_device parts.driver.devices (flights_of parts.iommu).rows found.device

  pub kind_is : found.device.kind ≡ asks.kind
  kind_is = kind_found parts.driver.devices (flights_of parts.iommu).rows parts.devices id asks.kind found asks.there

  -- the device has so many in flight
  pub in_flight : length device.in_flight ≡ count_in (row_of (flights_of parts.iommu).rows id)
  in_flight = ap (λ n. length (in_flight_of (flights_of parts.iommu).rows n)) found.own ∙ by (row_of (flights_of parts.iommu).rows id)
    where
      by : (found_row : Option FlightRow) → length (option_map_or (λ (row : FlightRow). map (λ (flight : NumberedAccess). flight.accepted) row.waiting) found_row []) ≡ count_in found_row
      by None = refl
      by (Some row) = length-map row.waiting (λ (flight : NumberedAccess). flight.accepted)

  pub most : state.limits.in_flight ≡ in_flight_limit
  most = ap (λ (limits : Limits). limits.in_flight) shows.limits

  pub has_room : count_in (row_of (flights_of parts.iommu).rows id) < in_flight_limit → ¬ IsBusy state.limits.in_flight device.in_flight
  has_room room busy = let many = in_flight in let eight = most in absurd (omega (arith, room, busy, many, eight))

  pub is_full : in_flight_limit ≤ count_in (row_of (flights_of parts.iommu).rows id) → IsBusy state.limits.in_flight device.in_flight
  is_full full = let many = in_flight in let eight = most in omega (arith, full, many, eight)

  pub plugged_at : device_of state id ≡ Some device
  plugged_at = plugged_from parts state id shows.devices found

  -- beside a walk there is one place fewer
  pub full_besides : in_flight_limit ≤ count_in (row_of (flights_of parts.iommu).rows id) + 1 → IsFullBesides state id
  full_besides full = subst (λ d. IsSomeAnd d (λ device. state.limits.in_flight ≤ length device.in_flight + 1)) (sym plugged_at) (let many = in_flight in let eight = most in omega (arith, full, many, eight))

  pub room_besides : count_in (row_of (flights_of parts.iommu).rows id) + 1 < in_flight_limit → ¬ IsFullBesides state id
  room_besides room full =
      let least : state.limits.in_flight ≤ length device.in_flight + 1 = subst (λ d. IsSomeAnd d (λ device. state.limits.in_flight ≤ length device.in_flight + 1)) plugged_at full in
      let many = in_flight in let eight = most in absurd (omega (arith, room, least, many, eight))

  -- the machine may answer so, in the way in which the device asked
  pub answer_step : (reply : Reply) (frame : ℕ) (next : State) → MayAnswer state device (access_of asking) frame (outcome_of_reply reply)
      → next ≡ state_after state device (access_of asking) frame (outcome_of_reply reply)
      → ChosenStep (access_chosen (access_of asking) frame) state (event_of id asking) (outcome_of_reply reply) next
  answer_step reply frame next may after = by asking asks.can may after
    where
      steps : (access : Access) → (reply : Reply) → IsWithinPage access → (want : MayWant access) → has_cache device.kind ≡ false → MayAnswer state device access frame (outcome_of_reply reply)
          → next ≡ state_after state device access frame (outcome_of_reply reply) → TakesStep state device access frame (outcome_of_reply reply) next
      steps access (Accepted number) within want none may after = (want, rw none (may, after))
      steps access Busy within want none may after = (want, rw none (may, after))
      steps access BadSpan within want none may after = absurd (may within)
      steps access (Fault cause) within want none may after = (want, rw none (may, after))

      by : (asking : Asking) → CanAsk asks.kind asking → MayAnswer state device (access_of asking) frame (outcome_of_reply reply)
          → next ≡ state_after state device (access_of asking) frame (outcome_of_reply reply)
          → ChosenStep (access_chosen (access_of asking) frame) state (event_of id asking) (outcome_of_reply reply) next
      by (Reads address len) can may after =
          acts_at sends_untranslated (λ d. MayAnswer state d (access_of (Reads address len)) frame (outcome_of_reply reply) × (next ≡ state_after state d (access_of (Reads address len)) frame (outcome_of_reply reply)))
          parts state id (outcome_of_reply reply) next shows.devices found (ap sends_untranslated kind_is ∙ can) (may, after)
      by (Writes address bytes) can may after =
          acts_at sends_untranslated (λ d. MayAnswer state d (access_of (Writes address bytes)) frame (outcome_of_reply reply) × (next ≡ state_after state d (access_of (Writes address bytes)) frame (outcome_of_reply reply)))
          parts state id (outcome_of_reply reply) next shows.devices found (ap sends_untranslated kind_is ∙ can) (may, after)
      by (Begins access) can may after =
          let kind = steps_at asks.kind can.0 in
          acts_at is_block_device (λ d. TakesStep state d access frame (outcome_of_reply reply) next) parts state id (outcome_of_reply reply) next shows.devices found (ap is_block_device kind_is ∙ kind.0)
          (steps access reply can.1.0 can.1 (ap has_cache kind_is ∙ kind.1) may after)

-- what an answer leads to: the machine may give it, and shows the parts then, which have as many frames
pub record AnswersSo (state : State) (device : machine.Device) (access : Access) (reply : Reply) (new : Parts) (frames : ℕ) : Type 0 where
  pub frame : ℕ
  pub next : State
  pub may : MayAnswer state device access frame (outcome_of_reply reply)
  pub after : next ≡ state_after state device access frame (outcome_of_reply reply)
  pub shows : PartsShow new next
  pub size : length new.memory ≡ frames

module _ {walks : List Walk} (old new : Parts) (events id : ℕ) (access : Access) (invariants : InvariantWith walks old events) (own : DriverInvariant old.driver) (reported : StaysReported old.driver)
    (driver : new.driver ≡ old.driver) (devices : new.devices ≡ old.devices) (fabric : new.fabric ≡ old.fabric) (state : State) (shows : PartsShow old state)
    (is : IsFound old.driver.devices (flights_of old.iommu).rows old.devices id) (within : IsWithinPage access)
    (room : ¬ IsBusy state.limits.in_flight (in_flight_of (flights_of old.iommu).rows is.device.id)) where
  abbrev shown : machine.Device
  shown = shown_device old.driver.devices (flights_of old.iommu).rows is.device

  -- where it is answered as a whole request may be
  pub replied : (translated : Result Translation WalkFault) (reply : Reply) → Replies old.memory old.iommu id access translated reply new.memory new.iommu
      → ((answer : Result Translation WalkFault) → translated ≡ answer → IsAnswered ioatc.SURE old.driver id access.address access.kind (translations_of old.iommu) answer (translations_of new.iommu))
      → AnswersSo state shown access reply new (length old.memory)
  replied translated (Accepted number) accepts answered =
      let translation = accepts.translation in
      let after = accepted_shown old new events id invariants state shows is access translation.frame number accepts.memory_stays driver devices accepts.accepted in
      record {
        frame = translation.frame;
        next = with_accepted state shown access translation.frame;
        may = (
          (within, room),
          subst (λ n. MayAccept (shown_attachment (attachment_by_id old.driver.devices n)) state n access translation.frame) (sym is.own)
              (may_accept old events state id translation access ioatc.SURE (translations_of old.iommu) (translations_of new.iommu) invariants own shows refl (answered (Ok translation) accepts.is)),
          after.0,
        );
        after = refl;
        shows = after.1;
        size = ap (λ m. length m) accepts.memory_stays;
      }
  replied translated (Fault cause) records answered =
      let flights = ap (λ parts. parts.flights) records.rest in
      let leaves : LeavesReport old new =
      record_leaves old new events (record_of (faulted_of id (untranslated_of access.kind) access.address) (fault_of records.fault)) records.answer invariants reported driver devices fabric
      (ap (λ parts. parts.frames) records.rest) (ap (λ parts. parts.slots) records.rest) flights records.recorded in
      record {
        frame = 0;
        next = state;
        may = (
          (within, room),
          subst (λ n. MayFault (shown_attachment (attachment_by_id old.driver.devices n)) state n access cause) (sym is.own)
              (subst (λ c. MayFault (shown_attachment (attachment_by_id old.driver.devices id)) state id access c) (sym records.reply)
              (may_fault (attachment_by_id old.driver.devices id) old state id access records.fault.cause own shows refl (answered (Err records.fault) records.is).0)),
        );
        after = refl;
        shows = shows_where old new state (shows_reported old new state leaves invariants.ready.stand.size own shows) driver devices flights shows;
        size = leaves.else_same.size;
      }
  replied translated Busy never answered = absurd never
  replied translated BadSpan never answered = absurd never

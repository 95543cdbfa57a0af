-- A request is a lawful step of the ledger machine.
use Rattle.std.proofs.Common.{◌≡◌, ◌+◌, ◌/◌, ◌^◌, ◌<◌, ◌∙◌, ◌∷◌, ◌++◌, inl, inr, ℕ, Bool, true, false, List, [], length, map, Some, Ok, Err, option_map, slice_get, refl, sym, ap, subst, arith}
use Rattle.std.proofs.lemmas.List.{length-map}
use Rattle.iom_walk_coherence.specs.Walks.{Walk}
use Rattle.iom_base.specs.declared.access.AcceptedAccess.{AcceptedAccess}
use Rattle.iom_base.specs.declared.access.Access.{Access}
use Rattle.iom_base.specs.declared.cause.Cause.{Cause}
use Rattle.iom_base.specs.Rights.{allows}
use Rattle.iom_driver.specs.declared.device.Attachment.{Attachment}
use Rattle.iom_driver.specs.declared.device.Attachment.TheVariants as driver
use Rattle.iom_driver.specs.declared.device.Device as known
use Rattle.iom_driver.specs.Devices.{attachment_by_id}
use Rattle.iom_driver.specs.Layout.{fault_frame}
use Rattle.iom_base.specs.Sizes.{in_flight_limit}
use Rattle.iom_inflight.specs.Calls.{with_access, IsAccepted, IsFull}
use Rattle.iom_inflight.specs.Flights.{NumberedAccess, FlightRow, row_of, with_row}
use Rattle.iom_inflight.proofs.Rows.{row_is_own}
use Rattle.iom_iommu.specs.declared.reply.Reply.{Reply}
use Rattle.iom_iommu.specs.declared.reply.Reply.TheVariants.{Accepted, Busy, BadSpan, Fault}
use Rattle.iom_iommu.specs.Parts.{translations_of, flights_of}
use Rattle.iom_iommu.specs.Requests.{AnswersRequest, AcceptsRequest, RefusesRequest}
use Rattle.iom_ledger.specs.declared.ledger.Ledger.{Ledger}
use Rattle.iom_base.specs.declared.refusal.Refusal.TheVariants.{NoSuchDevice, WrongKind}
use Rattle.iom_machine.specs.declared.outcome.Outcome.{Outcome}
use Rattle.iom_machine.specs.declared.outcome.Outcome.TheVariants as outcome
use Rattle.iom_machine.specs.declared.state.Attachment.TheVariants as shown
use Rattle.iom_base.specs.declared.mode.Mode.{Mode}
use Rattle.iom_base.specs.declared.mode.Mode.TheVariants.{First, Second, Both}
use Rattle.iom_base.specs.declared.owner.Owner.TheVariants.{System}
use Rattle.iom_machine.specs.declared.state.Device as machine
use Rattle.iom_machine.specs.declared.state.Limits.{Limits}
use Rattle.iom_machine.specs.declared.state.State.{State}
use Rattle.iom_machine.specs.Devices.{replaced_device}
use Rattle.iom_machine.specs.Machine.{Acts}
use Rattle.iom_machine.specs.Requests as requests
use Rattle.iom_machine.specs.Requests.{MayAccept, MayFault, MayAnswer, IsBusy, state_after, with_accepted}
use Rattle.iom_ledger.specs.Shown.{Agrees, held_in}
use Rattle.iom_tlb.specs.declared.trans_cache.Translation.{Translation}
use Rattle.iom_tlb.specs.Chosen.{ioatc}
use Rattle.iom_tlb.specs.Content.{Translations}
use Rattle.iom_world_effects.specs.Devices.{accepted_of, in_flight_of, shown_device, shown_devices, shown_attachment}
use Rattle.iom_world_effects.specs.Frames.{ShowsFrames}
use Rattle.iom_world_effects.specs.Parts.{Parts}
use Rattle.iom_world_effects.specs.Places.{IsAbsent}
use Rattle.iom_world_effects.specs.Read.{space_in}
use Rattle.iom_world_effects.specs.Requests.{AsksAccess, outcome_of_reply}
use Rattle.iom_world_effects.specs.Shows.{PartsShow}
use Rattle.iom_world_effects.specs.Invariant.{InvariantWith}
use Rattle.iom_world_effects.proofs.DriverLemmas.{DriverInvariant}
use Rattle.iom_world_effects.proofs.RowPlaces.{IsFound, absent_shown, present_found, row_shown, accepted_at, in_flight_at, with_own}
use Rattle.iom_world_effects.proofs.RowLemmas.{map_push}
use Rattle.iom_world_effects.proofs.FrameLemmas.{shows_kept}
use Rattle.iom_world_effects.proofs.PartsLemmas.{StaysReported}
use Rattle.iom_world_invariant.proofs.RequestKeeps.{report_leaves}
use Rattle.iom_world_effects.proofs.SceneSteps.{HoldsWalked}
use Rattle.iom_world_effects.proofs.ServedLemmas.{ServiceLaws, FaultsAs, IsAnswered, cause_at, served}
use Rattle.iom_world_effects.proofs.SoundFrom.{LeavesReport}
use Rattle.iom_world_effects.proofs.UnchangedLemmas.{not_owned}
use Rattle.iom_world_effects.proofs.WalkLemmas.{NoneIsHeldFor, FaultsBy}
use Rattle.iom_world_effects.proofs.CachedMay.{cached_accept}
use Rattle.iom_base.specs.declared.device_kind.DeviceKind.{DeviceKind}
use Rattle.iom_device.specs.declared.device.Device.{Device}
use Rattle.iom_device.specs.Caches.{kind_in}
use Rattle.iom_world_effects.proofs.PresentLemmas.{kind_present}

-- a device acts where it is found; one that isn't there is refused
pub acts_at : (can : DeviceKind → Bool) (IfPlugged : machine.Device → Type 0) (old : Parts) (state : State) (id : ℕ) (response : Outcome) (next : State)
    → state.devices ≡ shown_devices old.driver.devices (flights_of old.iommu).rows old.devices → (is : IsFound old.driver.devices (flights_of old.iommu).rows old.devices id)
    → can is.device.kind ≡ true → IfPlugged (shown_device old.driver.devices (flights_of old.iommu).rows is.device) → Acts can IfPlugged state id response next
acts_at can IfPlugged old state id response next shows is able acts = rw (shows, is.shown, able) acts

-- one of a kind that can't is refused
pub acts_unable : (can : DeviceKind → Bool) (IfPlugged : machine.Device → Type 0) (old : Parts) (state : State) (id : ℕ) (response : Outcome)
    → state.devices ≡ shown_devices old.driver.devices (flights_of old.iommu).rows old.devices → (is : IsFound old.driver.devices (flights_of old.iommu).rows old.devices id)
    → can is.device.kind ≡ false → response ≡ outcome.Refused WrongKind → Acts can IfPlugged state id response state
acts_unable can IfPlugged old state id response shows is unable refused = rw (shows, is.shown, unable) (refused, refl)

-- the device that is found is of the kind that stands there
pub kind_found : (drivers : List known.Device) (rows : List FlightRow) (devices : List Device) (id : ℕ) (kind : DeviceKind) → (is : IsFound drivers rows devices id) → kind_in devices id ≡ Some kind
    → is.device.kind ≡ kind
kind_found drivers rows devices id kind is there = some_same is.device.kind kind (sym (ap (option_map (λ (device : Device). device.kind)) is.found) ∙ there)
  where
    some_same : (x y : DeviceKind) → Some x ≡ Some y → x ≡ y
    some_same x y same = cc

pub acts_absent : (can : DeviceKind → Bool) (IfPlugged : machine.Device → Type 0) (old : Parts) (state : State) (id : ℕ) (response : Outcome)
    → state.devices ≡ shown_devices old.driver.devices (flights_of old.iommu).rows old.devices → IsAbsent old.devices id → response ≡ outcome.Refused NoSuchDevice → Acts can IfPlugged state id response state
acts_absent can IfPlugged old state id response shows absent is = rw (shows, absent_shown old.driver.devices (flights_of old.iommu).rows old.devices id absent) (is, refl)

-- the state stays, and the parts
pub shows_same : (old new : Parts) (state : State) → new ≡ old → PartsShow old state → PartsShow new state
shows_same old new state same shows = subst (λ parts. PartsShow parts state) (sym same) shows

-- what a walk gives is held by the history: in one stage at the page itself, in both at some page
held_shown : (state : State) (ledger : Ledger) (mode : Mode) (ats : Bool) (id : ℕ) (access : Access) (translation : Translation) → Agrees ledger state.history
    → HoldsWalked ledger mode id (access.address / 4096) translation → allows translation.rights access.kind ≡ true
    → MayAccept (shown.Attached mode ats) state id access translation.frame
held_shown state ledger (First size) ats id access translation agrees (granted, rights, (at, same), held) allowed =
    inl (rights, (agrees.pages id (access.address / 4096)).holds ∙ ap (held_in ledger id) (sym at) ∙ held, ap (λ r. allows r access.kind) same ∙ allowed)
held_shown state ledger (Second size) ats id access translation agrees (granted, rights, (at, same), held) allowed =
    inl (rights, (agrees.pages id (access.address / 4096)).holds ∙ ap (held_in ledger id) (sym at) ∙ held, ap (λ r. allows r access.kind) same ∙ allowed)
held_shown state ledger (Both size) ats id access translation agrees (granted, rights, no_less, held) allowed =
    (granted, rights, inl ((agrees.pages id granted).holds ∙ held), no_less access.kind allowed)

none_held_shown : (state : State) (ledger : Ledger) (id : ℕ) (access : Access) → Agrees ledger state.history
    → NoneIsHeldFor ledger id (access.address / 4096) access.kind → requests.HoldsNoneFor state.history id access
none_held_shown state ledger id access agrees none frame held =
    none frame (held.0, sym (agrees.pages id (access.address / 4096)).holds ∙ held.1, held.2)

-- what the machine lets an attached device be accepted, and each fault
pub may_accept : {walks : List Walk} (parts : Parts) (events : ℕ) (state : State) (id : ℕ) (answer : Translation) (access : Access) (sure : Bool) (old new : Translations) → InvariantWith walks parts events → DriverInvariant parts.driver → PartsShow parts state
    → old ≡ translations_of parts.iommu → IsAnswered sure parts.driver id access.address access.kind old (Ok answer) new
    → MayAccept (shown_attachment (attachment_by_id parts.driver.devices id)) state id access answer.frame
may_accept parts events state id answer access sure old new invariants own shows same (inl reaches) =
    subst (λ a. MayAccept (shown_attachment a) state id access answer.frame) (sym reaches.attached)
    (subst (λ n. MayAccept (shown.Attached reaches.stage.mode reaches.stage.ats) state id access n) (sym (ap (λ (t : Translation). t.frame) reaches.answer_is))
    (held_shown state parts.driver.ledger reaches.stage.mode reaches.stage.ats id access reaches.translation shows.ledger reaches.held reaches.allowed))
may_accept parts events state id answer access sure old new invariants own shows same (inr finds) =
    subst (λ n. MayAccept (shown_attachment (attachment_by_id parts.driver.devices id)) state id access n) (sym (ap (λ (t : Translation). t.frame) finds.answer_is))
    (cached_accept parts events state id access finds.stage finds.translation invariants own shows finds.owned
    (ap (λ (c : Translations). c (space_in finds.stage.mode finds.stage.number, access.address / 4096)) (sym same) ∙ finds.cached) finds.allowed finds.pending)

attached_fault : (mode : Mode) (ats : Bool) (state : State) (ledger : Ledger) (id : ℕ) (access : Access) (cause : Cause) → Agrees ledger state.history
    → FaultsBy mode ledger id (access.address / 4096) access.kind cause → MayFault (shown.Attached mode ats) state id access cause
attached_fault (First size) ats state ledger id access cause agrees faults = (none_held_shown state ledger id access agrees faults.1, faults.0)
attached_fault (Second size) ats state ledger id access cause agrees faults = (none_held_shown state ledger id access agrees faults.1, faults.0)
attached_fault (Both size) ats state ledger id access cause agrees faults = faults

pub may_fault : (a : Attachment) (parts : Parts) (state : State) (id : ℕ) (access : Access) (cause : Cause) → DriverInvariant parts.driver → PartsShow parts state
    → attachment_by_id parts.driver.devices id ≡ a → FaultsAs a parts.driver id access.address access.kind cause → MayFault (shown_attachment a) state id access cause
may_fault driver.Detached parts state id access cause own shows is faults = faults ∙ ap (λ l. cause_at l id) (sym shows.levels)
may_fault (driver.Attached stage) parts state id access cause own shows is faults = attached_fault stage.mode stage.ats state parts.driver.ledger id access cause shows.ledger faults
may_fault (driver.Quarantined ticket stage) parts state id access cause own shows is (inl (pending, page)) = inr (shows.none_later ticket pending, page)
may_fault (driver.Quarantined ticket stage) parts state id access cause own shows is (inr none) = inl (none ∙ ap (λ l. cause_at l id) (sym shows.levels))
may_fault (driver.Leaving ticket stage) parts state id access cause own shows is (inl page) = inr (shows.none_later ticket (own.leaving id ticket stage is).0, page)
may_fault (driver.Leaving ticket stage) parts state id access cause own shows is (inr none) = inl (none ∙ ap (λ l. cause_at l id) (sym shows.levels))

-- the machine may answer the access of a device so, on the frame, if it is of a kind that can ask for it
abbrev pub RequestsAs : (DeviceKind → Bool) → ℕ → State → ℕ → Access → Outcome → State → Type 0
RequestsAs can frame state id access response next = Acts can (λ device. MayAnswer state device access frame response × (next ≡ state_after state device access frame response)) state id response next

-- what a request leads to: the machine may answer so, and shows the parts then
abbrev Steps : (DeviceKind → Bool) → State → ℕ → Access → Outcome → Parts → Type 0
Steps can state id access response new = (frame : ℕ) × (next : State) × RequestsAs can frame state id access response next × PartsShow new next

-- nothing changes that the machine shows, though other contexts are cached, and reserved frames have other bytes
pub shows_where : (old new : Parts) (state : State) → ShowsFrames new.memory old.driver.owners state.frames → new.driver ≡ old.driver → new.devices ≡ old.devices
    → flights_of new.iommu ≡ flights_of old.iommu → PartsShow old state → PartsShow new state
shows_where old new state frames driver devices flights shows = record {
  ledger = rw driver shows.ledger;
  frames = rw driver frames;
  devices = rw (driver, devices, flights) shows.devices;
  given = rw driver shows.given;
  confirmed = rw driver shows.confirmed;
  all_earlier = rw driver shows.all_earlier;
  none_later = rw driver shows.none_later;
  levels = rw driver shows.levels;
  limits = shows.limits;
}

-- a frame that is nobody's isn't the fault queue's, and keeps its bytes where a fault is reported
pub shows_reported : (old new : Parts) (state : State) (leaves : LeavesReport old new) → length old.memory ≡ length old.driver.owners → DriverInvariant old.driver
    → PartsShow old state → ShowsFrames new.memory old.driver.owners state.frames
shows_reported old new state leaves size own shows =
    shows_kept old.memory new.memory old.driver.owners state.frames shows.frames
    (λ k free. leaves.else_same.frames k (λ same. not_owned old.driver.owners k System free
    (ap (slice_get old.driver.owners) (same ∙ ap fault_frame size) ∙ own.fixed.fault)))
    leaves.else_same.size

pub shows_flights : (old new : Parts) (state : State) → new.memory ≡ old.memory → new.driver ≡ old.driver → new.devices ≡ old.devices → flights_of new.iommu ≡ flights_of old.iommu
    → PartsShow old state → PartsShow new state
shows_flights old new state memory driver devices flights shows = record {
  ledger = rw driver shows.ledger;
  frames = rw (memory, driver) shows.frames;
  devices = rw (driver, devices, flights) shows.devices;
  given = rw driver shows.given;
  confirmed = rw driver shows.confirmed;
  all_earlier = rw driver shows.all_earlier;
  none_later = rw driver shows.none_later;
  levels = rw driver shows.levels;
  limits = shows.limits;
}

module _ {walks : List Walk} (old new : Parts) (events id : ℕ) (invariants : InvariantWith walks old events) (state : State) (shows : PartsShow old state)
    (is : IsFound old.driver.devices (flights_of old.iommu).rows old.devices id) where
  abbrev rows : List FlightRow
  rows = (flights_of old.iommu).rows

  abbrev device : machine.Device
  device = shown_device old.driver.devices (flights_of old.iommu).rows is.device

  -- how many of the device are in flight
  row_at : (row : FlightRow) → row_of (flights_of old.iommu).rows id ≡ Some row → row_of (flights_of old.iommu).rows is.device.id ≡ Some row
  row_at row at = ap (row_of rows) is.own ∙ at

  long : (row : FlightRow) → row_of (flights_of old.iommu).rows id ≡ Some row → length (in_flight_of (flights_of old.iommu).rows is.device.id) ≡ length row.waiting
  long row at = ap (λ (l : List AcceptedAccess). length l) (in_flight_at rows is.device.id row (row_at row at)) ∙ length-map row.waiting (λ (flight : NumberedAccess). flight.accepted)

  -- with eight it is busy, and else it isn't
  most : state.limits.in_flight ≡ in_flight_limit
  most = ap (λ (limits : Limits). limits.in_flight) shows.limits

  pub is_busy : IsFull (flights_of old.iommu) id → IsBusy state.limits.in_flight (in_flight_of (flights_of old.iommu).rows is.device.id)
  is_busy full = let least = full.full in let many = long full.row full.stands in let eight = most in omega (arith, least, many, eight)

  pub not_busy : (row : FlightRow) → row_of (flights_of old.iommu).rows id ≡ Some row → length row.waiting < in_flight_limit → ¬ IsBusy state.limits.in_flight (in_flight_of (flights_of old.iommu).rows is.device.id)
  not_busy row at room busy = let many = long row at in let eight = most in absurd (omega (arith, room, many, busy, eight))

  -- an access is accepted: it has the next number among the device's, and is shown in flight
  pub accepted_shown : (access : Access) (frame number : ℕ) → new.memory ≡ old.memory → new.driver ≡ old.driver → new.devices ≡ old.devices
      → IsAccepted (flights_of old.iommu) id (record { access = access; frame = frame }) number (flights_of new.iommu)
      → (number ≡ accepted_of (flights_of old.iommu).rows is.device.id + 1)
      × PartsShow new (with_accepted state (shown_device old.driver.devices (flights_of old.iommu).rows is.device) access frame)
  accepted_shown access frame number memory driver devices it =
      let flight : AcceptedAccess = record { access = access; frame = frame } in
      let so_far = (flights_of old.iommu).so_far in
      let after = with_access it.row flight (so_far + 1) in
      let accepted : accepted_of rows is.device.id ≡ it.row.accepted = accepted_at rows is.device.id it.row (row_at it.row it.stands) in
      let waiting : in_flight_of rows is.device.id ≡ map (λ (f : NumberedAccess). f.accepted) it.row.waiting = in_flight_at rows is.device.id it.row (row_at it.row it.stands) in
      let next = with_accepted state device access frame in
      let now : with_own device after ≡ record device { accepted = device.accepted + 1; in_flight = device.in_flight ++ flight ∷ [] } =
      ap (λ (n : ℕ). record device { accepted = n + 1; in_flight = map (λ (f : NumberedAccess). f.accepted) after.waiting }) (sym accepted)
      ∙ ap (λ (l : List AcceptedAccess). record device { accepted = device.accepted + 1; in_flight = l })
      (map_push (λ (f : NumberedAccess). f.accepted) it.row.waiting (record { accepted = flight; number = so_far + 1 }) ∙ ap (λ (l : List AcceptedAccess). l ++ flight ∷ []) (sym waiting)) in
      let mine : it.row.device ≡ id = row_is_own rows id it.row it.stands in
      let changed : next.devices ≡ shown_devices old.driver.devices (with_row rows after) old.devices =
      ap (λ (ds : List machine.Device). replaced_device ds is.device.id (record device { accepted = device.accepted + 1; in_flight = device.in_flight ++ flight ∷ [] })) shows.devices
      ∙ ap (λ (n : ℕ). replaced_device (shown_devices old.driver.devices rows old.devices) n (record device { accepted = device.accepted + 1; in_flight = device.in_flight ++ flight ∷ [] })) is.own
      ∙ ap (λ (d : machine.Device). replaced_device (shown_devices old.driver.devices rows old.devices) id d) (sym now)
      ∙ row_shown old.driver.devices rows old.devices id is.device it.row after invariants.known.own_ids is.found is.own it.stands mine in (
        it.counted ∙ ap (λ n. n + 1) (sym accepted),
        record {
          ledger = rw driver shows.ledger;
          frames = rw (memory, driver) shows.frames;
          devices = rw (driver, devices, it.after) changed;
          given = rw driver shows.given;
          confirmed = rw driver shows.confirmed;
          all_earlier = rw driver shows.all_earlier;
          none_later = rw driver shows.none_later;
          levels = rw driver shows.levels;
          limits = shows.limits;
        },
      )

module _ {walks : List Walk} (can : DeviceKind → Bool) (laws : ServiceLaws) (old new : Parts) (events id : ℕ) (access : Access) (invariants : InvariantWith walks old events) (own : DriverInvariant old.driver) (fits : access.address < 2 ^ 64)
    (reported : StaysReported old.driver) (driver : new.driver ≡ old.driver) (devices : new.devices ≡ old.devices) (state : State) (shows : PartsShow old state)
    (is : IsFound old.driver.devices (flights_of old.iommu).rows old.devices id) (able : can is.device.kind ≡ true) (fabric : new.fabric ≡ old.fabric) where
  abbrev MayTell : ℕ → State → Outcome → machine.Device → Type 0
  MayTell frame next response device = MayAnswer state device access frame response × (next ≡ state_after state device access frame response)

  step_same : (response : Outcome) → MayAnswer state (shown_device old.driver.devices (flights_of old.iommu).rows is.device) access 0 response
      → state ≡ state_after state (shown_device old.driver.devices (flights_of old.iommu).rows is.device) access 0 response
      → ShowsFrames new.memory old.driver.owners state.frames → flights_of new.iommu ≡ flights_of old.iommu → Steps can state id access response new
  step_same response may unchanged frames flights = (
    0,
    state,
    acts_at can (MayTell 0 state response) old state id response state shows.devices is able (may, unchanged),
    shows_where old new state frames driver devices flights shows,
  )

  same_frames : new.memory ≡ old.memory → ShowsFrames new.memory old.driver.owners state.frames
  same_frames memory = rw memory shows.frames

  step_fault : (cause : Cause) → RefusesRequest old.memory old.iommu id access cause new.memory new.iommu → Steps can state id access (outcome.Fault cause) new
  step_fault cause call =
      let faults = (served laws old events invariants own id access.address access.kind ioatc.SURE (translations_of old.iommu) (translations_of new.iommu) (Err call.fault) fits call.served).0 in
      let leaves = report_leaves old new events id access invariants reported driver devices fabric cause call in
      step_same (outcome.Fault cause) (
        (call.within, not_busy old new events id invariants state shows is call.room.row call.room.stands call.room.room),
        subst (λ n. MayFault (shown_attachment (attachment_by_id old.driver.devices n)) state n access cause) (sym is.own)
            (subst (λ c. MayFault (shown_attachment (attachment_by_id old.driver.devices id)) state id access c) (sym call.reply)
            (may_fault (attachment_by_id old.driver.devices id) old state id access call.fault.cause own shows refl faults)),
      )
      refl (shows_reported old new state leaves invariants.ready.stand.size own shows) (ap (λ parts. parts.flights) call.rest)

  step_accept : new.memory ≡ old.memory → (number : ℕ) → AcceptsRequest old.memory old.iommu id access number new.iommu → Steps can state id access (outcome.Accepted number) new
  step_accept memory number call =
      let it = call.accepted in
      let answers = served laws old events invariants own id access.address access.kind ioatc.SURE (translations_of old.iommu) (translations_of new.iommu) (Ok (record { frame = call.frame; rights = call.rights; order = call.order })) fits call.served in
      let next = with_accepted state (shown_device old.driver.devices (flights_of old.iommu).rows is.device) access call.frame in
      let after = accepted_shown old new events id invariants state shows is access call.frame number memory driver devices it in (
        call.frame,
        next,
        acts_at can (MayTell call.frame next (outcome.Accepted number)) old state id (outcome.Accepted number) next shows.devices is able (
          (
            (call.within, not_busy old new events id invariants state shows is it.row it.stands it.room),
            subst (λ n. MayAccept (shown_attachment (attachment_by_id old.driver.devices n)) state n access call.frame) (sym is.own)
                (may_accept old events state id (record { frame = call.frame; rights = call.rights; order = call.order }) access ioatc.SURE (translations_of old.iommu) (translations_of new.iommu) invariants own shows refl answers),
            after.0,
          ),
          refl,
        ),
        after.1,
      )

  step_replied : (reply : Reply) → AnswersRequest old.memory old.iommu id access reply new.memory new.iommu → Steps can state id access (outcome_of_reply reply) new
  step_replied (Accepted number) call = step_accept call.1 number call.0
  step_replied Busy call = step_same outcome.Busy (call.0, is_busy old new events id invariants state shows is call.1) refl (same_frames call.3) (ap flights_of call.2)
  step_replied BadSpan call = step_same outcome.BadSpan call.0 refl (same_frames call.2) (ap flights_of call.1)
  step_replied (Fault cause) call = step_fault cause call

pub request_step : {walks : List Walk} (can : DeviceKind → Bool) → ServiceLaws → (old new : Parts) (events id : ℕ) (access : Access) (response : Outcome) → InvariantWith walks old events → DriverInvariant old.driver → StaysReported old.driver
    → access.address < 2 ^ 64 → AsksAccess can old id access response new
    → (state : State) → PartsShow old state → (frame : ℕ) × (next : State) × RequestsAs can frame state id access response next × PartsShow new next
request_step can laws old new events id access response invariants own reported fits asks state shows = elim asks [
  | inl unknown ↦ (
    0,
    state,
    acts_absent can (λ device. MayAnswer state device access 0 response × (state ≡ state_after state device access 0 response)) old state id response shows.devices unknown.absent unknown.reply_is,
    shows_same old new state unknown.same shows,
  )
  | inr (inl unable) ↦
      let is = present_found old.driver.devices (flights_of old.iommu).rows old.devices id (kind_present old.devices id unable.kind unable.there) in (
        0,
        state,
        acts_unable can (λ device. MayAnswer state device access 0 response × (state ≡ state_after state device access 0 response)) old state id response shows.devices is
            (ap can (kind_found old.driver.devices (flights_of old.iommu).rows old.devices id unable.kind is unable.there) ∙ unable.cannot) unable.reply_is,
        shows_same old new state unable.same shows,
      )
  | inr (inr answered) ↦
      let kind = answered.0.0 in
      let is = present_found old.driver.devices (flights_of old.iommu).rows old.devices id (kind_present old.devices id kind answered.0.1) in
      let reply = answered.1 in
      let step = step_replied can laws old new events id access invariants own fits reported reply.driver reply.devices state shows is
      (ap can (kind_found old.driver.devices (flights_of old.iommu).rows old.devices id kind is answered.0.1) ∙ answered.0.2) reply.fabric reply.reply reply.call in
      (step.0, step.1, subst (λ t. RequestsAs can step.0 state id access t step.1) (sym reply.reply_is) step.2, step.3)
]

-- The sentences of the headline, over every run.
use Rattle.std.proofs.Common.{◌≡◌, ◌≢◌, ℕ, suc, zero, ◌+◌, ◌<◌, ◌≤◌, ◌⊎◌, inl, inr, List, [], ◌∷◌, length, slice_range, Option, None, Some, slice_get, slice_set, refl, sym, ap, ◌∙◌, subst, arith}
use Rattle.std.specs.Option.{option_map_or}
use Rattle.std.proofs.lemmas.Bool.{cases_eq}
use Rattle.iom_base.specs.Bytes.{with_bytes}
use Rattle.iom_base.specs.declared.access.AccessKind.{AccessKind}
use Rattle.iom_base.specs.declared.access.AccessKind.TheVariants as kinds
use Rattle.iom_base.specs.declared.cause.Cause.{Cause}
use Rattle.iom_ledger.specs.declared.entry.HistoryEntry.{HistoryEntry}
use Rattle.iom_ledger.specs.declared.entry.HistoryEntry.TheVariants as entries
use Rattle.iom_ledger.specs.History.{History, May, Pair, confirmed_from}
use Rattle.iom_ledger.specs.History as ledger
use Rattle.iom_base.specs.declared.refusal.Refusal.TheVariants.{NoSuchDevice}
use Rattle.iom_machine.specs.declared.choice.Choice.{Choice}
use Rattle.iom_machine.specs.declared.event.Event.{Event}
use Rattle.iom_machine.specs.declared.event.Event.TheVariants as events
use Rattle.iom_machine.specs.declared.outcome.Outcome.{Outcome}
use Rattle.iom_machine.specs.declared.outcome.Outcome.TheVariants.{Refused, Accepted, Busy, BadSpan, Fault, Read, Wrote, NothingInFlight}
use Rattle.iom_base.specs.declared.access.Access.{Access}
use Rattle.iom_machine.specs.declared.state.Device.{Device}
use Rattle.iom_base.specs.declared.device_kind.DeviceKind.TheVariants.{Raw}
use Rattle.iom_machine.specs.declared.state.Frame.{Frame}
use Rattle.iom_base.specs.declared.access.AcceptedAccess.{AcceptedAccess}
use Rattle.iom_machine.specs.declared.state.State.{State}
use Rattle.iom_machine.specs.Frames.{bytes_of, stored}
use Rattle.iom_machine.specs.Devices.{device_of, IsPlugged, EachInFlightMay}
use Rattle.iom_base.specs.Accesses.{read_of, offset_of, IsWithinPage}
use Rattle.iom_machine.specs.Requests.{IsBusy, HoldsFor, MayAcceptInOneStage, MayAccept, MayFault, MayAnswer, state_after, with_accepted}
use Rattle.iom_base.specs.DeviceKinds.{sends_untranslated, is_any_kind}
use Rattle.iom_machine.specs.Machine.{Requests, Makes, Step, with_oldest_made}
use Rattle.iom_machine.specs.Headline.{byte_in, IsOutside, AreNamedBytes, TouchesItsOwn, AsksFor, IsOneStage, GrantsFrameTo, GrantsFrame, TouchesFrameBy, TouchesFrame}
use Rattle.iom_machine.specs.Laws.{IsReached}
use Rattle.iom_machine.proofs.ReachLemmas.{NamesFrame, reach_before}
use Rattle.iom_machine.proofs.ByteLemmas.{slice_get-set_same, slice_get-set_other, slice_get-written_inside, slice_get-written_outside, slice_get-range, length-range}
use Rattle.iom_machine.proofs.InFlightLemmas.{act_cases, able_act, some_case, All-at, AllInFlight-of, found_device, IsWhole}
use Rattle.iom_machine.proofs.InvariantLemmas.{StateInvariant, sound_if_reached}
use Rattle.iom_machine.proofs.StepChanges.{LedgerChange, step_change}

pub in_flight_may : (state : State) → IsReached state → EachInFlightMay state
in_flight_may state reached = (sound_if_reached state reached).reaches

-- the bytes that are named lie in the frame, where it is there
named_in : (frame : Frame) (made : AcceptedAccess) (bytes : List ℕ) → length frame.bytes ≡ 4096 → IsWithinPage made.access
    → bytes ≡ slice_range frame.bytes (offset_of made.access) (offset_of made.access + made.access.len)
    → (length bytes ≡ made.access.len) × ((k : ℕ) → k < made.access.len → slice_get bytes k ≡ slice_get frame.bytes (offset_of made.access + k))
named_in frame made bytes long within same =
    let fits : offset_of made.access + made.access.len ≤ length frame.bytes = subst (λ n. offset_of made.access + made.access.len ≤ n) (sym long) within.1 in (
      ap (λ (l : List ℕ). length l) same ∙ length-range frame.bytes (offset_of made.access) made.access.len fits,
      (λ k below. ap (λ (l : List ℕ). slice_get l k) same ∙ slice_get-range frame.bytes (offset_of made.access) made.access.len k fits below),
    )

-- the bytes of a frame that is there
pub bytes_there : (frames : List Frame) (number : ℕ) (frame : Frame) → slice_get frames number ≡ Some frame → bytes_of frames number ≡ frame.bytes
bytes_there frames number frame at = ap (λ (found : Option Frame). option_map_or (λ (f : Frame). f.bytes) found []) at

-- a number below the length has an element
pub element_at : {X : Type 0} (xs : List X) (k : ℕ) → k < length xs → (x : X) × (slice_get xs k ≡ Some x)
element_at [] k below = absurd (omega arith)
element_at (x ∷ xs) zero below = (x, refl)
element_at (x ∷ xs) (suc k) below = let rest = element_at xs k (omega arith) in (rest.0, rest.1)

-- the frame of an access in flight is there, with a page of bytes
frame_there : (state : State) → StateInvariant state → (id : ℕ) (made : AcceptedAccess) → May state.history id made.frame made.access.kind
    → (frame : Frame) × (slice_get state.frames made.frame ≡ Some frame) × (length frame.bytes ≡ 4096)
frame_there state invariants id made may =
    let found = element_at state.frames made.frame (invariants.in_memory id made.frame made.access.kind may) in
    (found.0, found.1, All-at (λ (f : Frame). length f.bytes ≡ 4096) state.frames made.frame found.0 invariants.frames found.1)

-- the facts of the access that a commit makes
made_facts : (state : State) → StateInvariant state → (id : ℕ) (device : Device) (made : AcceptedAccess) → device_of state id ≡ Some device → slice_get device.in_flight 0 ≡ Some made
    → IsWhole id made × May state.history device.id made.frame made.access.kind
made_facts state invariants id device made at first = (
  All-at (λ flight. IsWhole device.id flight) device.in_flight 0 made (AllInFlight-of IsWhole state.devices id device at invariants.whole) first,
  All-at (λ flight. May state.history device.id flight.frame flight.access.kind) device.in_flight 0 made
      (AllInFlight-of (λ i flight. May state.history i flight.frame flight.access.kind) state.devices id device at invariants.reaches) first,
)

-- the bytes of a frame after a store into it
bytes_stored : (frames : List Frame) (number : ℕ) (frame : Frame) (offset : ℕ) (bytes : List ℕ) → slice_get frames number ≡ Some frame
    → bytes_of (stored frames number offset bytes) number ≡ with_bytes frame.bytes offset bytes
bytes_stored frames number frame offset bytes at =
    let new_frame : Frame = record frame { bytes = with_bytes frame.bytes offset bytes } in
    ap (λ (found : Option Frame). bytes_of (option_map_or (λ (f : Frame). slice_set frames number (record f { bytes = with_bytes f.bytes offset bytes })) found frames) number) at
    ∙ bytes_there (slice_set frames number new_frame) number new_frame (slice_get-set_same frames number frame new_frame at)

-- and of another
bytes_elsewhere : (frames : List Frame) (number other offset : ℕ) (bytes : List ℕ) → other ≢ number
    → bytes_of (stored frames number offset bytes) other ≡ bytes_of frames other
bytes_elsewhere frames number other offset bytes differ = by (slice_get frames number)
  where
    by : (found : Option Frame) → bytes_of (option_map_or (λ (f : Frame). slice_set frames number (record f { bytes = with_bytes f.bytes offset bytes })) found frames) other ≡ bytes_of frames other
    by None = refl
    by (Some frame) = ap (λ (found : Option Frame). option_map_or (λ (f : Frame). f.bytes) found [])
        (slice_get-set_other frames number other (record frame { bytes = with_bytes frame.bytes offset bytes }) differ)

-- a store touches its named bytes alone
stores_its_own : (frames : List Frame) (made : AcceptedAccess) (frame : Frame) → slice_get frames made.frame ≡ Some frame → length frame.bytes ≡ 4096 → IsWithinPage made.access
    → length made.access.bytes ≡ made.access.len
    → AreNamedBytes (stored frames made.frame (offset_of made.access) made.access.bytes) made made.access.bytes
    × ((number offset : ℕ) → IsOutside made number offset → byte_in (stored frames made.frame (offset_of made.access) made.access.bytes) number offset ≡ byte_in frames number offset)
stores_its_own frames made frame at long within named = (
  (
    named,
    (λ k below. sym (ap (λ (l : List ℕ). slice_get l (offset_of made.access + k)) (bytes_stored frames made.frame frame (offset_of made.access) made.access.bytes at)
        ∙ slice_get-written_inside frame.bytes (offset_of made.access) made.access.bytes k fits (subst (λ n. k < n) (sym named) below))),
  ),
  (λ number offset out. by number offset (cases_eq number made.frame) out),
)
  where
    fits : offset_of made.access + length made.access.bytes ≤ length frame.bytes
    fits = subst (λ n. offset_of made.access + n ≤ length frame.bytes) (sym named) (subst (λ n. offset_of made.access + made.access.len ≤ n) (sym long) within.1)

    other : (number offset : ℕ) → number ≢ made.frame → byte_in (stored frames made.frame (offset_of made.access) made.access.bytes) number offset ≡ byte_in frames number offset
    other number offset differ = ap (λ (l : List ℕ). slice_get l offset) (bytes_elsewhere frames made.frame number (offset_of made.access) made.access.bytes differ)

    span : (offset : ℕ) → (offset < offset_of made.access) ⊎ (offset_of made.access + made.access.len ≤ offset)
        → slice_get (with_bytes frame.bytes (offset_of made.access) made.access.bytes) offset ≡ slice_get frame.bytes offset
    span offset (inl below) = slice_get-written_outside frame.bytes (offset_of made.access) made.access.bytes offset fits (inl below)
    span offset (inr above) = slice_get-written_outside frame.bytes (offset_of made.access) made.access.bytes offset fits
        (inr (subst (λ n. offset_of made.access + n ≤ offset) (sym named) above))

    here : (offset : ℕ) → (offset < offset_of made.access) ⊎ (offset_of made.access + made.access.len ≤ offset)
        → byte_in (stored frames made.frame (offset_of made.access) made.access.bytes) made.frame offset ≡ byte_in frames made.frame offset
    here offset out = ap (λ (l : List ℕ). slice_get l offset) (bytes_stored frames made.frame frame (offset_of made.access) made.access.bytes at)
        ∙ span offset out ∙ sym (ap (λ (l : List ℕ). slice_get l offset) (bytes_there frames made.frame frame at))

    by : (number offset : ℕ) → (number ≡ made.frame) ⊎ (number ≢ made.frame) → IsOutside made number offset
        → byte_in (stored frames made.frame (offset_of made.access) made.access.bytes) number offset ≡ byte_in frames number offset
    by number offset (inr differ) out = other number offset differ
    by number offset (inl same) (inl differ) = other number offset differ
    by number offset (inl same) (inr out) =
        subst (λ n. byte_in (stored frames made.frame (offset_of made.access) made.access.bytes) n offset ≡ byte_in frames n offset) (sym same) (here offset out)

touches-makes : (old new : State) (id : ℕ) (outcome : Outcome) → StateInvariant old → (device : Device) → device_of old id ≡ Some device → Makes old device outcome new → TouchesItsOwn old id outcome new
touches-makes old new id (Read bytes) invariants device at makes =
    let found = some_case (slice_get device.in_flight 0) _ makes in
    let made = found.0 in
    let facts = made_facts old invariants id device made at found.1 in
    let there = frame_there old invariants device.id made facts.1 in
    let own : device.id ≡ id = (found_device old.devices id device at).1 in
    let named = named_in there.0 made bytes.items there.2 facts.0.0
    (found.2.0.2 ∙ ap (λ (l : List ℕ). slice_range l (offset_of made.access) (offset_of made.access + made.access.len)) (bytes_there old.frames made.frame there.0 there.1)) in (
      made,
      (device, at, found.1),
      subst (λ i. May old.history i made.frame kinds.Read) own found.2.0.1,
      (named.0, (λ k below. named.1 k below ∙ sym (ap (λ (l : List ℕ). slice_get l (offset_of made.access + k)) (bytes_there old.frames made.frame there.0 there.1)))),
      ap (λ (s : State). s.frames) found.2.1,
    )
touches-makes old new id (Wrote len) invariants device at makes =
    let found = some_case (slice_get device.in_flight 0) _ makes in
    let made = found.0 in
    let facts = made_facts old invariants id device made at found.1 in
    let there = frame_there old invariants device.id made facts.1 in
    let own : device.id ≡ id = (found_device old.devices id device at).1 in
    let stores = stores_its_own old.frames made there.0 there.1 there.2 facts.0.0 (facts.0.1 found.2.0.0) in
    let frames_now : new.frames ≡ stored old.frames made.frame (offset_of made.access) made.access.bytes = ap (λ (s : State). s.frames) found.2.1 in (
      made,
      (device, at, found.1),
      subst (λ i. May old.history i made.frame kinds.Write) own found.2.0.1,
      found.2.0.2,
      subst (λ fs. AreNamedBytes fs made made.access.bytes) (sym frames_now) stores.0,
      (λ frame offset out. ap (λ (fs : List Frame). byte_in fs frame offset) frames_now ∙ stores.1 frame offset out),
    )
touches-makes old new id NothingInFlight invariants device at makes = ap (λ (s : State). s.frames) makes.1
touches-makes old new id _ invariants device at makes = absurd makes

pub touches_its_own : (old new : State) (id : ℕ) (outcome : Outcome) → StateInvariant old → Step old (events.Commit id) outcome new → TouchesItsOwn old id outcome new
touches_its_own old new id outcome invariants (choice, step) = elim (act_cases is_any_kind _ old id outcome new step) [
  | inl (why, reply, same) ↦ subst (λ o. TouchesItsOwn old id o new) (sym reply) (ap (λ (s : State). s.frames) same)
  | inr (device, at, makes) ↦ touches-makes old new id outcome invariants device at makes
]

-- a held page may be accepted on its frame alone, of a device that is attached in one stage
accepted_in_one_stage : (history : History) (id : ℕ) (access : Access) (frame chosen : ℕ)
    → HoldsFor history id access frame → MayAcceptInOneStage history id access chosen → chosen ≡ frame
accepted_in_one_stage history id access frame chosen held (inl other) =
    let pairs : ◌≡◌ {A = Pair} (chosen, other.0) (frame, held.0) = cc in ap (λ (p : Pair). p.0) pairs
accepted_in_one_stage history id access frame chosen held (inr (none, lingers)) = absurd (none frame held)

accepted_where_held : (device : Device) (state : State) (id : ℕ) (access : Access) (frame chosen : ℕ) → IsOneStage device
    → HoldsFor state.history id access frame → MayAccept device.attachment state id access chosen → chosen ≡ frame
accepted_where_held device state id access frame chosen (size, ats, inl first) held may =
    accepted_in_one_stage state.history id access frame chosen held (subst (λ a. MayAccept a state id access chosen) first may)
accepted_where_held device state id access frame chosen (size, ats, inr second) held may =
    accepted_in_one_stage state.history id access frame chosen held (subst (λ a. MayAccept a state id access chosen) second may)

-- a held page faults for no device that is attached in one stage
no_fault_where_held : (device : Device) (state : State) (id : ℕ) (access : Access) (frame : ℕ) (cause : Cause) → IsOneStage device
    → HoldsFor state.history id access frame → MayFault device.attachment state id access cause → ⊥
no_fault_where_held device state id access frame cause (size, ats, inl first) held may = (subst (λ a. MayFault a state id access cause) first may).0 frame held
no_fault_where_held device state id access frame cause (size, ats, inr second) held may = (subst (λ a. MayFault a state id access cause) second may).0 frame held

answered_where_held : (chosen : ℕ) (old new : State) (frame : ℕ) (device : Device) (access : Access) (outcome : Outcome)
    → MayAnswer old device access chosen outcome → new ≡ state_after old device access chosen outcome → IsOneStage device → IsWithinPage access → ¬ IsBusy old.limits.in_flight device.in_flight
    → HoldsFor old.history device.id access frame
    → (outcome ≡ Accepted (device.accepted + 1)) × (new ≡ with_accepted old device access frame)
answered_where_held chosen old new frame device access BadSpan answer next one within room held = absurd (answer within)
answered_where_held chosen old new frame device access Busy answer next one within room held = absurd (room answer.1)
answered_where_held chosen old new frame device access (Fault cause) answer next one within room held =
    absurd (no_fault_where_held device old device.id access frame cause one held answer.1)
answered_where_held chosen old new frame device access (Accepted number) answer next one within room held = (
  ap (λ n. Accepted n) answer.2,
  next ∙ ap (λ f. with_accepted old device access f) (accepted_where_held device old device.id access frame chosen one held answer.1),
)
answered_where_held chosen old new frame device access _ answer next one within room held = absurd answer

asked_where_held : (chosen : ℕ) (old new : State) (id frame : ℕ) (device : Device) (access : Access) (outcome : Outcome)
    → Requests chosen old id access outcome new → IsPlugged old id device → device.kind ≡ Raw → IsOneStage device → IsWithinPage access → ¬ IsBusy old.limits.in_flight device.in_flight
    → HoldsFor old.history id access frame
    → (outcome ≡ Accepted (device.accepted + 1)) × (new ≡ with_accepted old device access frame)
asked_where_held chosen old new id frame device access outcome step there raw one within room held =
    let answer = able_act sends_untranslated (λ (d : Device). MayAnswer old d access chosen outcome × (new ≡ state_after old d access chosen outcome)) old id outcome new device
    there (ap sends_untranslated raw) step in
    let own : device.id ≡ id = (found_device old.devices id device there).1 in
    answered_where_held chosen old new frame device access outcome answer.0 answer.1 one within room (subst (λ i. HoldsFor old.history i access frame) (sym own) held)

pub accepted_on_its_frame : (old new : State) (event : Event) (outcome : Outcome) (id frame : ℕ) (device : Device) (access : Access)
    → Step old event outcome new → AsksFor event id access → IsPlugged old id device → device.kind ≡ Raw → IsOneStage device → IsWithinPage access → ¬ IsBusy old.limits.in_flight device.in_flight
    → HoldsFor old.history id access frame
    → (outcome ≡ Accepted (device.accepted + 1)) × (new ≡ with_accepted old device access frame)
accepted_on_its_frame old new event outcome id frame device access step asks there raw one within room held =
    let its = asks_requests old new event outcome id access asks step in
    asked_where_held its.0 old new id frame device access outcome its.1 there raw one within room held
  where
    asks_requests : (old new : State) (event : Event) (outcome : Outcome) (id : ℕ) (access : Access) → AsksFor event id access → Step old event outcome new
        → (chosen : ℕ) × Requests chosen old id access outcome new
    asks_requests old new event outcome id access (inl (address, len, is, same)) step =
        let its = subst (λ e. Step old e outcome new) is step in (its.0.frame, subst (λ a. Requests its.0.frame old id a outcome new) (sym same) its.1)
    asks_requests old new event outcome id access (inr (address, bytes, is, same)) step =
        let its = subst (λ e. Step old e outcome new) is step in (its.0.frame, subst (λ a. Requests its.0.frame old id a outcome new) (sym same) its.1)

-- by no access may the device reach the frame
abbrev pub CannotReach : History → ℕ → ℕ → Type 0
CannotReach history id frame = (kind : AccessKind) → ¬ May history id frame kind

-- so it is after an entry that doesn't grant it the frame
barred_after : (entry : HistoryEntry) (h : History) (id frame : ℕ) → ¬ NamesFrame entry id frame → CannotReach h id frame → CannotReach (entry ∷ h) id frame
barred_after entry h id frame other barred kind may = elim (reach_before entry h id frame kind may) [
  | inl named ↦ other named
  | inr before ↦ barred kind before
]

barred_confirmed : (first n : ℕ) (h : History) (id frame : ℕ) → CannotReach h id frame → CannotReach (confirmed_from first n h) id frame
barred_confirmed first zero h id frame barred = barred
barred_confirmed first (suc n) h id frame barred =
    barred_after (entries.Confirmed (first + n)) (confirmed_from first n h) id frame (λ x. x) (barred_confirmed first n h id frame barred)

barred-change : (event : Event) (outcome : Outcome) (old new : State) (id frame : ℕ) → LedgerChange event outcome old new → ¬ GrantsFrameTo event outcome id frame
    → CannotReach old.history id frame → CannotReach new.history id frame
barred-change event outcome old new id frame (LedgerChange.ledger_stays unchanged) other barred = subst (λ h. CannotReach h id frame) (sym unchanged.0) barred
barred-change event outcome old new id frame (LedgerChange.detaches unchanged next) other barred = subst (λ h. CannotReach h id frame) (sym unchanged) barred
barred-change event outcome old new id frame (LedgerChange.grants d page named rights granted low empty extended tickets) other barred =
    subst (λ h. CannotReach h id frame) (sym extended)
    (barred_after (entries.Granted d page named rights) old.history id frame
    (λ same. other (subst (λ f. GrantsFrameTo event outcome id f) same.1 (subst (λ i. GrantsFrameTo event outcome i named) same.0 granted))) barred)
barred-change event outcome old new id frame (LedgerChange.releases d page extended next) other barred =
    subst (λ h. CannotReach h id frame) (sym extended) (barred_after (entries.Released d page new.last_ticket) old.history id frame (λ x. x) barred)
barred-change event outcome old new id frame (LedgerChange.releases_all d extended next) other barred =
    subst (λ h. CannotReach h id frame) (sym extended) (barred_after (entries.AllReleased d new.last_ticket) old.history id frame (λ x. x) barred)
barred-change event outcome old new id frame (LedgerChange.confirms_some first n most extended tickets reaches) other barred =
    subst (λ h. CannotReach h id frame) (sym extended) (barred_confirmed first n old.history id frame barred)

-- a device that can't reach a frame can't after a step that doesn't grant it that frame
pub barred-step : (id frame : ℕ) (old new : State) (event : Event) (outcome : Outcome) → Step old event outcome new → ¬ GrantsFrameTo event outcome id frame
    → CannotReach old.history id frame → CannotReach new.history id frame
barred-step id frame old new event outcome step other barred = barred-change event outcome old new id frame (step_change old new event outcome step).ledger other barred

-- a frame that is free stays so, after a step that doesn't grant it
pub free-step : (frame : ℕ) (old new : State) (event : Event) (outcome : Outcome) → Step old event outcome new → ¬ GrantsFrame event outcome frame
    → ledger.NoneMayReach old.history frame → ledger.NoneMayReach new.history frame
free-step frame old new event outcome step other free id = barred-step id frame old new event outcome step (λ granted. other (id, granted)) (free id)

-- a device touches no frame that it can't reach
pub untouched_by : (id frame : ℕ) (old : State) (event : Event) (outcome : Outcome) → StateInvariant old → CannotReach old.history id frame → ¬ TouchesFrameBy old event outcome id frame
untouched_by id frame old event outcome invariants barred (makes, made, (device, at, first), on) =
    let may = subst (λ f. May old.history device.id f made.access.kind) on (made_facts old invariants id device made at first).1 in
    barred made.access.kind (subst (λ i. May old.history i frame made.access.kind) (found_device old.devices id device at).1 may)

-- and none touches one that is free
pub untouched : (frame : ℕ) (old : State) (event : Event) (outcome : Outcome) → StateInvariant old → ledger.NoneMayReach old.history frame → ¬ TouchesFrame old event outcome frame
untouched frame old event outcome invariants free (id, touches) = untouched_by id frame old event outcome invariants (free id) touches

-- the oldest access of a device can be made, where there is one
makes_of : (state : State) → StateInvariant state → (id : ℕ) (device : Device) → device_of state id ≡ Some device → (outcome : Outcome) × (new : State) × Makes state device outcome new
makes_of state invariants id device at = by device.in_flight refl
  where
    of_kind : (made : AcceptedAccess) (kind : AccessKind) → made.access.kind ≡ kind → slice_get device.in_flight 0 ≡ Some made → May state.history device.id made.frame made.access.kind
        → (outcome : Outcome) × (new : State) × Makes state device outcome new
    of_kind made kinds.Read same first may = (
      Read (record { items = slice_range (bytes_of state.frames made.frame) (offset_of made.access) (offset_of made.access + made.access.len) }),
      with_oldest_made state device,
      rw first ((same, subst (May state.history device.id made.frame) same may, refl), refl),
    )
    of_kind made kinds.Write same first may = (
      Wrote made.access.len,
      record (with_oldest_made state device) { frames = stored state.frames made.frame (offset_of made.access) made.access.bytes },
      rw first ((same, subst (May state.history device.id made.frame) same may, refl), refl),
    )

    by : (in_flight : List AcceptedAccess) → device.in_flight ≡ in_flight → (outcome : Outcome) × (new : State) × Makes state device outcome new
    by [] none = (NothingInFlight, state, (none, refl))
    by (made ∷ rest) some =
        let first : slice_get device.in_flight 0 ≡ Some made = ap (λ (l : List AcceptedAccess). slice_get l 0) some in
        of_kind made made.access.kind refl first (made_facts state invariants id device made at first).1

pub commits_are_answered : (state : State) (id : ℕ) → IsReached state → (outcome : Outcome) × (new : State) × Step state (events.Commit id) outcome new
commits_are_answered state id reached = by (device_of state id) refl
  where
    none_chosen : Choice
    none_chosen = record { directory = []; taken = []; returned = []; frame = 0; device = 0; page = 0; access = read_of 0 0 }

    by : (found : Option Device) → device_of state id ≡ found → (outcome : Outcome) × (new : State) × Step state (events.Commit id) outcome new
    by None absent = (Refused NoSuchDevice, state, (none_chosen, rw absent (refl, refl)))
    by (Some device) there =
        let made = makes_of state (sound_if_reached state reached) id device there in (made.0, made.1, (none_chosen, rw there made.2))

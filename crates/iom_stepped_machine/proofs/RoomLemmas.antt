-- A walk counts as one of its device's accesses in flight.
use Rattle.std.proofs.Common.{◌≡◌, ℕ, ◌+◌, ◌<◌, ◌≤◌, ◌==◌, ◌⊎◌, inl, inr, Bool, true, false, List, [], ◌∷◌, ◌++◌, length, Option, None, Some, IsSomeAnd, if◌then◌else◌, refl, sym, ap, ◌∙◌, subst, arith}
use Rattle.std.specs.Option.{option_map}
use Rattle.std.proofs.lemmas.Bool.{cases_lt, eqb-false, eqb-true}
use Rattle.std.proofs.lemmas.List.{length-append}
use Rattle.iom_machine.specs.declared.outcome.BlockStep.TheVariants.{Waiting}
use Rattle.iom_base.specs.declared.access.Access.{Access}
use Rattle.iom_base.specs.declared.access.AcceptedAccess.{AcceptedAccess}
use Rattle.iom_base.specs.Accesses.{read_of, write_of}
use Rattle.iom_base.specs.declared.device_kind.DeviceKind.{DeviceKind}
use Rattle.iom_base.specs.DeviceKinds.{sends_through_cache, forges, sends_untranslated}
use Rattle.iom_machine.specs.declared.event.Event.{Event}
use Rattle.iom_machine.specs.declared.event.Event.TheVariants as events
use Rattle.iom_machine.specs.declared.outcome.Fetched.TheVariants.{Did}
use Rattle.iom_machine.specs.declared.outcome.Outcome.{Outcome}
use Rattle.iom_machine.specs.declared.outcome.Outcome.TheVariants.{Accepted, BadSpan, Busy, Done, Fault, Fetched, Refused, Ticket, Stepped}
use Rattle.iom_machine.specs.declared.state.Device.{Device}
use Rattle.iom_machine.specs.declared.state.State.{State}
use Rattle.iom_machine.specs.Devices.{device_of}
use Rattle.iom_machine.specs.Laws.{Asked, AreSent}
use Rattle.iom_machine.specs.Machine.{RequestsThroughCache, Step}
use Rattle.iom_machine.proofs.AskedLemmas.{accepted_by, asked_by, asked_of}
use Rattle.iom_machine.proofs.DeviceLemmas.{flows-run, in_flight_of}
use Rattle.iom_machine.proofs.InFlightLemmas.{act_cases, some_case}
use Rattle.iom_machine.proofs.LimitLemmas.{limits-step}
use Rattle.iom_stepped_machine.specs.Laws.{WalksHaveRoom}
use Rattle.iom_stepped_machine.specs.Machine.{Answer, AnswersBesides, AnswersLoad, AnswersWhole, BeginsAt, BeginsWalk, EndsWalk, IsFullBesides, Load, Loaded, NoWalk, Occupied, PassesBesides, SteppedEvent, SteppedOutcome, SteppedRun, SteppedState, SteppedStep, Walking, Whole, asker_of, gives_up_at_detach, walk_at, walks_after, RefusesBesides, WaitsBesides}
use Rattle.iom_stepped_machine.specs.Walks.{Asking, Reads, Writes, Begins, Walk, Walks, begins_anew, begun_anew, event_of, with_walk}

-- how many accesses of the device with the id are in flight
abbrev in_flight_at : State → ℕ → ℕ
in_flight_at state id = length (in_flight_of (device_of state id))

-- THE FACT
abbrev pub HasRoom : SteppedState → Type 0
HasRoom state = (id : ℕ) (walk : Walk) → state.walks id ≡ Some walk → in_flight_at state.ledger id < state.ledger.limits.in_flight

-- WHAT A STEP OF THE LEDGER MACHINE ADDS: no more than it accepts
abbrev chosen : List AcceptedAccess → List Asked
chosen [] = []
chosen (flight ∷ later) = Asked.Chosen ∷ chosen later

chosen_sent : (flights : List AcceptedAccess) → AreSent (chosen flights) flights
chosen_sent [] = tt
chosen_sent (flight ∷ later) = (tt, chosen_sent later)

as_many : (waiting : List Asked) (flights : List AcceptedAccess) → AreSent waiting flights → length waiting ≡ length flights
as_many [] [] sent = refl
as_many (asked ∷ others) (flight ∷ flights) sent = let rest = as_many others flights sent.1 in omega (arith, rest)
as_many [] (flight ∷ flights) sent = absurd sent
as_many (asked ∷ others) [] sent = absurd sent

adds : (old new : State) (event : Event) (outcome : Outcome) → Step old event outcome new → (id : ℕ) → in_flight_at new id ≤ in_flight_at old id + length (accepted_by event outcome id)
adds old new event outcome step id =
    let flights = in_flight_of (device_of old id) in
    let from = flows-run old new (event ∷ []) (outcome ∷ []) (new, step, refl) id (chosen flights) (chosen_sent flights) in
    let before : length (chosen flights) ≡ length flights = as_many (chosen flights) flights (chosen_sent flights) in
    let after : length from.later ≡ in_flight_at new id = as_many from.later (in_flight_of (device_of new id)) from.sent in
    let both = ap (λ (l : List Asked). length l) from.in_order in
    let left : length (chosen flights ++ (accepted_by event outcome id ++ [])) ≡ length (chosen flights) + length (accepted_by event outcome id ++ []) =
    length-append (chosen flights) (accepted_by event outcome id ++ []) in
    let own : length (accepted_by event outcome id ++ []) ≡ length (accepted_by event outcome id) + 0 = length-append (accepted_by event outcome id) [] in
    let right : length (from.made ++ from.later) ≡ length from.made + length from.later = length-append from.made from.later in
    omega (arith, before, after, both, left, own, right)

-- nothing is accepted of a device that doesn't ask
quiet_of : (id d : ℕ) (asked : Asked) (b : Bool) → (d == id) ≡ b → ((Some d ≡ Some id) → ⊥) → ◌≡◌ {A = List Asked} (if b then asked ∷ [] else []) []
quiet_of id d asked false e other = refl
quiet_of id d asked true e other = absurd (other (ap (λ n. Some n) (eqb-true d id e)))

quiet_event : (event : Event) (id : ℕ) → ((asker_of event ≡ Some id) → ⊥) → asked_of id (asked_by event) ≡ []
quiet_event (events.Read d address len) id other = quiet_of id d _ (d == id) refl other
quiet_event (events.Write d address bytes) id other = quiet_of id d _ (d == id) refl other
quiet_event (events.ReadThroughCache d address len) id other = quiet_of id d _ (d == id) refl other
quiet_event (events.WriteThroughCache d address bytes) id other = quiet_of id d _ (d == id) refl other
quiet_event (events.Step d) id other = quiet_of id d _ (d == id) refl other
quiet_event _ id other = refl

quiet : (event : Event) (outcome : Outcome) (id : ℕ) → ((asker_of event ≡ Some id) → ⊥) → accepted_by event outcome id ≡ []
quiet event (Accepted number) id other = quiet_event event id other
quiet event _ id other = refl

-- nor at an event that asks for none
nothing_asked : (event : Event) (outcome : Outcome) (id : ℕ) → asked_by event ≡ None → accepted_by event outcome id ≡ []
nothing_asked event (Accepted number) id none = ap (asked_of id) none
nothing_asked event _ id none = refl

-- and at most one access is accepted
at_most_one : (found : Option (ℕ × Asked)) (id : ℕ) → length (asked_of id found) ≤ 1
at_most_one None id = omega arith
at_most_one (Some asked) id = by (asked.0 == id)
  where
    by : (b : Bool) → length (if b then asked.1 ∷ [] else []) ≤ 1
    by true = omega arith
    by false = omega arith

accepts_one : (event : Event) (outcome : Outcome) (id : ℕ) → length (accepted_by event outcome id) ≤ 1
accepts_one event (Accepted number) id = at_most_one (asked_by event) id
accepts_one event _ id = omega arith

-- BESIDE A WALK
abbrev RoomAt : State → ℕ → Type 0
RoomAt state id = in_flight_at state id < state.limits.in_flight

room_same : (old new : State) (id : ℕ) → new ≡ old → RoomAt old id → RoomAt new id
room_same old new id same room = subst (λ (s : State). RoomAt s id) (sym same) room

-- a step in which the device is accepted nothing
room_quiet : (old new : State) (event : Event) (outcome : Outcome) (id : ℕ) → Step old event outcome new → accepted_by event outcome id ≡ [] → RoomAt old id → RoomAt new id
room_quiet old new event outcome id step none room =
    let grown = adds old new event outcome step id in
    let nothing : length (accepted_by event outcome id) ≡ 0 = ap (λ (l : List Asked). length l) none in
    let limit : new.limits.in_flight ≡ old.limits.in_flight = ap (λ limits. limits.in_flight) (limits-step old new event outcome step) in
    let before : in_flight_at old id < old.limits.in_flight = room in
    omega (arith, grown, nothing, limit, before)

-- a step of a plugged device that isn't full, with its walk counted
room_beside : (old new : State) (event : Event) (outcome : Outcome) (id : ℕ) (device : Device) → device_of old id ≡ Some device → ¬ IsFullBesides old id
    → Step old event outcome new → RoomAt new id
room_beside old new event outcome id device at free step =
    let grown = adds old new event outcome step id in
    let one = accepts_one event outcome id in
    let limit : new.limits.in_flight ≡ old.limits.in_flight = ap (λ limits. limits.in_flight) (limits-step old new event outcome step) in
    let own : in_flight_at old id ≡ length device.in_flight = ap (λ (found : Option Device). length (in_flight_of found)) at in
    elim (cases_lt (length device.in_flight + 1) old.limits.in_flight) [
      | inl below ↦ omega (arith, grown, one, limit, own, below)
      | inr full ↦ absurd (free (subst (λ (found : Option Device). IsSomeAnd found (λ d. old.limits.in_flight ≤ length d.in_flight + 1)) (sym at) full))
    ]

-- an access through a cache: refused, or of a plugged device
through : (old new : State) (event : Event) (outcome : Outcome) (id : ℕ) (access : Access) → (Step old event outcome new → (chosen : ℕ) × RequestsThroughCache chosen old id access outcome new)
    → (¬ IsFullBesides old id) × Step old event outcome new → RoomAt old id → RoomAt new id
through old new event outcome id access as_request (free, step) room = elim (act_cases sends_through_cache _ old id outcome new (as_request step).1) [
  | inl (why, reply, same) ↦ room_same old new id same room
  | inr (device, at, answer) ↦ room_beside old new event outcome id device at free step
]

passed : (can : DeviceKind → Bool) (old new : State) (event : Event) (outcome : Outcome) (id : ℕ) (access : Access)
    → ((reply : Outcome) → (¬ IsFullBesides old id) × Step old event reply new → RoomAt old id → RoomAt new id)
    → PassesBesides can old id access event outcome new → RoomAt old id → RoomAt new id
passed can old new event (Refused why) id access others step room = room_quiet old new event (Refused why) id step refl room
passed can old new event BadSpan id access others step room = room_quiet old new event BadSpan id step refl room
passed can old new event Busy id access others step room = room_same old new id step.3 room
passed can old new event _ id access others step room = others _ step room

refused : (can : DeviceKind → Bool) (old new : State) (event : Event) (outcome : Outcome) (id d : ℕ) (access : Access) → RefusesBesides can old d access event outcome new → RoomAt old id → RoomAt new id
refused can old new event (Refused why) id d access step room = room_quiet old new event (Refused why) id step refl room
refused can old new event BadSpan id d access step room = room_quiet old new event BadSpan id step refl room
refused can old new event Busy id d access step room = room_same old new id step.3 room
refused can old new event _ id d access step room = absurd step

waited : (old new : State) (outcome : Outcome) (id d : ℕ) → WaitsBesides old d outcome new → RoomAt old id → RoomAt new id
waited old new (Refused why) id d step room = room_quiet old new (events.Step d) (Refused why) id step refl room
waited old new (Stepped Waiting) id d step room = room_quiet old new (events.Step d) (Stepped Waiting) id step refl room
waited old new _ id d step room = absurd step

-- of the device that asks
besides_room : (old new : State) (event : Event) (outcome : Outcome) (id : ℕ) → asker_of event ≡ Some id → AnswersBesides old event outcome new → RoomAt old id → RoomAt new id
besides_room old new (events.Read d address len) outcome id who answers room =
    refused sends_untranslated old new (events.Read d address len) outcome id d (read_of address len) answers room
besides_room old new (events.Write d address bytes) outcome id who answers room =
    refused sends_untranslated old new (events.Write d address bytes) outcome id d (write_of address bytes) answers room
besides_room old new (events.Step d) outcome id who answers room = waited old new outcome id d answers room
besides_room old new (events.ReadTranslated d address len) outcome id who answers room =
    let own : d ≡ id = cc in
    subst (λ n. RoomAt new n) own
    (passed forges old new (events.ReadTranslated d address len) outcome d (read_of address len)
    (λ reply step. room_quiet old new (events.ReadTranslated d address len) reply d step.1 (nothing_asked (events.ReadTranslated d address len) reply d refl)) answers
    (subst (λ n. RoomAt old n) (sym own) room))
besides_room old new (events.WriteTranslated d address bytes) outcome id who answers room =
    let own : d ≡ id = cc in
    subst (λ n. RoomAt new n) own
    (passed forges old new (events.WriteTranslated d address bytes) outcome d (write_of address bytes)
    (λ reply step. room_quiet old new (events.WriteTranslated d address bytes) reply d step.1 (nothing_asked (events.WriteTranslated d address bytes) reply d refl)) answers
    (subst (λ n. RoomAt old n) (sym own) room))
besides_room old new (events.ReadThroughCache d address len) outcome id who answers room =
    let own : d ≡ id = cc in
    subst (λ n. RoomAt new n) own
    (passed sends_through_cache old new (events.ReadThroughCache d address len) outcome d (read_of address len)
    (λ reply step. through old new (events.ReadThroughCache d address len) reply d (read_of address len) (λ its. (its.0.frame, its.1)) step) answers
    (subst (λ n. RoomAt old n) (sym own) room))
besides_room old new (events.WriteThroughCache d address bytes) outcome id who answers room =
    let own : d ≡ id = cc in
    subst (λ n. RoomAt new n) own
    (passed sends_through_cache old new (events.WriteThroughCache d address bytes) outcome d (write_of address bytes)
    (λ reply step. through old new (events.WriteThroughCache d address bytes) reply d (write_of address bytes) (λ its. (its.0.frame, its.1)) step) answers
    (subst (λ n. RoomAt old n) (sym own) room))
besides_room old new _ outcome id who answers room = cc

-- of another device nothing is accepted
passes_so : (can : DeviceKind → Bool) (old new : State) (id : ℕ) (access : Access) (event : Event) (outcome : Outcome) → PassesBesides can old id access event outcome new
    → (new ≡ old) ⊎ Step old event outcome new
passes_so can old new id access event (Refused why) step = inr step
passes_so can old new id access event BadSpan step = inr step
passes_so can old new id access event Busy step = inl step.3
passes_so can old new id access event _ step = inr step.1

refuses_so : (can : DeviceKind → Bool) (old new : State) (id : ℕ) (access : Access) (event : Event) (outcome : Outcome) → RefusesBesides can old id access event outcome new
    → (new ≡ old) ⊎ Step old event outcome new
refuses_so can old new id access event (Refused why) step = inr step
refuses_so can old new id access event BadSpan step = inr step
refuses_so can old new id access event Busy step = inl step.3
refuses_so can old new id access event _ step = absurd step

waits_so : (old new : State) (id : ℕ) (outcome : Outcome) → WaitsBesides old id outcome new → (new ≡ old) ⊎ Step old (events.Step id) outcome new
waits_so old new id (Refused why) step = inr step
waits_so old new id (Stepped Waiting) step = inr step
waits_so old new id _ step = absurd step

pub besides_so : (old new : State) (event : Event) (outcome : Outcome) → AnswersBesides old event outcome new → (new ≡ old) ⊎ Step old event outcome new
besides_so old new (events.Read d address len) outcome answers = refuses_so sends_untranslated old new d (read_of address len) (events.Read d address len) outcome answers
besides_so old new (events.Write d address bytes) outcome answers = refuses_so sends_untranslated old new d (write_of address bytes) (events.Write d address bytes) outcome answers
besides_so old new (events.Step d) outcome answers = waits_so old new d outcome answers
besides_so old new (events.ReadTranslated d address len) outcome answers = passes_so forges old new d (read_of address len) (events.ReadTranslated d address len) outcome answers
besides_so old new (events.WriteTranslated d address bytes) outcome answers = passes_so forges old new d (write_of address bytes) (events.WriteTranslated d address bytes) outcome answers
besides_so old new (events.ReadThroughCache d address len) outcome answers =
    passes_so sends_through_cache old new d (read_of address len) (events.ReadThroughCache d address len) outcome answers
besides_so old new (events.WriteThroughCache d address bytes) outcome answers =
    passes_so sends_through_cache old new d (write_of address bytes) (events.WriteThroughCache d address bytes) outcome answers
besides_so old new _ outcome answers = inr answers

other_room : (found : Option Walk) (old new : State) (event : Event) (outcome : Outcome) (id : ℕ) → ((asker_of event ≡ Some id) → ⊥) → AnswersWhole found old event outcome new
    → RoomAt old id → RoomAt new id
other_room None old new event outcome id other step room = room_quiet old new event outcome id step (quiet event outcome id other) room
other_room (Some walk) old new event outcome id other answers room = elim (besides_so old new event outcome answers) [
  | inl same ↦ room_same old new id same room
  | inr step ↦ room_quiet old new event outcome id step (quiet event outcome id other) room
]

not_that : (who : Option ℕ) (id : ℕ) → who ≡ None → (who ≡ Some id) → ⊥
not_that None id none some = cc
not_that (Some d) id none some = cc

differs : (who : Option ℕ) (d id : ℕ) → who ≡ Some d → (d == id) ≡ false → (who ≡ Some id) → ⊥
differs who d id is e some = let same : Some d ≡ Some id = sym is ∙ some in let own : d ≡ id = cc in eqb-false d id e own

whole_room : (old new : SteppedState) (event : Event) (outcome : Outcome) → AnswersWhole (walk_at old.walks (asker_of event)) old.ledger event outcome new.ledger
    → (id : ℕ) (walk : Walk) → old.walks id ≡ Some walk → RoomAt old.ledger id → RoomAt new.ledger id
whole_room old new event outcome answers id walk at room = by (asker_of event) refl
  where
    by_device : (d : ℕ) → asker_of event ≡ Some d → (b : Bool) → (d == id) ≡ b → RoomAt new.ledger id
    by_device d is true e =
        let who : asker_of event ≡ Some id = is ∙ ap (λ n. Some n) (eqb-true d id e) in
        besides_room old.ledger new.ledger event outcome id who
        (subst (λ found. AnswersWhole found old.ledger event outcome new.ledger) (ap (walk_at old.walks) who ∙ at) answers) room
    by_device d is false e = other_room (walk_at old.walks (asker_of event)) old.ledger new.ledger event outcome id (differs (asker_of event) d id is e) answers room

    by : (who : Option ℕ) → asker_of event ≡ who → RoomAt new.ledger id
    by None is = other_room (walk_at old.walks (asker_of event)) old.ledger new.ledger event outcome id (not_that (asker_of event) id is) answers room
    by (Some d) is = by_device d is (d == id) refl

-- WALKS THAT WERE THERE BEFORE
abbrev HadWalk : Walks → ℕ → Type 0
HadWalk walks id = (before : Walk) × (walks id ≡ Some before)

had_with_none : (walks : Walks) (d id : ℕ) (walk : Walk) → with_walk walks d None id ≡ Some walk → HadWalk walks id
had_with_none walks d id walk at = by (id == d) at
  where
    by : (b : Bool) → (if b then None else walks id) ≡ Some walk → HadWalk walks id
    by true none = cc
    by false there = (walk, there)

had_anew : (walks : Walks) (id : ℕ) (walk : Walk) → begun_anew walks id ≡ Some walk → HadWalk walks id
had_anew walks id walk at = by (walks id) refl at
  where
    by : (found : Option Walk) → walks id ≡ found → option_map (λ (w : Walk). record w { loads = 0 }) found ≡ Some walk → HadWalk walks id
    by None is none = cc
    by (Some w) is some = (w, is)

had_if_anew : (b : Bool) (walks : Walks) (id : ℕ) (walk : Walk) → (if b then begun_anew walks else walks) id ≡ Some walk → HadWalk walks id
had_if_anew true walks id walk at = had_anew walks id walk at
had_if_anew false walks id walk at = (walk, at)

had_if_none : (b : Bool) (walks : Walks) (d id : ℕ) (walk : Walk) → (if b then with_walk walks d None else walks) id ≡ Some walk → HadWalk walks id
had_if_none true walks d id walk at = had_with_none walks d id walk at
had_if_none false walks d id walk at = (walk, at)

had : (old : State) (event : Event) (outcome : Outcome) (walks : Walks) (id : ℕ) (walk : Walk) → walks_after old event outcome walks id ≡ Some walk → HadWalk walks id
had old events.Fetch (Fetched (Did name)) walks id walk at = had_if_anew (begins_anew name) walks id walk at
had old events.Fetch (Fetched _) walks id walk at = (walk, at)
had old events.Fetch _ walks id walk at = (walk, at)
had old (events.Reset d) Done walks id walk at = had_with_none walks d id walk at
had old (events.Reset d) _ walks id walk at = (walk, at)
had old (events.Revive d) Done walks id walk at = had_with_none walks d id walk at
had old (events.Revive d) _ walks id walk at = (walk, at)
had old (events.Queue d size descriptors available used) Done walks id walk at = had_with_none walks d id walk at
had old (events.Queue d size descriptors available used) _ walks id walk at = (walk, at)
had old (events.Detach d) (Ticket ticket) walks id walk at = had_if_none (gives_up_at_detach (device_of old d)) walks d id walk at
had old (events.Detach d) _ walks id walk at = (walk, at)
had old _ outcome walks id walk at = (walk, at)

-- where the walk of one device is another now
with_room : (walks : Walks) (ledger : State) (d : ℕ) (now : Option Walk) → ((id : ℕ) (walk : Walk) → walks id ≡ Some walk → RoomAt ledger id) → RoomAt ledger d
    → (id : ℕ) (walk : Walk) → with_walk walks d now id ≡ Some walk → RoomAt ledger id
with_room walks ledger d now room own id walk at = by (id == d) refl at
  where
    by : (b : Bool) → (id == d) ≡ b → (if b then now else walks id) ≡ Some walk → RoomAt ledger id
    by true e here = subst (λ n. RoomAt ledger n) (sym (eqb-true id d e)) own
    by false e there = room id walk there

same_ledger : (old new : SteppedState) → new ≡ old → HasRoom old → HasRoom new
same_ledger old new same room = subst HasRoom (sym same) room

-- A WALK BEGINS, where there is room
begun_room : (can : DeviceKind → Bool) (old new : SteppedState) (id : ℕ) (asking : Asking) → BeginsWalk can old id asking new → HasRoom old → HasRoom new
begun_room can old new id asking walk room =
    let own : RoomAt old.ledger id = subst (λ (found : Option Device). length (in_flight_of found) < old.ledger.limits.in_flight) (sym walk.plugged) walk.room in
    subst HasRoom (sym walk.begun) (with_room old.walks old.ledger id (Some (record { asking = asking; loads = 0 })) room own)

begins_room : (old new : SteppedState) (event : Event) → BeginsAt old event new → HasRoom old → HasRoom new
begins_room old new (events.Read id address len) walk room = begun_room _ old new id _ walk room
begins_room old new (events.Write id address bytes) walk room = begun_room _ old new id _ walk room
begins_room old new (events.Step id) (access, wanted, walk) room = begun_room _ old new id _ walk room
begins_room old new _ walk room = absurd walk

-- A WALK ENDS: its device has none any more, and of no other is anything accepted
asks : (id : ℕ) (asking : Asking) → asker_of (event_of id asking) ≡ Some id
asks id (Reads address len) = refl
asks id (Writes address bytes) = refl
asks id (Begins access) = refl

ends_room : (old new : SteppedState) (id : ℕ) (walk : Walk) (outcome : Outcome) → EndsWalk old id walk outcome new → HasRoom old → HasRoom new
ends_room old new id walk outcome ends room other its at = by (other == id) refl (subst (λ (w : Walks). w other ≡ Some its) ends.1 at)
  where
    by : (b : Bool) → (other == id) ≡ b → (if b then None else old.walks other) ≡ Some its → RoomAt new.ledger other
    by true e none = cc
    by false e there =
        room_quiet old.ledger new.ledger (event_of id walk.asking) outcome other (ends.0.0, ends.0.2)
        (quiet (event_of id walk.asking) outcome other (λ some. let same : Some id ≡ Some other = sym (asks id walk.asking) ∙ some in let own : id ≡ other = cc in eqb-false other id e (sym own)))
        (room other its there)

loads_room : (old new : SteppedState) (id : ℕ) (outcome : Outcome) → AnswersLoad old id outcome new → HasRoom old → HasRoom new
loads_room old new id (Accepted number) answers room = let found = some_case (old.walks id) _ answers in ends_room old new id found.0 (Accepted number) found.2 room
loads_room old new id (Fault cause) answers room = let found = some_case (old.walks id) _ answers in ends_room old new id found.0 (Fault cause) found.2 room
loads_room old new id (Refused why) answers room = same_ledger old new answers.2 room
loads_room old new id _ answers room = absurd answers

-- EACH STEP
room_step : (old new : SteppedState) (event : SteppedEvent) (outcome : SteppedOutcome) → SteppedStep old event outcome new → HasRoom old → HasRoom new
room_step old new (Whole event) (Answer outcome) step room = λ id walk at.
    let before = had old.ledger event outcome old.walks id walk (subst (λ (w : Walks). w id ≡ Some walk) step.1 at) in
    whole_room old new event outcome step.0 id before.0 before.1 (room id before.0 before.1)
room_step old new (Whole event) Walking step room = begins_room old new event step room
room_step old new (Whole event) Occupied step room = same_ledger old new step.1 room
room_step old new (Load id) (Answer outcome) step room = loads_room old new id outcome step room
room_step old new (Load id) Loaded step room =
    let found = some_case (old.walks id) _ step in
    subst HasRoom (sym found.2.1) (with_room old.walks old.ledger id (Some (record found.0 { loads = found.0.loads + 1 })) room (room id found.0 found.1))
room_step old new (Load id) NoWalk step room = same_ledger old new step.2 room
room_step old new (Whole event) Loaded step room = absurd step
room_step old new (Whole event) NoWalk step room = absurd step
room_step old new (Load id) Walking step room = absurd step
room_step old new (Load id) Occupied step room = absurd step

room_run : (old new : SteppedState) (events : List SteppedEvent) (outcomes : List SteppedOutcome) → SteppedRun old events outcomes new → HasRoom old → HasRoom new
room_run old new [] [] run room = same_ledger old new run room
room_run old new [] (outcome ∷ outcomes) run room = absurd run
room_run old new (event ∷ events) [] run room = absurd run
room_run old new (event ∷ events) (outcome ∷ outcomes) (mid, step, rest) room = room_run mid new events outcomes rest (room_step old mid event outcome step room)

pub have_room : WalksHaveRoom
have_room state id walk device (events, outcomes, limits, frames, levels, disks, run) at there =
    let room = room_run _ state events outcomes run (λ other its none. cc) id walk at in
    subst (λ (found : Option Device). length (in_flight_of found) < state.ledger.limits.in_flight) there room

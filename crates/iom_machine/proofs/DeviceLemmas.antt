-- What flows through the devices: which accesses enter, in order, and which are made.
use Rattle.std.proofs.Common.{◌≡◌, ℕ, zero, suc, ◌+◌, ◌==◌, Bool, true, false, cond, List, [], ◌∷◌, ◌++◌, length, length-append, append_assoc, map, drop, find, Option, None, Some, if◌then◌else◌, get_or, slice_get, refl, sym, ap, ◌∙◌, subst, arith}
use Rattle.std.specs.Option.{option_map, option_map_or, option_or}
use Rattle.std.proofs.lemmas.Bool.{eq-eqb, eqb-true, eqb-false}
use Rattle.std.proofs.lemmas.List.{append-nil}
use Rattle.std.proofs.lemmas.List.Folds.{find-append}
use Rattle.std.proofs.lemmas.Option.{slice_get-get_or}
use Rattle.iom_machine.specs.declared.event.Event.{Event}
use Rattle.iom_machine.specs.declared.outcome.Outcome.{Outcome}
use Rattle.iom_base.specs.declared.access.AcceptedAccess.{AcceptedAccess}
use Rattle.iom_machine.specs.declared.state.Device.{Device}
use Rattle.iom_base.specs.declared.device_kind.NewDevice.{NewDevice}
use Rattle.iom_machine.specs.declared.state.State.{State}
use Rattle.iom_machine.specs.Devices.{device_of, replaced_device}
use Rattle.iom_machine.specs.Machine.{Run, plugged_device}
use Rattle.iom_machine.specs.Laws.{Asked, IsSentOf, AreSent, AreAccepted, AreMade, AccessesInFlightWereAccepted}
use Rattle.iom_machine.specs.PowerOn.{opening}
use Rattle.iom_ledger.specs.History.{History}
use Rattle.iom_machine.specs.Leaving.{device_once_confirmed}
use Rattle.iom_machine.proofs.AskedLemmas.{accepted_by, accepted_in, made_by, made_in, are_accepted, are_made}
use Rattle.iom_machine.proofs.InFlightLemmas.{found_device}
use Rattle.iom_machine.proofs.LeavingLemmas.{found_once_confirmed}
use Rattle.iom_machine.proofs.ReasonLemmas.{plug_finds_nothing}
use Rattle.iom_machine.proofs.StepChanges.{DeviceChange, DevicesChange, NothingFlows, step_change}

-- the accesses of a device in flight; none where there is no device
abbrev pub in_flight_of : Option Device → List AcceptedAccess
in_flight_of found = option_map_or (λ (device : Device). device.in_flight) found []

-- how many of its accesses were ever accepted
abbrev pub count_of : Option Device → ℕ
count_of found = option_map_or (λ (device : Device). device.accepted) found 0

-- What was asked for, of what was in flight, and then what is accepted, is what is made, and then what was asked for of what is in flight; and the accepted
-- ones are counted.
pub record FlowsFrom (waiting accepted : List Asked) (count : ℕ) (old new : Option Device) : Type 0 where
  pub made : List Asked
  pub later : List Asked
  pub as_many : length made ≡ count
  pub in_order : waiting ++ accepted ≡ made ++ later
  pub sent : AreSent later (in_flight_of new)
  pub counted : count_of new ≡ count_of old + length accepted

abbrev pub Flows : List Asked → ℕ → Option Device → Option Device → Type 0
Flows accepted count old new = (waiting : List Asked) → AreSent waiting (in_flight_of old) → FlowsFrom waiting accepted count old new

-- nothing changes where nothing flows
nothing : (found : Option Device) → Flows [] 0 found found
nothing found = λ waiting sent. record { made = []; later = waiting; as_many = refl; in_order = append-nil waiting; sent = sent; counted = omega arith }

-- nor where a device has as many in flight, and as many were accepted
same_flights : (old new : Option Device) → in_flight_of new ≡ in_flight_of old → count_of new ≡ count_of old → Flows [] 0 old new
same_flights old new flights count = λ waiting sent. record {
  made = [];
  later = waiting;
  as_many = refl;
  in_order = append-nil waiting;
  sent = subst (AreSent waiting) (sym flights) sent;
  counted = omega (arith, count);
}

quiet : (event : Event) (outcome : Outcome) (id : ℕ) (old new : Option Device) → NothingFlows event outcome id → Flows [] 0 old new
    → Flows (accepted_by event outcome id) (made_by event outcome id) old new
quiet event outcome id old new none flows = rw (none.0, none.1) flows

-- the device with an id, where one is replaced
pub found_replaced : (devices : List Device) (id : ℕ) (device now : Device) → find (λ d. d.id == id) devices ≡ Some device → now.id ≡ id
    → find (λ d. d.id == id) (replaced_device devices id now) ≡ Some now
found_replaced [] id device now at own = cc
found_replaced (d ∷ devices) id device now at own = by (d.id == id) refl at (found_replaced devices id device now)
  where
    by : (b : Bool) → (d.id == id) ≡ b → cond b (Some d) (find (λ x. x.id == id) devices) ≡ Some device
        → (find (λ x. x.id == id) devices ≡ Some device → now.id ≡ id → find (λ x. x.id == id) (replaced_device devices id now) ≡ Some now)
        → find (λ x. x.id == id) (if b then now ∷ devices else d ∷ replaced_device devices id now) ≡ Some now
    by true e h rest = rw (eq-eqb now.id id own) refl
    by false e h rest = rw e (rest h own)

pub found_besides : (devices : List Device) (id : ℕ) (now : Device) (other : ℕ) → now.id ≡ id → (id == other) ≡ false
    → find (λ d. d.id == other) (replaced_device devices id now) ≡ find (λ d. d.id == other) devices
found_besides [] id now other own differ = refl
found_besides (d ∷ devices) id now other own differ = by (d.id == id) refl (found_besides devices id now other own differ)
  where
    by : (b : Bool) → (d.id == id) ≡ b → find (λ x. x.id == other) (replaced_device devices id now) ≡ find (λ x. x.id == other) devices
        → find (λ x. x.id == other) (if b then now ∷ devices else d ∷ replaced_device devices id now) ≡ find (λ x. x.id == other) (d ∷ devices)
    by true e rest =
        let first : (d.id == other) ≡ false = subst (λ n. (n == other) ≡ false) (sym (eqb-true d.id id e)) differ in
        let now_first : (now.id == other) ≡ false = subst (λ n. (n == other) ≡ false) (sym own) differ in rw (first, now_first) refl
    by false e rest = ap (λ found. cond (d.id == other) (Some d) found) rest

-- what flows of each device in a step
flows-enters : (devices : List Device) (id : ℕ) (what : NewDevice) (other : ℕ) → Flows [] 0 (find (λ d. d.id == other) devices) (find (λ d. d.id == other) (devices ++ plugged_device id what ∷ []))
flows-enters devices id what other =
    subst (λ found. Flows [] 0 (find (λ d. d.id == other) devices) found) (sym (find-append (λ (d : Device). d.id == other) devices (plugged_device id what ∷ [])))
    (by (find (λ d. d.id == other) devices) (id == other))
  where
    by : (found : Option Device) (b : Bool) → Flows [] 0 found (option_or found (cond b (Some (plugged_device id what)) None))
    by (Some device) b = nothing (Some device)
    by None true = same_flights None (Some (plugged_device id what)) refl refl
    by None false = nothing None

flows-changes : (event : Event) (outcome : Outcome) (devices : List Device) (id : ℕ) (device now : Device) → find (λ d. d.id == id) devices ≡ Some device → now.id ≡ device.id
    → Flows (accepted_by event outcome id) (made_by event outcome id) (Some device) (Some now) → ((other : ℕ) → (id == other) ≡ false → NothingFlows event outcome other)
    → (other : ℕ) → Flows (accepted_by event outcome other) (made_by event outcome other) (find (λ d. d.id == other) devices) (find (λ d. d.id == other) (replaced_device devices device.id now))
flows-changes event outcome devices id device now at own flows quiet_others other = by (id == other) refl
  where
    its : device.id ≡ id
    its = (found_device devices id device at).1

    here : find (λ d. d.id == id) (replaced_device devices device.id now) ≡ Some now
    here = ap (λ n. find (λ d. d.id == id) (replaced_device devices n now)) its ∙ found_replaced devices id device now at (own ∙ its)

    there : (id == other) ≡ false → find (λ d. d.id == other) (replaced_device devices device.id now) ≡ find (λ d. d.id == other) devices
    there e = ap (λ n. find (λ d. d.id == other) (replaced_device devices n now)) its ∙ found_besides devices id now other (own ∙ its) e

    by : (b : Bool) → (id == other) ≡ b
        → Flows (accepted_by event outcome other) (made_by event outcome other) (find (λ d. d.id == other) devices) (find (λ d. d.id == other) (replaced_device devices device.id now))
    by true e = subst (λ n. Flows (accepted_by event outcome n) (made_by event outcome n) (find (λ d. d.id == n) devices) (find (λ d. d.id == n) (replaced_device devices device.id now)))
        (eqb-true id other e)
        (subst (λ found. Flows (accepted_by event outcome id) (made_by event outcome id) found (find (λ d. d.id == id) (replaced_device devices device.id now))) (sym at)
        (subst (λ found. Flows (accepted_by event outcome id) (made_by event outcome id) (Some device) found) (sym here) flows))
    by false e = quiet event outcome other (find (λ d. d.id == other) devices) (find (λ d. d.id == other) (replaced_device devices device.id now)) (quiet_others other e)
        (subst (λ found. Flows [] 0 (find (λ d. d.id == other) devices) found) (sym (there e)) (nothing (find (λ d. d.id == other) devices)))

flows-leave : (history : History) (devices : List Device) (id : ℕ) → Flows [] 0 (find (λ d. d.id == id) devices) (find (λ d. d.id == id) (map (device_once_confirmed history) devices))
flows-leave history devices id =
    subst (λ found. Flows [] 0 (find (λ d. d.id == id) devices) found) (sym (found_once_confirmed history devices id)) (by (find (λ d. d.id == id) devices))
  where
    by : (found : Option Device) → Flows [] 0 found (option_map (device_once_confirmed history) found)
    by (Some device) = same_flights (Some device) (Some (device_once_confirmed history device)) refl refl
    by None = nothing None

-- one more access of a device is in flight
AreSent-push : (waiting : List Asked) (flights : List AcceptedAccess) (asked : Asked) (flight : AcceptedAccess) → AreSent waiting flights → IsSentOf asked flight
    → AreSent (waiting ++ asked ∷ []) (flights ++ flight ∷ [])
AreSent-push [] [] asked flight sent its = (its, tt)
AreSent-push (first ∷ waiting) (own ∷ flights) asked flight sent its = (sent.0, AreSent-push waiting flights asked flight sent.1 its)
AreSent-push [] (own ∷ flights) asked flight sent its = absurd sent
AreSent-push (first ∷ waiting) [] asked flight sent its = absurd sent

-- the oldest access is made
made_first : (in_flight : List AcceptedAccess) (made : AcceptedAccess) → slice_get in_flight 0 ≡ Some made → in_flight ≡ made ∷ drop 1 in_flight
made_first [] made at = cc
made_first (flight ∷ later) made at = let same : flight ≡ made = cc in ap (λ f. f ∷ later) same

-- what flows of one device
flows-device : (event : Event) (outcome : Outcome) (old : State) (id : ℕ) (device now : Device) → DeviceChange event outcome old id device now
    → Flows (accepted_by event outcome id) (made_by event outcome id) (Some device) (Some now)
flows-device event outcome old id device now (DeviceChange.rearranged flights count none) =
    quiet event outcome id (Some device) (Some now) none (same_flights (Some device) (Some now) flights count)
flows-device event outcome old id device now (DeviceChange.accepts asked flight is accepted none_made sent idle whole may) =
    subst (λ (d : Device). Flows (accepted_by event outcome id) (made_by event outcome id) (Some device) (Some d)) (sym is) (λ waiting its. record {
      made = [];
      later = waiting ++ asked ∷ [];
      as_many = sym none_made;
      in_order = ap (λ l. waiting ++ l) accepted;
      sent = AreSent-push waiting device.in_flight asked flight its sent;
      counted = ap (λ (l : List Asked). device.accepted + length l) (sym accepted);
    })
flows-device event outcome old id device now (DeviceChange.makes first at is accepted one) =
    subst (λ (d : Device). Flows (accepted_by event outcome id) (made_by event outcome id) (Some device) (Some d)) (sym is)
    (subst (λ l. Flows l (made_by event outcome id) (Some device) (Some (record device { in_flight = drop 1 device.in_flight }))) (sym accepted)
    (λ waiting sent. from waiting (subst (AreSent waiting) (made_first device.in_flight first at) sent)))
  where
    from : (waiting : List Asked) → AreSent waiting (first ∷ drop 1 device.in_flight)
        → FlowsFrom waiting [] (made_by event outcome id) (Some device) (Some (record device { in_flight = drop 1 device.in_flight }))
    from [] sent = absurd sent
    from (asked ∷ others) sent = record {
      made = asked ∷ [];
      later = others;
      as_many = sym one;
      in_order = append-nil (asked ∷ others);
      sent = sent.1;
      counted = omega arith;
    }

flows-change : (event : Event) (outcome : Outcome) (old new : State) → DevicesChange event outcome old new
    → (id : ℕ) → Flows (accepted_by event outcome id) (made_by event outcome id) (device_of old id) (device_of new id)
flows-change event outcome old new (DevicesChange.stay none same) id =
    subst (λ devices. Flows (accepted_by event outcome id) (made_by event outcome id) (device_of old id) (find (λ d. d.id == id) devices)) (sym same)
    (quiet event outcome id _ _ (none id) (nothing (device_of old id)))
flows-change event outcome old new (DevicesChange.leave none history same) id =
    subst (λ devices. Flows (accepted_by event outcome id) (made_by event outcome id) (device_of old id) (find (λ d. d.id == id) devices)) (sym same)
    (quiet event outcome id _ _ (none id) (flows-leave history old.devices id))
flows-change event outcome old new (DevicesChange.enters entered what fits none same) id =
    subst (λ devices. Flows (accepted_by event outcome id) (made_by event outcome id) (device_of old id) (find (λ d. d.id == id) devices)) (sym same)
    (quiet event outcome id _ _ (none id) (flows-enters old.devices entered what id))
flows-change event outcome old new (DevicesChange.changes changed device now at own change others same) id =
    subst (λ devices. Flows (accepted_by event outcome id) (made_by event outcome id) (device_of old id) (find (λ d. d.id == id) devices)) (sym same)
    (flows-changes event outcome old.devices changed device now at own (flows-device event outcome old changed device now change) others id)

-- no two devices have the same id
abbrev pub HaveOwnIds : List Device → Type 0
HaveOwnIds [] = Unit {0}
HaveOwnIds (device ∷ later) = (find (λ d. d.id == device.id) later ≡ None) × HaveOwnIds later

-- the first that is found
nil_found : (d : Device) (id : ℕ) (devices : List Device) → find (λ x. x.id == id) (d ∷ devices) ≡ None → ((d.id == id) ≡ false) × (find (λ x. x.id == id) devices ≡ None)
nil_found d id devices none = by (d.id == id) refl none
  where
    by : (b : Bool) → (d.id == id) ≡ b → cond b (Some d) (find (λ x. x.id == id) devices) ≡ None → ((d.id == id) ≡ false) × (find (λ x. x.id == id) devices ≡ None)
    by true e h = cc
    by false e h = (e, h)

own_ids-enters : (devices : List Device) (now : Device) → HaveOwnIds devices → find (λ d. d.id == now.id) devices ≡ None → HaveOwnIds (devices ++ now ∷ [])
own_ids-enters [] now own absent = (refl, tt)
own_ids-enters (d ∷ devices) now own absent =
    let parts = nil_found d now.id devices absent in (
      find-append (λ (x : Device). x.id == d.id) devices (now ∷ []) ∙ rw (own.0, turned parts.0) refl,
      own_ids-enters devices now own.1 parts.1,
    )
  where
    turned : (d.id == now.id) ≡ false → (now.id == d.id) ≡ false
    turned e = by (now.id == d.id) refl
      where
        by : (b : Bool) → (now.id == d.id) ≡ b → (now.id == d.id) ≡ false
        by false f = f
        by true f = absurd (eqb-false d.id now.id e (sym (eqb-true now.id d.id f)))

own_ids-replaced : (devices : List Device) (id : ℕ) (now : Device) → now.id ≡ id → HaveOwnIds devices → HaveOwnIds (replaced_device devices id now)
own_ids-replaced [] id now is own = tt
own_ids-replaced (d ∷ devices) id now is own = by (d.id == id) refl (own_ids-replaced devices id now is own.1)
  where
    turned : (d.id == id) ≡ false → (id == d.id) ≡ false
    turned e = by_test (id == d.id) refl
      where
        by_test : (b : Bool) → (id == d.id) ≡ b → (id == d.id) ≡ false
        by_test false f = f
        by_test true f = absurd (eqb-false d.id id e (sym (eqb-true id d.id f)))

    by : (b : Bool) → (d.id == id) ≡ b → HaveOwnIds (replaced_device devices id now) → HaveOwnIds (if b then now ∷ devices else d ∷ replaced_device devices id now)
    by true e rest = (subst (λ n. find (λ x. x.id == n) devices ≡ None) (eqb-true d.id id e ∙ sym is) own.0, own.1)
    by false e rest = (found_besides devices id now d.id is (turned e) ∙ own.0, rest)

own_ids-leave : (history : History) (devices : List Device) → HaveOwnIds devices → HaveOwnIds (map (device_once_confirmed history) devices)
own_ids-leave history [] own = tt
own_ids-leave history (device ∷ devices) own =
    (found_once_confirmed history devices device.id ∙ ap (λ found. option_map (device_once_confirmed history) found) own.0, own_ids-leave history devices own.1)

own_ids-change : (event : Event) (outcome : Outcome) (old new : State) → DevicesChange event outcome old new → HaveOwnIds old.devices → HaveOwnIds new.devices
own_ids-change event outcome old new (DevicesChange.stay none same) own = subst HaveOwnIds (sym same) own
own_ids-change event outcome old new (DevicesChange.leave none history same) own = subst HaveOwnIds (sym same) (own_ids-leave history old.devices own)
own_ids-change event outcome old new (DevicesChange.enters id what fits none same) own =
    subst HaveOwnIds (sym same) (own_ids-enters old.devices (plugged_device id what) own (plug_finds_nothing old id what fits))
own_ids-change event outcome old new (DevicesChange.changes id device now at is change others same) own =
    subst HaveOwnIds (sym same) (own_ids-replaced old.devices device.id now is own)

-- each device is the one that its id names
own_ids-found : (devices : List Device) (k : ℕ) (device : Device) → HaveOwnIds devices → slice_get devices k ≡ Some device → find (λ d. d.id == device.id) devices ≡ Some device
own_ids-found [] k device own at = cc
own_ids-found (d ∷ devices) zero device own at =
    let same : d ≡ device = cc in rw (eq-eqb d.id device.id (ap (λ (x : Device). x.id) same)) at
own_ids-found (d ∷ devices) (suc k) device own at = by (d.id == device.id) refl (own_ids-found devices k device own.1 at)
  where
    by : (b : Bool) → (d.id == device.id) ≡ b → find (λ x. x.id == device.id) devices ≡ Some device → cond b (Some d) (find (λ x. x.id == device.id) devices) ≡ Some device
    by false e rest = rest
    by true e rest = let none : find (λ x. x.id == device.id) devices ≡ None = subst (λ n. find (λ x. x.id == n) devices ≡ None) (eqb-true d.id device.id e) own.0 in cc

-- what flows in two parts of a run flows in both
flows_on : (first second : List Asked) (n m : ℕ) (old mid new : Option Device) → Flows first n old mid → Flows second m mid new → Flows (first ++ second) (n + m) old new
flows_on first second n m old mid new before after waiting sent =
    let early = before waiting sent in
    let late = after early.later early.sent in
    record {
      made = early.made ++ late.made;
      later = late.later;
      as_many = length-append early.made late.made ∙ ap (λ k. k + length late.made) early.as_many ∙ ap (λ k. n + k) late.as_many;
      in_order = sym (append_assoc waiting first second) ∙ ap (λ l. l ++ second) early.in_order ∙ append_assoc early.made early.later second
          ∙ ap (λ l. early.made ++ l) late.in_order ∙ sym (append_assoc early.made late.made late.later);
      sent = late.sent;
      counted = late.counted ∙ ap (λ k. k + length second) early.counted ∙ (let both : length (first ++ second) ≡ length first + length second = length-append first second in omega arith);
    }

-- what flows of each device in a run, and that no two devices have the same id
pub flows-run : (old new : State) (events : List Event) (outcomes : List Outcome) → Run old events outcomes new
    → (id : ℕ) → Flows (accepted_in events outcomes id) (made_in events outcomes id) (device_of old id) (device_of new id)
flows-run old new [] [] run id = subst (λ (s : State). Flows [] 0 (device_of old id) (device_of s id)) (sym run) (nothing (device_of old id))
flows-run old new [] (outcome ∷ outcomes) run id = absurd run
flows-run old new (event ∷ events) [] run id = absurd run
flows-run old new (event ∷ events) (outcome ∷ outcomes) (mid, step, run) id =
    flows_on (accepted_by event outcome id) (accepted_in events outcomes id) (made_by event outcome id) (made_in events outcomes id) _ (device_of mid id) _
    (flows-change event outcome old mid (step_change old mid event outcome step).devices id) (flows-run mid new events outcomes run id)

pub own_ids-run : (old new : State) (events : List Event) (outcomes : List Outcome) → Run old events outcomes new → HaveOwnIds old.devices → HaveOwnIds new.devices
own_ids-run old new [] [] run own = subst (λ (s : State). HaveOwnIds s.devices) (sym run) own
own_ids-run old new [] (outcome ∷ outcomes) run own = absurd run
own_ids-run old new (event ∷ events) [] run own = absurd run
own_ids-run old new (event ∷ events) (outcome ∷ outcomes) (mid, step, run) own =
    own_ids-run mid new events outcomes run (own_ids-change event outcome old mid (step_change old mid event outcome step).devices own)

-- each access in flight was accepted at an event of its own
pub in_flight_were_accepted : AccessesInFlightWereAccepted
in_flight_were_accepted state events outcomes (limits, frames, levels, disks, run) k d below =
    let device = get_or state.devices k d in
    let at : slice_get state.devices k ≡ Some device = slice_get-get_or state.devices k d below in
    let there : device_of state device.id ≡ Some device = own_ids-found state.devices k device (own_ids-run (opening limits frames levels disks) state events outcomes run tt) at in
    let flows : Flows (accepted_in events outcomes device.id) (made_in events outcomes device.id) None (Some device) =
    subst (λ found. Flows (accepted_in events outcomes device.id) (made_in events outcomes device.id) None found) there (flows-run (opening limits frames levels disks) state events outcomes run device.id) in
    let from = flows [] tt in
    record {
      made = from.made;
      waiting = from.later;
      in_order = subst (AreAccepted events outcomes device.id) from.in_order (are_accepted events outcomes device.id);
      as_many = subst (AreMade events outcomes device.id) (sym from.as_many) (are_made events outcomes device.id);
      in_flight = from.sent;
      counted = let same : length (accepted_in events outcomes device.id) ≡ length (from.made ++ from.later) = ap (λ (l : List Asked). length l) from.in_order in
          from.counted ∙ omega (arith, same);
    }

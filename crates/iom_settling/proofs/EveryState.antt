-- Every state that is reached settles: its accesses in flight are committed, device by device. Where a ticket is unconfirmed, that is refused then.
use Rattle.std.proofs.Common.{◌≡◌, ◌-◌, ◌≤◌, ◌==◌, ◌∙◌, ℕ, suc, Bool, true, false, nat_lt, List, [], ◌∷◌, ◌++◌, length, map, drop, find, None, Some, Result, Ok, Err, slice_get, refl, sym, ap, subst, arith}
use Rattle.std.proofs.lemmas.Bool.{eqb-true, eq-eqb, leb-true, leb-false}
use Rattle.std.proofs.lemmas.List.{length-append, length-map}
use Rattle.iom_base.specs.declared.access.AcceptedAccess.{AcceptedAccess}
use Rattle.iom_base.specs.declared.refusal.Refusal.{Refusal}
use Rattle.iom_base.specs.declared.refusal.Refusal.TheVariants.{NumbersUsedUp}
use Rattle.iom_ledger.specs.History.{History, held_at}
use Rattle.iom_machine.specs.declared.event.Event.{Event}
use Rattle.iom_machine.specs.declared.event.Event.TheVariants as events
use Rattle.iom_machine.specs.declared.outcome.Outcome.{Outcome}
use Rattle.iom_machine.specs.declared.outcome.Outcome.TheVariants as outcome
use Rattle.iom_machine.specs.declared.state.Device.{Device}
use Rattle.iom_machine.specs.declared.state.State.{State}
use Rattle.iom_machine.specs.Devices.{replaced_device}
use Rattle.iom_base.specs.DeviceKinds.{is_any_kind}
use Rattle.iom_machine.specs.Laws.{IsReached}
use Rattle.iom_machine.specs.Machine.{Makes, Step, Run, with_oldest_made}
use Rattle.iom_machine.specs.PowerOn.{model_limits, opening}
use Rattle.iom_machine.specs.Tickets.{last_confirmed, pending_tickets}
use Rattle.iom_machine.specs.Traces.{count_in_flight}
use Rattle.iom_machine.proofs.DeviceLemmas.{HaveOwnIds, own_ids-run}
use Rattle.iom_machine.proofs.HeadlineLemmas.{commits_are_answered}
use Rattle.iom_machine.proofs.InFlightLemmas.{able_act, some_case}
use Rattle.iom_machine.proofs.StepChanges.{SameLedger}
use Rattle.iom_settling.specs.Settles.{in_flight_by, AreInSettlingOrder, SettlesBy, RefusesToSettle, Settles}
use Rattle.iom_settling.proofs.FewLemmas.{AreFew, few_if_reached, few_in_flight}

-- the device, where its oldest access is in flight no more
abbrev with_one_less : Device → Device
with_one_less device = record device { in_flight = drop 1 device.in_flight }

-- A RUN, and one event more
run_more : (old mid new : State) (events : List Event) (outcomes : List Outcome) (event : Event) (reply : Outcome)
    → Run old events outcomes mid → Step mid event reply new → Run old (events ++ event ∷ []) (outcomes ++ reply ∷ []) new
run_more old mid new [] [] event reply run step = (new, subst (λ (s : State). Step s event reply new) run step, refl)
run_more old mid new [] (other ∷ outcomes) event reply run step = absurd run
run_more old mid new (other ∷ events) [] event reply run step = absurd run
run_more old mid new (first ∷ events) (other ∷ outcomes) event reply run step =
    (run.0, run.1, run_more run.0 mid new events outcomes event reply run.2 step)

reached_after : (old new : State) (event : Event) (reply : Outcome) → IsReached old → Step old event reply new → IsReached new
reached_after old new event reply (events, outcomes, (limits, frames, levels, disks, run)) step =
    (events ++ event ∷ [], outcomes ++ reply ∷ [], (limits, frames, levels, disks, run_more (opening limits frames levels disks) old new events outcomes event reply run step))

-- no two devices of a state that is reached have the same id
own_ids_if_reached : (state : State) → IsReached state → HaveOwnIds state.devices
own_ids_if_reached state (events, outcomes, (limits, frames, levels, disks, run)) = own_ids-run (opening limits frames levels disks) state events outcomes run tt

-- as many accesses are in flight as devices are named for them
count_named : (devices : List Device) → count_in_flight devices ≡ length (in_flight_by devices)
count_named [] = refl
count_named (device ∷ others) =
    let own = length-map device.in_flight (λ (access : AcceptedAccess). device.id) in
    let both = length-append (map (λ (access : AcceptedAccess). device.id) device.in_flight) (in_flight_by others) in
    let rest = count_named others in
    omega (arith, own, both, rest)

-- THE FIRST DEVICE THAT HAS SOMETHING IN FLIGHT, where something is: its id names it, and its turn is next
record IsNext (devices : List Device) (device : Device) : Type 0 where
  there : find (λ d. d.id == device.id) devices ≡ Some device
  busy : 1 ≤ length device.in_flight
  first : in_flight_by devices ≡ device.id ∷ in_flight_by (replaced_device devices device.id (with_one_less device))

next_behind : (first : Device) (others : List Device) (device : Device) → find (λ d. d.id == first.id) others ≡ None → first.in_flight ≡ [] → IsNext others device
    → IsNext (first ∷ others) device
next_behind first others device own none next = record { there = rw differ next.there; busy = next.busy; first = rw (differ, none) next.first }
  where
    differ : (first.id == device.id) ≡ false
    differ = by (first.id == device.id) refl
      where
        by : (b : Bool) → (first.id == device.id) ≡ b → b ≡ false
        by true same =
            let absent : find (λ d. d.id == device.id) others ≡ None = subst (λ n. find (λ d. d.id == n) others ≡ None) (eqb-true first.id device.id same) own in
            let there = next.there in
            cc
        by false differ = refl

some_next : (devices : List Device) (id : ℕ) (ids : List ℕ) → HaveOwnIds devices → in_flight_by devices ≡ id ∷ ids → (device : Device) × IsNext devices device
some_next [] id ids own some = cc
some_next (first ∷ others) id ids own some = by first.in_flight refl some (some_next others id ids own.1)
  where
    by : (flights : List AcceptedAccess) → first.in_flight ≡ flights → map (λ (access : AcceptedAccess). first.id) flights ++ in_flight_by others ≡ id ∷ ids
        → (in_flight_by others ≡ id ∷ ids → (device : Device) × IsNext others device) → (device : Device) × IsNext (first ∷ others) device
    by [] none some later = let next = later some in (next.0, next_behind first others next.0 own.0 none next.1)
    by (oldest ∷ rest) more some later =
        let long : length first.in_flight ≡ suc (length rest) = ap (λ (l : List AcceptedAccess). length l) more in (
          first,
          record {
            there = rw (eq-eqb first.id first.id refl) refl;
            busy = omega (arith, long);
            first = rw (eq-eqb first.id first.id refl, more) refl;
          },
        )

-- ONE COMMIT of such a device: the history and the last ticket are as before
record MakesOne (old : State) (device : Device) (new : State) : Type 0 where
  same : SameLedger old new
  devices : new.devices ≡ (with_oldest_made old device).devices

makes_one : (old new : State) (device : Device) (reply : Outcome) → 1 ≤ length device.in_flight → Makes old device reply new → MakesOne old device new
makes_one old new device (outcome.Read bytes) busy makes =
    let made = some_case (slice_get device.in_flight 0) _ makes in record {
      same = (ap (λ (s : State). s.history) made.2.1, ap (λ (s : State). s.last_ticket) made.2.1);
      devices = ap (λ (s : State). s.devices) made.2.1;
    }
makes_one old new device (outcome.Wrote len) busy makes =
    let made = some_case (slice_get device.in_flight 0) _ makes in record {
      same = (ap (λ (s : State). s.history) made.2.1, ap (λ (s : State). s.last_ticket) made.2.1);
      devices = ap (λ (s : State). s.devices) made.2.1;
    }
makes_one old new device outcome.NothingInFlight busy makes =
    let none : length device.in_flight ≡ 0 = ap (λ l. length l) makes.0 in absurd (omega (arith, busy, none))
makes_one old new device _ busy makes = absurd makes

record CommitsOne (old : State) (id : ℕ) (ids : List ℕ) : Type 0 where
  device : ℕ
  reply : Outcome
  new : State
  step : Step old (events.Commit device) reply new
  same : SameLedger old new
  named : device ≡ id
  left : in_flight_by new.devices ≡ ids

commits_one : (old : State) (id : ℕ) (ids : List ℕ) → IsReached old → in_flight_by old.devices ≡ id ∷ ids → CommitsOne old id ids
commits_one old id ids reached some = by (some_next old.devices id ids (own_ids_if_reached old reached) some)
  where
    by : (device : Device) × IsNext old.devices device → CommitsOne old id ids
    by (device, next) =
        let answer = commits_are_answered old device.id reached in
        let made = makes_one old answer.1 device answer.0 next.busy
        (able_act is_any_kind (λ d. Makes old d answer.0 answer.1) old device.id answer.0 answer.1 device next.there refl answer.2.1) in
        let turns : id ∷ ids ≡ device.id ∷ in_flight_by answer.1.devices = sym some ∙ next.first ∙ ap (λ (devices : List Device). device.id ∷ in_flight_by devices) (sym made.devices) in
        record { device = device.id; reply = answer.0; new = answer.1; step = answer.2; same = made.same; named = cc; left = cc }

-- ALL ARE COMMITTED, one after another
record CommitsAll (old : State) (ids : List ℕ) : Type 0 where
  events : List Event
  outcomes : List Outcome
  new : State
  run : Run old events outcomes new
  order : AreInSettlingOrder false ids events outcomes
  counted : length events ≡ length ids
  same : SameLedger old new
  idle : count_in_flight new.devices ≡ 0

commits_all : (ids : List ℕ) (old : State) → IsReached old → in_flight_by old.devices ≡ ids → CommitsAll old ids
commits_all [] old reached none = record {
  events = [];
  outcomes = [];
  new = old;
  run = refl;
  order = tt;
  counted = refl;
  same = (refl, refl);
  idle = count_named old.devices ∙ ap (λ (l : List ℕ). length l) none;
}
commits_all (id ∷ ids) old reached some =
    let one = commits_one old id ids reached some in
    let rest = commits_all ids one.new (reached_after old one.new (events.Commit one.device) one.reply reached one.step) one.left in
    record {
      events = events.Commit one.device ∷ rest.events;
      outcomes = one.reply ∷ rest.outcomes;
      new = rest.new;
      run = (one.new, one.step, rest.run);
      order = (one.named, rest.order);
      counted = ap suc rest.counted;
      same = (rest.same.0 ∙ one.same.0, rest.same.1 ∙ one.same.1);
      idle = rest.idle;
    }

-- AS MANY TICKETS ARE UNCONFIRMED as before
same_pending : (old new : State) → SameLedger old new → pending_tickets new ≡ pending_tickets old
same_pending old new same = ap (λ n. n - last_confirmed new.history) same.1 ∙ ap (λ (h : History). old.last_ticket - last_confirmed h) same.0

-- none: then it settles
settles_idle : (old : State) → length (in_flight_by old.devices) ≤ 400 → nat_lt 0 (pending_tickets old) ≡ false → (all : CommitsAll old (in_flight_by old.devices))
    → SettlesBy old (length (in_flight_by old.devices)) all.new
settles_idle old few none all =
    let pending = leb-false 1 (pending_tickets old) none in
    let same = same_pending old all.new all.same in
    record {
      events = all.events;
      outcomes = all.outcomes;
      run = all.run;
      order = subst (λ b. AreInSettlingOrder b (in_flight_by old.devices) all.events all.outcomes) (sym none) all.order;
      counted = all.counted;
      few = few;
      idle = all.idle;
      confirmed = omega (arith, pending, same);
      held = λ device page. ap (λ (h : History). held_at h device page) all.same.0;
    }

-- some: then it may be refused
refuses_idle : (old : State) → nat_lt 0 (pending_tickets old) ≡ true → (all : CommitsAll old (in_flight_by old.devices)) → RefusesToSettle old NumbersUsedUp all.new
refuses_idle old some all =
    let pending = leb-true 1 (pending_tickets old) some in
    let same = same_pending old all.new all.same in
    record {
      events = all.events;
      outcomes = all.outcomes;
      run = all.run;
      order = all.order;
      idle = all.idle;
      used_up = refl;
      unconfirmed = omega (arith, pending, same);
    }

pub can_settle : (state : State) → state.limits ≡ model_limits → IsReached state → (answer : Result ℕ Refusal) × (next : State) × Settles state answer next
can_settle state model reached = by (nat_lt 0 (pending_tickets state)) refl
  where
    all : CommitsAll state (in_flight_by state.devices)
    all = commits_all (in_flight_by state.devices) state reached refl

    few : length (in_flight_by state.devices) ≤ 400
    few =
        let most = few_in_flight state.devices (subst (λ limits. AreFew limits state.devices) model (few_if_reached state reached)) in
        let counted = count_named state.devices in
        omega (arith, most, counted)

    by : (b : Bool) → nat_lt 0 (pending_tickets state) ≡ b → (answer : Result ℕ Refusal) × (next : State) × Settles state answer next
    by false none = (Ok (length (in_flight_by state.devices)), all.new, settles_idle state few none all)
    by true some = (Err NumbersUsedUp, all.new, refuses_idle state some all)

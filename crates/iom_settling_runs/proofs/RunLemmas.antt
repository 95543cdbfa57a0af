-- Whatever has a world, and takes events as that does, settles as the ledger machine may.
use Rattle.std.proofs.Common.{◌≡◌, ◌==◌, ◌-◌, ◌≤◌, ◌∙◌, ℕ, suc, nat_lt, Bool, true, false, map, Some, if◌then◌else◌, List, [], ◌∷◌, length, Result, Ok, Err, refl, sym, ap, subst, arith}
use Rattle.std.specs.Option.{option_map_or}
use Rattle.std.proofs.lemmas.Bool.{le-leb, leb-true, leb-false}
use Rattle.iom_world_effects.specs.Devices.{in_flight_of, shown_devices}
use Rattle.iom_device.specs.declared.device.Device.{Device}
use Rattle.iom_driver.specs.declared.device.Device as known
use Rattle.iom_inflight.specs.Flights.{NumberedAccess, FlightRow, row_of}
use Rattle.iom_base.specs.declared.refusal.Refusal.{Refusal}
use Rattle.iom_machine.specs.declared.event.Event.{Event}
use Rattle.iom_machine.specs.declared.outcome.Outcome.{Outcome}
use Rattle.iom_machine.specs.declared.state.State.{State}
use Rattle.iom_machine.specs.Machine.{Run}
use Rattle.iom_machine.specs.Tickets.{pending_tickets}
use Rattle.iom_machine.specs.Traces.{count_in_flight}
use Rattle.iom_settling.specs.Idle.{AreIdle}
use Rattle.iom_settling.specs.Settles.{in_flight_by, AreInSettlingOrder, Settles, ran_in}
use Rattle.iom_settling.specs.Went.{Takes}
use Rattle.iom_settling.specs.Stages.{flights_by, Settled}
use Rattle.iom_settling.proofs.HoldLemmas.{run_holds}
use Rattle.iom_settling.proofs.OrderLemmas.{all_settling}
use Rattle.iom_iommu.specs.Parts.{flights_of}
use Rattle.iom_world_effects.specs.Invariant.{HaveDistinctIds, plugged_ids, row_ids}
use Rattle.iom_world.specs.Happens.{Happens}
use Rattle.iom_world.specs.Runs.{GoesThrough, uncounted}
use Rattle.iom_world.specs.Shown.{Shown}
use Rattle.iom_world.specs.Shows.{Shows}
use Rattle.iom_settling_runs.specs.Laws.{GoesThroughAll}
use Rattle.iom_settling_runs.proofs.TurnLemmas.{same_turns}

-- where nothing is in flight in the IOMMU's rows, nothing is in the machine's devices
idle_in : (rows : List FlightRow) (id : ℕ) → AreIdle rows → in_flight_of rows id ≡ []
idle_in [] id idle = refl
idle_in (row ∷ rows) id idle = by (row.device == id) (idle_in rows id idle.1)
  where
    by : (b : Bool) → in_flight_of rows id ≡ []
        → option_map_or (λ (r : FlightRow). map (λ (flight : NumberedAccess). flight.accepted) r.waiting) (if b then Some row else row_of rows id) [] ≡ []
    by true rest = ap (λ (l : List NumberedAccess). map (λ (flight : NumberedAccess). flight.accepted) l) idle.0
    by false rest = rest

idle_all : (knows : List known.Device) (rows : List FlightRow) (devices : List Device) → AreIdle rows → count_in_flight (shown_devices knows rows devices) ≡ 0
idle_all knows rows [] idle = refl
idle_all knows rows (device ∷ others) idle =
    let none : length (in_flight_of rows device.id) ≡ 0 = ap (λ l. length l) (idle_in rows device.id idle) in
    let rest = idle_all knows rows others idle in
    omega (arith, none, rest)

-- a ticket is unconfirmed where some are pending
some_pending : (confirmed given : ℕ) → nat_lt confirmed given ≡ nat_lt 0 (given - confirmed)
some_pending confirmed given = by (nat_lt confirmed given) refl
  where
    by : (b : Bool) → nat_lt confirmed given ≡ b → b ≡ nat_lt 0 (given - confirmed)
    by true is =
        let more = leb-true (suc confirmed) given is in
        let some : 1 ≤ given - confirmed = omega (arith, more) in
        sym (le-leb 1 (given - confirmed) some)
    by false is =
        let few = leb-false (suc confirmed) given is in
        let none : given - confirmed ≡ 0 = omega (arith, few) in
        ap (λ n. nat_lt 0 n) (sym none)

still_pending : (shown : Shown) (state : State) → Shows shown state → nat_lt shown.parts.driver.confirmed shown.parts.driver.given ≡ nat_lt 0 (pending_tickets state)
still_pending shown state shows =
    some_pending shown.parts.driver.confirmed shown.parts.driver.given
    ∙ ap (λ n. nat_lt 0 (n - shown.parts.driver.confirmed)) (sym shows.0.given)
    ∙ ap (λ n. nat_lt 0 (state.last_ticket - n)) (sym shows.0.confirmed)

-- no two devices have one id, and each has its row, in their order; so the same accesses are in flight, in the same order: so these events are in the order of settling for either
abbrev pub HaveOwnRows : Shown → Type 0
HaveOwnRows shown = HaveDistinctIds shown.parts.devices × (row_ids (flights_of shown.parts.iommu).rows ≡ plugged_ids shown.parts.devices)

same_order : (shown : Shown) (state : State) → HaveOwnRows shown → Shows shown state → (pending : Bool) (events : List Event) (outcomes : List Outcome)
    → AreInSettlingOrder pending (flights_by shown.parts) events outcomes → AreInSettlingOrder pending (in_flight_by state.devices) events outcomes
same_order shown state own shows pending events outcomes order =
    let turns = same_turns _ _ shown.parts.devices own.0 own.1 in
    subst (λ (ids : List ℕ). AreInSettlingOrder pending ids events outcomes) (sym (ap in_flight_by shows.0.devices ∙ turns)) order

module _ {S : Type 0} (shown_of : S → Shown) (own : (s : S) → HaveOwnRows (shown_of s)) where
  -- the event does so to what is seen as a world
  abbrev Effect : S → Event → Outcome → S → Type 0
  Effect old event reply new = Happens (shown_of old) event reply (shown_of new)

  -- events that it took one after another are a run of the machine, which it goes through
  ran : (old new : S) (events : List Event) (outcomes : List Outcome) (state : State) → Shows (shown_of old) state → Takes Effect old events outcomes new
      → (last : State) × (run : Run state events outcomes last) × Shows (shown_of new) last
      × GoesThrough state (shown_of old) events outcomes (uncounted events) last run (shown_of new)
  ran old new [] [] state shows takes =
      let still = subst (λ (s : S). Shows (shown_of s) state) (sym takes) shows in (state, refl, still, (still, ap shown_of takes))
  ran old new [] (reply ∷ outcomes) state shows takes = absurd takes
  ran old new (event ∷ events) [] state shows takes = absurd takes
  ran old new (event ∷ events) (reply ∷ outcomes) state shows takes =
      let next = takes.1.step state shows in
      let rest = ran takes.0 new events outcomes next.0 next.2 takes.2 in
      (rest.0, (next.0, next.1, rest.1), rest.2, (shows, shown_of takes.0, takes.1, tt, rest.3))

  pub settles : (old new : S) (answer : Result ℕ Refusal) (state : State) → Shows (shown_of old) state
      → Settled (λ (s : S). (shown_of s).parts) (λ (before : S) (event : Event) (reply : Outcome) (after : S). Happens (shown_of before) event reply (shown_of after)) old answer new
      → (last : State) × (by_it : Settles state answer last) × Shows (shown_of new) last
      × GoesThroughAll state (shown_of old) last (ran_in state answer last by_it) (shown_of new)
  settles old new (Ok count) state shows (went, few, idle, confirmed) =
      let run = ran old new went.events went.outcomes state shows went.takes in
      let given = run.2.0.given in
      let last = run.2.0.confirmed in (
        run.0,
        record {
          events = went.events;
          outcomes = went.outcomes;
          run = run.1;
          order = subst (λ (b : Bool). AreInSettlingOrder b (in_flight_by state.devices) went.events went.outcomes) (still_pending (shown_of old) state shows)
              (same_order (shown_of old) state (own old) shows _ went.events went.outcomes went.order);
          counted = went.counted;
          few = omega (arith, few);
          idle = ap count_in_flight run.2.0.devices ∙ idle_all _ _ (shown_of new).parts.devices idle;
          confirmed = omega (arith, given, last, confirmed);
          held = run_holds state run.0 went.events went.outcomes run.1 (all_settling _ _ went.events went.outcomes went.order);
        },
        run.2,
        run.3,
      )
  settles old new (Err why) state shows (used_up, went, (idle, quiet), unconfirmed, high) =
      let run = ran old new went.1.events went.1.outcomes state shows went.1.takes in
      let given = run.2.0.given in
      let last = run.2.0.confirmed in (
        run.0,
        record {
          events = went.1.events;
          outcomes = went.1.outcomes;
          run = run.1;
          order = same_order (shown_of old) state (own old) shows false went.1.events went.1.outcomes went.1.order;
          idle = ap count_in_flight run.2.0.devices ∙ idle_all _ _ (shown_of new).parts.devices idle;
          used_up = used_up;
          unconfirmed = omega (arith, given, last, unconfirmed);
        },
        run.2,
        run.3,
      )

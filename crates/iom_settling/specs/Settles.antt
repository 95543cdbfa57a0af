-- WHAT SETTLING IS: a run of some events, after which no ticket is unconfirmed.
use Rattle.std.specs.Prelude.{◌≡◌, ℕ, ◌≤◌, ◌<◌, nat_lt, ⊤, Bool, true, false, List, [], ◌∷◌, length, map, flat_map, Result, Ok, Err}
use Rattle.iom_ledger.specs.History.{History, held_at}
use Rattle.iom_base.specs.declared.refusal.Refusal.{Refusal}
use Rattle.iom_base.specs.declared.refusal.Refusal.TheVariants.{NumbersUsedUp}
use Rattle.iom_machine.specs.declared.event.Event.{Event}
use Rattle.iom_machine.specs.declared.event.Event.TheVariants as events
use Rattle.iom_machine.specs.declared.outcome.Fetched.{Fetched}
use Rattle.iom_machine.specs.declared.outcome.Fetched.TheVariants as tells
use Rattle.iom_machine.specs.declared.outcome.Outcome.{Outcome}
use Rattle.iom_machine.specs.declared.outcome.Outcome.TheVariants as outcome
use Rattle.iom_machine.specs.declared.state.Device.{Device}
use Rattle.iom_machine.specs.declared.state.State.{State}
use Rattle.iom_machine.specs.Machine.{Run}
use Rattle.iom_machine.specs.Tickets.{pending_tickets}
use Rattle.iom_machine.specs.Traces.{count_in_flight}

-- IN WHICH ORDER ITS EVENTS ARE, with what these are answered

-- What stands behind a fetch, by its answer. A command was done: then the next fetch. A command has to wait: then deliveries of the oldest message, and the next
-- fetch. The queue is empty: then a poll, and that is all.
abbrev pub AreBehindFetch : Fetched → List Event → List Outcome → Type 0
AreBehindFetch (tells.Did name) (events.Fetch ∷ later) (outcome.Fetched next ∷ outcomes) = AreBehindFetch next later outcomes
AreBehindFetch tells.Waiting (events.Deliver place ∷ later) (delivered ∷ outcomes) = (place ≡ 0) × AreBehindFetch tells.Waiting later outcomes
AreBehindFetch tells.Waiting (events.Fetch ∷ later) (outcome.Fetched next ∷ outcomes) = AreBehindFetch next later outcomes
AreBehindFetch tells.Empty (events.Poll ∷ []) (polled ∷ []) = ⊤
AreBehindFetch _ _ _ = ⊥

-- What stands behind the commits: deliveries of the oldest message; and then, where a ticket was unconfirmed, a restart, a fetch, and what stands behind that.
abbrev pub AreBehindCommits : Bool → List Event → List Outcome → Type 0
AreBehindCommits pending (events.Deliver place ∷ later) (delivered ∷ outcomes) = (place ≡ 0) × AreBehindCommits pending later outcomes
AreBehindCommits true (events.Restart ∷ events.Fetch ∷ later) (outcome.Done ∷ outcome.Fetched first ∷ outcomes) = AreBehindFetch first later outcomes
AreBehindCommits false [] [] = ⊤
AreBehindCommits _ _ _ = ⊥

-- whose accesses are in flight, device by device in the order of plugging: its id once for each of them
abbrev pub in_flight_by : List Device → List ℕ
in_flight_by devices = flat_map (λ device. map (λ access. device.id) device.in_flight) devices

-- THE ORDER: a commit of each of these devices, and then what stands behind the commits
abbrev pub AreInSettlingOrder : Bool → List ℕ → List Event → List Outcome → Type 0
AreInSettlingOrder pending [] all outcomes = AreBehindCommits pending all outcomes
AreInSettlingOrder pending (id ∷ ids) (events.Commit device ∷ later) (committed ∷ outcomes) = (device ≡ id) × AreInSettlingOrder pending ids later outcomes
AreInSettlingOrder _ _ _ _ = ⊥

-- what each device holds is as before
abbrev pub HoldAsBefore : History → History → Type 0
HoldAsBefore before after = (device page : ℕ) → held_at after device page ≡ held_at before device page

-- THE LEDGER MACHINE SETTLES, by so many events: they are a run of it, in this order, nothing is in flight and no ticket is unconfirmed then, and each device
-- holds what it did
pub record SettlesBy (old : State) (count : ℕ) (new : State) : Type 0 where
  pub events : List Event
  pub outcomes : List Outcome
  pub run : Run old events outcomes new
  pub order : AreInSettlingOrder (nat_lt 0 (pending_tickets old)) (in_flight_by old.devices) events outcomes
  pub counted : length events ≡ count
  pub few : count ≤ 400
  pub idle : count_in_flight new.devices ≡ 0
  pub confirmed : pending_tickets new ≡ 0
  pub held : HoldAsBefore old.history new.history

-- or it is refused, since the numbers of fences are used up, where a ticket is unconfirmed: then the events are those of a settling where none is, commits and
-- deliveries, and nothing is in flight
pub record RefusesToSettle (old : State) (why : Refusal) (new : State) : Type 0 where
  pub events : List Event
  pub outcomes : List Outcome
  pub run : Run old events outcomes new
  pub order : AreInSettlingOrder false (in_flight_by old.devices) events outcomes
  pub idle : count_in_flight new.devices ≡ 0
  pub used_up : why ≡ NumbersUsedUp
  pub unconfirmed : 0 < pending_tickets new

-- SETTLING, by its answer
abbrev pub Settles : State → Result ℕ Refusal → State → Type 0
Settles old (Ok count) new = SettlesBy old count new
Settles old (Err why) new = RefusesToSettle old why new

-- events that happen to the machine one after another, from this state to that
pub record Ran (old new : State) : Type 0 where
  pub events : List Event
  pub outcomes : List Outcome
  pub run : Run old events outcomes new

-- the events of a settling
abbrev pub ran_in : (old : State) (answer : Result ℕ Refusal) (new : State) → Settles old answer new → Ran old new
ran_in old (Ok count) new settles = record { events = settles.events; outcomes = settles.outcomes; run = settles.run }
ran_in old (Err why) new settles = record { events = settles.events; outcomes = settles.outcomes; run = settles.run }

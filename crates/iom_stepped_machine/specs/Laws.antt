-- What a machine with walks in it has in common with the ledger machine.
use Rattle.std.specs.Prelude.{◌≡◌, ℕ, ◌<◌, ◌≤◌, List, [], ◌∷◌, length, map, Option, None, Some, option_map}
use Rattle.iom_machine.specs.declared.event.Event.{Event}
use Rattle.iom_machine.specs.declared.event.Event.TheVariants as events
use Rattle.iom_machine.specs.declared.outcome.Outcome.{Outcome}
use Rattle.iom_machine.specs.declared.outcome.Outcome.TheVariants.{Accepted, Busy, Fault}
use Rattle.iom_machine.specs.declared.state.Device.{Device}
use Rattle.iom_machine.specs.declared.state.Limits.{Limits}
use Rattle.iom_machine.specs.declared.state.State.{State}
use Rattle.iom_machine.specs.Devices.{IsPlugged}
use Rattle.iom_machine.specs.Machine.{Run}
use Rattle.iom_machine.specs.PowerOn.{opening}
use Rattle.iom_stepped_machine.specs.Machine.{SteppedEvent, Whole, Load, SteppedOutcome, Answer, SteppedState, SteppedStep, SteppedRun, asker_of, walk_at}
use Rattle.iom_stepped_machine.specs.Walks.{Walk, Walks, event_of, most_loads, no_walks}

-- an event of the ledger machine, with what was answered
abbrev pub Answered : Type 0
Answered = Event × Outcome

-- An access that finds a walk counted among those in flight changes nothing; the ledger machine, which counts none, would have another word for it.
abbrev pub unless_busy : Event → Outcome → Option Answered
unless_busy event Busy = None
unless_busy event outcome = Some (event, outcome)

-- beside a walk of the device that asks the ledger machine sees what is answered by its own rules: what needs no walk, and each refusal but that one
abbrev pub part_besides : Event → Outcome → Option Answered
part_besides (events.Read id address len) outcome = unless_busy (events.Read id address len) outcome
part_besides (events.Write id address bytes) outcome = unless_busy (events.Write id address bytes) outcome
part_besides (events.ReadTranslated id address len) outcome = unless_busy (events.ReadTranslated id address len) outcome
part_besides (events.WriteTranslated id address bytes) outcome = unless_busy (events.WriteTranslated id address bytes) outcome
part_besides (events.ReadThroughCache id address len) outcome = unless_busy (events.ReadThroughCache id address len) outcome
part_besides (events.WriteThroughCache id address bytes) outcome = unless_busy (events.WriteThroughCache id address bytes) outcome
part_besides event outcome = Some (event, outcome)

abbrev pub part_whole : Option Walk → Event → Outcome → Option Answered
part_whole None event outcome = Some (event, outcome)
part_whole (Some walk) event outcome = part_besides event outcome

-- WHAT THE LEDGER MACHINE SEES of an event: each of its own events, as it was answered; and a request in walk as asked for at the load that ends it. It sees nothing
-- of a request whose walk begins or that finds one, nor of other loads.
abbrev pub ledger_part : Walks → SteppedEvent → SteppedOutcome → Option Answered
ledger_part walks (Whole event) (Answer outcome) = part_whole (walk_at walks (asker_of event)) event outcome
ledger_part walks (Load id) (Answer (Accepted number)) = option_map (λ (walk : Walk). (event_of id walk.asking, Accepted number)) (walks id)
ledger_part walks (Load id) (Answer (Fault cause)) = option_map (λ (walk : Walk). (event_of id walk.asking, Fault cause)) (walks id)
ledger_part walks event outcome = None

-- the events and outcomes begin with this one, if there is one, and go on so
abbrev pub GoOn : Option Answered → (List Event → List Outcome → Type 0) → List Event → List Outcome → Type 0
GoOn None Others events outcomes = Others events outcomes
GoOn (Some first) Others events outcomes =
    (later : List Event) × (replies : List Outcome) × (events ≡ first.0 ∷ later) × (outcomes ≡ first.1 ∷ replies) × Others later replies

-- these are, in their order, what the ledger machine sees of a run
abbrev pub IsSeenAs : SteppedState → List SteppedEvent → List SteppedOutcome → SteppedState → List Event → List Outcome → Type 0
IsSeenAs old [] [] new its replies = (new ≡ old) × (its ≡ []) × (replies ≡ [])
IsSeenAs old (event ∷ events) (outcome ∷ outcomes) new its replies =
    (mid : SteppedState) × SteppedStep old event outcome mid
    × GoOn (ledger_part old.walks event outcome) (λ later answers. IsSeenAs mid events outcomes new later answers) its replies
IsSeenAs old _ _ new its replies = ⊥

-- what the ledger machine sees of a run is a run of its own
abbrev pub SteppedRunsAreRuns : Type 0
SteppedRunsAreRuns = (old new : SteppedState) (events : List SteppedEvent) (outcomes : List SteppedOutcome) → SteppedRun old events outcomes new
    → (its : List Event) × (replies : List Outcome) × IsSeenAs old events outcomes new its replies × Run old.ledger its replies new.ledger

-- the ledger machine's state, with no walk under way
abbrev pub without_walks : State → SteppedState
without_walks state = record { ledger = state; walks = no_walks }

-- and each run of it is one in which no walk takes several events
abbrev pub WholeRunsAreStepped : Type 0
WholeRunsAreStepped = (old new : State) (events : List Event) (outcomes : List Outcome) → Run old events outcomes new
    → SteppedRun (without_walks old) (map Whole events) (map Answer outcomes) (without_walks new)

-- some list of events from power-on leaves the state
abbrev pub IsReachedByLoads : SteppedState → Type 0
IsReachedByLoads state =
    (events : List SteppedEvent) × (outcomes : List SteppedOutcome) × (limits : Limits) × (frames levels : ℕ) × (disks : List ℕ)
    × SteppedRun (without_walks (opening limits frames levels disks)) events outcomes state

-- no walk made more loads than that since it began, or began anew
abbrev pub WalksMakeFewLoads : Type 0
WalksMakeFewLoads = (state : SteppedState) (id : ℕ) (walk : Walk) → IsReachedByLoads state → state.walks id ≡ Some walk → walk.loads ≤ most_loads

-- a walk counts as one of its device's accesses in flight: there is room for the access whenever the walk ends
abbrev pub WalksHaveRoom : Type 0
WalksHaveRoom = (state : SteppedState) (id : ℕ) (walk : Walk) (device : Device) → IsReachedByLoads state → state.walks id ≡ Some walk → IsPlugged state.ledger id device
    → length device.in_flight < state.ledger.limits.in_flight

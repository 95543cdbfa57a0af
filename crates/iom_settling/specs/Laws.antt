-- What each event of settling gives, over the parts of a world: how much is left to be done becomes less by it, and in the end no ticket is unconfirmed.
-- Each speaks of parts that keep their invariant before and after the event, of drivers that keep theirs, and of an event that does what `Effect` says. The last law is of
-- the ledger machine alone.
use Rattle.std.specs.Prelude.{◌≡◌, ◌≢◌, ◌⊎◌, ℕ, ◌+◌, ◌*◌, ◌^◌, ◌<◌, ◌≤◌, true, List, [], ◌∷◌, length, None, Some, Result}
use Rattle.iom_command_queue.specs.declared.command.Command.{Command}
use Rattle.iom_driver.specs.Fences.{last_fence}
use Rattle.iom_driver.specs.Restarts.{all_requeued, QueuesRestart}
use Rattle.iom_fabric.specs.declared.fabric.OnLink.{OnLink}
use Rattle.iom_inflight.specs.Flights.{count_all, first_busy}
use Rattle.iom_inflight.specs.Invariant.{AreFlights}
use Rattle.iom_iommu.specs.Parts.{flights_of, mmio}
use Rattle.iom_base.specs.declared.refusal.Refusal.{Refusal}
use Rattle.iom_machine.specs.declared.outcome.Outcome.{Outcome}
use Rattle.iom_machine.specs.declared.outcome.Outcome.TheVariants as outcome
use Rattle.iom_machine.specs.declared.outcome.CommandName.TheVariants as names
use Rattle.iom_machine.specs.declared.outcome.Fetched.TheVariants as tells
use Rattle.iom_machine.specs.declared.state.State.{State}
use Rattle.iom_machine.specs.Laws.{IsReached}
use Rattle.iom_machine.specs.PowerOn.{model_limits}
use Rattle.iom_world_effects.specs.Commits.{CommitsAccess}
use Rattle.iom_world_effects.specs.Deliveries.{DeliversMessage}
use Rattle.iom_world_effects.specs.Effect.{name_of_command, FetchesNext, PollsTickets}
use Rattle.iom_world_effects.specs.Parts.{Parts}
use Rattle.iom_world_effects.specs.Invariant.{PartsInvariant}
use Rattle.iom_world_effects.specs.Unchanged.{waiting_in}
use Rattle.iom_world_effects.proofs.DriverLemmas.{DriverInvariant}
use Rattle.iom_settling.specs.CatchingUp.{NothingIsInFlight, CatchesUp, HasCaughtUp}
use Rattle.iom_settling.specs.Commands.{requests_by, requests_among}
use Rattle.iom_settling.specs.Idle.{waiting_by}
use Rattle.iom_settling.specs.Settles.{Settles}
use Rattle.iom_settling.specs.Weights.{weights}

-- COMMITS. Of the first device that has something in flight one access is made, the first in turn, and so there is one less; at most 128 are in flight, and where
-- nobody has something in flight, nothing is.
abbrev pub CommitsMakeOne : Type 0
CommitsMakeOne = (old new : Parts) (events id : ℕ) (reply : Outcome) → PartsInvariant old events → AreFlights (flights_of old.iommu)
    → first_busy (flights_of old.iommu).rows ≡ Some id → CommitsAccess old id reply new
    → (waiting_by (flights_of old.iommu).rows ≡ id ∷ waiting_by (flights_of new.iommu).rows)
    × (count_all (flights_of new.iommu).rows + 1 ≡ count_all (flights_of old.iommu).rows)

abbrev pub AtMost128 : Type 0
AtMost128 = (parts : Parts) → AreFlights (flights_of parts.iommu) → count_all (flights_of parts.iommu).rows ≤ 128

abbrev pub NobodyIsBusy : Type 0
NobodyIsBusy = (parts : Parts) → first_busy (flights_of parts.iommu).rows ≡ None → NothingIsInFlight parts

-- DELIVERIES. Each has a reply at most, and replies have none. Nothing that was idle isn't, and the driver is the same.
pub record DeliversLighter (old new : Parts) : Type 0 where
  pub lighter : weights new.fabric + 1 ≤ weights old.fabric
  pub idle : NothingIsInFlight old → NothingIsInFlight new
  pub driver : new.driver ≡ old.driver

abbrev pub DeliveriesGetLighter : Type 0
DeliveriesGetLighter = (old new : Parts) (reply : Outcome) (on : OnLink) (others : List OnLink) → old.fabric ≡ on ∷ others → DeliversMessage old 0 reply new
    → DeliversLighter old new

abbrev pub AtMostTwiceAsMany : Type 0
AtMostTwiceAsMany = (fabric : List OnLink) → weights fabric ≤ 2 * length fabric

-- A RESTART, where nothing is in flight and no message under way.
abbrev pub RestartsCatchUp : Type 0
RestartsCatchUp = (old new : Parts) (events later : ℕ) → PartsInvariant old events → PartsInvariant new later → DriverInvariant old.driver → NothingIsInFlight old → old.fabric ≡ []
    → QueuesRestart mmio old.driver old.memory old.iommu new.driver new.memory new.iommu → new.devices ≡ old.devices → new.fabric ≡ old.fabric
    → CatchesUp new (last_fence old.driver + 1) (all_requeued old.driver.devices)

-- it queues 48 commands before its fence at most, and 16 of them at most are requests to invalidate
abbrev pub FewAreRequeued : Type 0
FewAreRequeued = (parts : Parts) → DriverInvariant parts.driver
    → (length (all_requeued parts.driver.devices) ≤ 48) × (requests_among (all_requeued parts.driver.devices) ≤ 16)

-- FETCHES. A command before the fence is done, and at most one message is sent for it.
pub record FetchesOne (old new : Parts) (number : ℕ) (command : Command) (commands : List Command) (reply : Outcome) : Type 0 where
  pub reply_is : reply ≡ outcome.Fetched (tells.Did (name_of_command command))
  pub rest : CatchesUp new number commands
  pub heavier : weights new.fabric ≡ weights old.fabric + 2 * requests_by command

abbrev pub FetchesDoOne : Type 0
FetchesDoOne = (old new : Parts) (events number : ℕ) (command : Command) (commands : List Command) (reply : Outcome) → PartsInvariant old events → DriverInvariant old.driver
    → CatchesUp old number (command ∷ commands) → FetchesNext old reply new → FetchesOne old new number command commands reply

-- the fence waits, where messages are under way, and nothing changes
pub record FenceWaits (old new : Parts) (number : ℕ) (reply : Outcome) : Type 0 where
  pub reply_is : reply ≡ outcome.Fetched tells.Waiting
  pub still : CatchesUp new number []
  pub fabric : new.fabric ≡ old.fabric
  pub under_way : old.fabric ≢ []

-- or it is done
pub record FenceWasDone (new : Parts) (number : ℕ) (reply : Outcome) : Type 0 where
  pub reply_is : reply ≡ outcome.Fetched (tells.Did names.IofenceC)
  pub done : HasCaughtUp new number

abbrev pub FencesEnd : Type 0
FencesEnd = (old new : Parts) (events number : ℕ) (reply : Outcome) → number < 2 ^ 32 → PartsInvariant old events → DriverInvariant old.driver
    → CatchesUp old number [] → FetchesNext old reply new → FenceWaits old new number reply ⊎ FenceWasDone new number reply

-- then the queue is empty
abbrev pub FetchesFindNone : Type 0
FetchesFindNone = (old new : Parts) (events number : ℕ) (reply : Outcome) → PartsInvariant old events → DriverInvariant old.driver → HasCaughtUp old number → FetchesNext old reply new
    → (reply ≡ outcome.Fetched tells.Empty) × HasCaughtUp new number

-- A DELIVERY MEANWHILE keeps all of this. (The queue is as it was: that is said of each event by `KeepsCommands`.)
abbrev pub DeliveriesCatchUp : Type 0
DeliveriesCatchUp = (old new : Parts) (events later number : ℕ) (commands : List Command) (reply : Outcome) (on : OnLink) (others : List OnLink) → PartsInvariant old events → PartsInvariant new later
    → CatchesUp old number commands → old.fabric ≡ on ∷ others → DeliversMessage old 0 reply new → waiting_in new ≡ waiting_in old → CatchesUp new number commands

-- THE POLL
abbrev pub PollsConfirmAll : Type 0
PollsConfirmAll = (old new : Parts) (number : ℕ) (reply : Outcome) → HasCaughtUp old number → DriverInvariant old.driver → DriverInvariant new.driver → old.driver.started ≡ true
    → PollsTickets old reply new → new.driver.confirmed ≡ new.driver.given

-- EVERY STATE SETTLES. From each state that the ledger machine reaches with the model's limits there is an answer, and a state that settling may leave with it. Where a ticket is
-- unconfirmed this doesn't say which answer.
abbrev pub EveryStateSettles : Type 0
EveryStateSettles = (state : State) → state.limits ≡ model_limits → IsReached state → (answer : Result ℕ Refusal) × (next : State) × Settles state answer next

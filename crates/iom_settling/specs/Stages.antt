-- How far settling is, and what it answers in the end (`Settled`). All but that is for its loops alone.
use Rattle.std.specs.Prelude.{◌≡◌, ◌⊎◌, ℕ, ◌+◌, ◌*◌, ◌<◌, ◌≤◌, nat_lt, ⊤, true, false, List, [], ◌∷◌, ◌++◌, length, map, Option, None, Some, Result, Ok, Err}
use Rattle.iom_command_queue.specs.declared.command.Command.{Command}
use Rattle.iom_driver.specs.Fences.{last_fence}
use Rattle.iom_inflight.specs.Flights.{count_all}
use Rattle.iom_iommu.specs.Parts.{flights_of}
use Rattle.iom_base.specs.declared.refusal.Refusal.{Refusal}
use Rattle.iom_base.specs.declared.refusal.Refusal.TheVariants.{NumbersUsedUp}
use Rattle.iom_machine.specs.declared.event.Event.{Event}
use Rattle.iom_machine.specs.declared.event.Event.TheVariants as events
use Rattle.iom_machine.specs.declared.outcome.Outcome.{Outcome}
use Rattle.iom_machine.specs.declared.outcome.Outcome.TheVariants as outcome
use Rattle.iom_machine.specs.declared.outcome.Fetched.{Fetched}
use Rattle.iom_machine.specs.declared.outcome.Fetched.TheVariants as tells
use Rattle.iom_world_effects.specs.Parts.{Parts}
use Rattle.iom_settling.specs.declared.reply.FetchReply.{FetchReply}
use Rattle.iom_settling.specs.declared.reply.FetchReply.TheVariants.{Waits, Empty, Other}
use Rattle.iom_settling.specs.CatchingUp.{NothingIsInFlight, CatchesUp, HasCaughtUp}
use Rattle.iom_settling.specs.Commands.{requests_among}
use Rattle.iom_settling.specs.Idle.{waiting_by}
use Rattle.iom_settling.specs.Kinds.{AreAll, IsDelivery}
use Rattle.iom_settling.specs.Settles.{AreBehindFetch, AreBehindCommits, AreInSettlingOrder}
use Rattle.iom_settling.specs.Went.{Went}
use Rattle.iom_settling.specs.Weights.{weights}

-- what settling wants to know of an outcome
abbrev pub brief : Outcome → FetchReply
brief (outcome.Fetched tells.Waiting) = Waits
brief (outcome.Fetched tells.Empty) = Empty
brief _ = Other

-- these commands are left, and the events so far with those that they still need are few
pub record IsInQueue (parts : Parts) (so_far : ℕ) : Type 0 where
  pub commands : List Command
  pub catches : CatchesUp parts (last_fence parts.driver) commands
  pub few : so_far + length commands + weights parts.fabric + 2 * requests_among commands ≤ 80

-- the fence alone is left, and waits for nothing
pub record IsAtFence (parts : Parts) (so_far : ℕ) : Type 0 where
  pub catches : CatchesUp parts (last_fence parts.driver) []
  pub quiet : parts.fabric ≡ []
  pub few : so_far ≤ 81

-- nothing is left
pub record IsBehind (parts : Parts) (so_far : ℕ) : Type 0 where
  pub done : HasCaughtUp parts (last_fence parts.driver)
  pub few : so_far ≤ 82

-- one of the three
abbrev pub IsInProgress : Parts → ℕ → Type 0
IsInProgress parts so_far = IsInQueue parts so_far ⊎ IsAtFence parts so_far ⊎ IsBehind parts so_far

-- after a fetch, by what it told: the fence waits; or the queue is empty; or a command was done
abbrev pub IsAfter : FetchReply → Parts → ℕ → Type 0
IsAfter Waits parts so_far = CatchesUp parts (last_fence parts.driver) [] × (so_far + weights parts.fabric ≤ 81) × (weights parts.fabric ≤ 80)
IsAfter Empty parts so_far = HasCaughtUp parts (last_fence parts.driver) × (so_far ≤ 83)
IsAfter Other parts so_far = IsInProgress parts so_far

-- THE ORDER OF EVENTS, part by part

-- whose accesses are in flight, device by device in the order of plugging: its id once for each of them
abbrev pub flights_by : Parts → List ℕ
flights_by parts = waiting_by (flights_of parts.iommu).rows

-- a commit of each of them
abbrev pub commits_of : Parts → List Event
commits_of parts = map events.Commit (flights_by parts)

-- exactly these commits
abbrev pub AreCommitsOf : Parts → List Event → List Outcome → Type 0
AreCommitsOf parts all outcomes = all ≡ commits_of parts

-- deliveries of the oldest message
abbrev pub AreDeliveries : List Event → List Outcome → Type 0
AreDeliveries all outcomes = AreAll IsDelivery all

-- one round: a fetch of a command that has to wait, and deliveries; or a fetch that does a command
abbrev pub AreRound : List Event → List Outcome → Type 0
AreRound (events.Fetch ∷ later) (outcome.Fetched tells.Waiting ∷ outcomes) = AreDeliveries later outcomes
AreRound (events.Fetch ∷ []) (outcome.Fetched (tells.Did name) ∷ []) = ⊤
AreRound _ _ = ⊥

-- what may stand between a restart and a fetch, whatever is behind that fetch
abbrev pub AwaitFetch : List Event → List Outcome → Type 0
AwaitFetch all outcomes = (next : Fetched) (later : List Event) (more : List Outcome) → AreBehindFetch next later more
    → AreBehindCommits true (events.Restart ∷ (all ++ events.Fetch ∷ later)) (outcome.Done ∷ (outcomes ++ outcome.Fetched next ∷ more))

-- what may stand between a restart and the poll
abbrev pub AwaitPoll : List Event → List Outcome → Type 0
AwaitPoll all outcomes = (polled : Outcome) → AreBehindCommits true (events.Restart ∷ (all ++ events.Poll ∷ [])) (outcome.Done ∷ (outcomes ++ polled ∷ []))

-- THE LOOPS, over whatever takes events

-- so many commits were made, which are all but those of what is still in flight; and that is little enough
pub record IsCommitting {S : Type 0} (parts : S → Parts) (count_of : S → ℕ) (happens : S → Event → Outcome → S → Type 0) (first now : S) (events : ℕ) : Type 0 where
  pub went : Went happens (λ all outcomes. all ++ commits_of (parts now) ≡ commits_of (parts first)) first events now
  pub driver : (parts now).driver ≡ (parts first).driver
  pub left : events + count_all (flights_of (parts now).iommu).rows ≤ 128
  pub counted : count_of now ≡ count_of first + events

-- so many messages were delivered, and what is under way weighs little enough
pub record IsDelivering {S : Type 0} (parts : S → Parts) (count_of : S → ℕ) (happens : S → Event → Outcome → S → Type 0) (first now : S) (events : ℕ) : Type 0 where
  pub went : Went happens AreDeliveries first events now
  pub left : events + weights (parts now).fabric ≤ weights (parts first).fabric
  pub idle : NothingIsInFlight (parts first) → NothingIsInFlight (parts now)
  pub driver : (parts now).driver ≡ (parts first).driver
  pub catches : (number : ℕ) (commands : List Command) → CatchesUp (parts first) number commands → CatchesUp (parts now) number commands
  pub counted : count_of now ≡ count_of first + events

-- the queue is worked off, and so many events that took
pub record IsWorking {S : Type 0} (parts : S → Parts) (count_of : S → ℕ) (happens : S → Event → Outcome → S → Type 0) (first now : S) (events : ℕ) : Type 0 where
  pub went : Went happens AwaitFetch first events now
  pub stage : IsInProgress (parts now) events
  pub counted : count_of now ≡ count_of first + events

-- what follows a fetch, by what it told: the deliveries that the fence waits for, or no event
abbrev pub FollowsFetch : {S : Type 0} → (S → Parts) → (S → ℕ) → (S → Event → Outcome → S → Type 0) → S → ℕ → FetchReply → Option ℕ → S → Type 0
FollowsFetch parts counted happens old so_far Waits (Some now) new =
    (more : ℕ) × (now ≡ so_far + more) × Went happens AreDeliveries old more new × (counted new ≡ counted old + more) × IsInProgress (parts new) now
FollowsFetch parts counted happens old so_far Other (Some now) new = (new ≡ old) × (now ≡ so_far) × IsInProgress (parts new) now
FollowsFetch parts counted happens old so_far Empty None new = (new ≡ old) × HasCaughtUp (parts new) (last_fence (parts new).driver) × (so_far ≤ 83)
FollowsFetch parts counted happens old so_far _ _ new = ⊥

-- a fetch, with the deliveries that it waits for: with these the events so far, or none where the queue was found empty
abbrev pub FetchedOnce : {S : Type 0} → (S → Parts) → (S → ℕ) → (S → Event → Outcome → S → Type 0) → S → ℕ → Option ℕ → S → Type 0
FetchedOnce parts counted happens old so_far (Some now) new =
    (more : ℕ) × (now ≡ so_far + more) × (1 ≤ more) × Went happens AreRound old more new × (counted new ≡ counted old + more) × IsInProgress (parts new) now
FetchedOnce parts counted happens old so_far None new =
    happens old events.Fetch (outcome.Fetched tells.Empty) new × (counted new ≡ counted old + 1) × HasCaughtUp (parts new) (last_fence (parts new).driver) × (so_far ≤ 82)

-- WHAT SETTLING ANSWERS
abbrev pub Settled : {S : Type 0} → (S → Parts) → (S → Event → Outcome → S → Type 0) → S → Result ℕ Refusal → S → Type 0
Settled parts happens old (Ok count) new =
    Went happens (AreInSettlingOrder (nat_lt (parts old).driver.confirmed (parts old).driver.given) (flights_by (parts old))) old count new
    × (count ≤ 341) × NothingIsInFlight (parts new) × ((parts new).driver.confirmed ≡ (parts new).driver.given)
Settled parts happens old (Err why) new =
    (why ≡ NumbersUsedUp) × ((count : ℕ) × Went happens (AreInSettlingOrder false (flights_by (parts old))) old count new)
    × (NothingIsInFlight (parts new) × ((parts new).fabric ≡ []))
    × ((parts new).driver.confirmed < (parts new).driver.given) × (4294967295 ≤ last_fence (parts new).driver)

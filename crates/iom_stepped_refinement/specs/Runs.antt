-- A run of a world in which requests are under way is a run of the ledger machine with walks.
use Rattle.std.specs.Prelude.{◌≡◌, ℕ, List, [], ◌∷◌, length, None, Contains, ⊤, ◌+◌}
use Rattle.iom_driver.specs.Ready.{IsReady}
use Rattle.iom_driver.specs.StateOf.{state_of}
use Rattle.iom_driver.specs.declared.driver.Driver.{Driver}
use Rattle.iom_iommu.specs.Parts.{flights_of, registers_of}
use Rattle.iom_iommu.specs.Stepped.{HasRoomAtEnd}
use Rattle.iom_machine.specs.Disks.{disks_after}
use Rattle.iom_machine.specs.PowerOn.{opening}
use Rattle.iom_machine.specs.declared.state.Limits.{Limits}
use Rattle.iom_machine.specs.declared.state.State.{State}
use Rattle.iom_world_effects.specs.Invariant.{PartsInvariant}
use Rattle.iom_world_effects.specs.Shows.{PartsShow}
use Rattle.iom_stepped_machine.specs.Laws.{IsReachedByLoads, without_walks}
use Rattle.iom_stepped_machine.specs.Machine.{Answer, Load, SteppedEvent, SteppedOutcome, SteppedRun, SteppedState, SteppedStep, Whole}
use Rattle.iom_stepped_refinement.specs.Effect.{SteppedEffect}
use Rattle.iom_stepped_refinement.specs.Shows.{SteppedShow}
use Rattle.iom_walks.specs.Invariant.{AreWalks}
use Rattle.iom_walks.specs.Walks.{WalkRow}
use Rattle.iom_world_effects.specs.Below.{AddressFits}
use Rattle.iom_world_effects.specs.Parts.{Parts}
use Rattle.iom_world_walks.specs.Events.{NamesFit}
use Rattle.iom_world_walks.specs.Invariant.{SteppedInvariant}

-- a world at a moment: its parts, its requests under way, and the disks that were never in a device, after so many events
pub record Moment : Type 0 where
  pub parts : Parts
  pub rows : List WalkRow
  pub disks : List ℕ
  pub events : ℕ

-- what calls and types say of its parts at each moment: its driver is ready, of each device one request at most is under way, and there is room for it when it ends
pub record IsOfCode (moment : Moment) : Type 0 where
  pub driver : Driver
  pub state : moment.parts.driver ≡ state_of driver
  pub ready : IsReady moment.parts.driver moment.parts.memory (registers_of moment.parts.iommu)
  pub walks : AreWalks moment.rows
  pub room : (id : ℕ) → HasRoomAtEnd (flights_of moment.parts.iommu) moment.rows id

-- and all is true of it that is true of a world
pub record IsSound (moment : Moment) : Type 0 where
  pub code : IsOfCode moment
  pub invariants : SteppedInvariant moment.parts moment.rows moment.events

-- an event's addresses are of the 64-bit address space
abbrev pub EventFits : SteppedEvent → Type 0
EventFits (Whole event) = AddressFits event
EventFits (Load id) = ⊤

-- which disks were never in a device, after the event
abbrev pub disks_then : SteppedEvent → SteppedOutcome → List ℕ → List ℕ
disks_then (Whole event) (Answer reply) disks = disks_after event reply disks
disks_then event outcome disks = disks

-- AN EVENT leads from one moment to the next
pub record LeadsTo (old : Moment) (event : SteppedEvent) (outcome : SteppedOutcome) (new : Moment) : Type 0 where
  pub fits : EventFits event
  pub effect : SteppedEffect old.disks old.parts old.rows event outcome new.parts new.rows
  pub disks : new.disks ≡ disks_then event outcome old.disks
  pub size : length new.parts.memory ≡ length old.parts.memory
  pub counted : new.events ≡ old.events + 1

-- THE STATE SHOWS THE MOMENT
abbrev pub ShowsMoment : Moment → SteppedState → Type 0
ShowsMoment moment state = SteppedShow moment.parts moment.rows state × (state.ledger.disks ≡ moment.disks)

-- EACH EVENT IS A STEP
abbrev pub EventsAreSteps : Type 0
EventsAreSteps = (old new : Moment) (event : SteppedEvent) (outcome : SteppedOutcome) (state : SteppedState) → IsSound old → IsSound new → LeadsTo old event outcome new
    → ShowsMoment old state → (next : SteppedState) × SteppedStep state event outcome next × ShowsMoment new next

-- what an event names is a page or an address of the 64-bit address space
abbrev pub EventNamesFit : SteppedEvent → Type 0
EventNamesFit (Whole event) = NamesFit event
EventNamesFit (Load id) = ⊤

-- ALL STAYS TRUE at each event
abbrev pub EventsKeepFacts : Type 0
EventsKeepFacts = (old new : Moment) (event : SteppedEvent) (outcome : SteppedOutcome) → IsSound old → IsOfCode new → EventNamesFit event → LeadsTo old event outcome new → IsSound new

-- these events, so answered, lead from moment to moment
abbrev pub Goes : Moment → List SteppedEvent → List SteppedOutcome → Moment → Type 0
Goes old [] [] new = new ≡ old
Goes old (event ∷ events) (outcome ∷ outcomes) new =
    (mid : Moment) × IsOfCode mid × EventNamesFit event × LeadsTo old event outcome mid × Goes mid events outcomes new
Goes old events outcomes new = ⊥

-- A RUN OF A WORLD IS A RUN, after which all is true still
abbrev pub RunsAreRuns : Type 0
RunsAreRuns = (old new : Moment) (events : List SteppedEvent) (outcomes : List SteppedOutcome) (state : SteppedState) → IsSound old → Goes old events outcomes new → ShowsMoment old state
    → (next : SteppedState) × SteppedRun state events outcomes next × ShowsMoment new next × IsSound new

-- WHAT IS REACHED FROM POWER-ON is reached by the ledger machine with walks: of it the reclaim theorem speaks
abbrev pub RunsAreReached : Type 0
RunsAreReached = (old new : Moment) (events : List SteppedEvent) (outcomes : List SteppedOutcome) (limits : Limits) (frames levels : ℕ) (disks : List ℕ)
    → IsSound old → ShowsMoment old (without_walks (opening limits frames levels disks)) → Goes old events outcomes new
    → (state : SteppedState) × IsReachedByLoads state × ShowsMoment new state × IsSound new

-- nothing is under way
abbrev pub AreIdle : List WalkRow → Type 0
AreIdle rows = (row : WalkRow) → Contains rows row → row.under_way ≡ None

-- A WORLD IN WHICH NOTHING IS UNDER WAY has all that is true of a world without walks, and is shown as that is
abbrev pub IdleWorldsAreSound : Type 0
IdleWorldsAreSound = (parts : Parts) (rows : List WalkRow) (events : ℕ) → PartsInvariant parts events → AreIdle rows → SteppedInvariant parts rows events

abbrev pub IdleWorldsAreShown : Type 0
IdleWorldsAreShown = (parts : Parts) (rows : List WalkRow) (state : State) → PartsShow parts state → AreIdle rows → SteppedShow parts rows (without_walks state)

-- AND WHATEVER IS UNDER WAY, all is true of its parts that is true of a world without walks
abbrev pub WalksKeepFacts : Type 0
WalksKeepFacts = (parts : Parts) (rows : List WalkRow) (events : ℕ) → SteppedInvariant parts rows events → PartsInvariant parts events

-- What is true of requests that are under way in a world, whatever happens there.
use Rattle.std.specs.Prelude.{◌≡◌, ◌≢◌, ℕ, ◌^◌, ◌<◌, List, length, true}
use Rattle.iom_base.specs.declared.access.Access.{Access}
use Rattle.iom_driver.specs.Ready.{IsReady}
use Rattle.iom_driver.specs.declared.driver.Driver.{Driver}
use Rattle.iom_driver.specs.StateOf.{state_of}
use Rattle.iom_iommu.specs.Parts.{flights_of, registers_of, slots_of}
use Rattle.iom_iommu.specs.Stepped.{BeginsAnewAfter, BeginsRequest, LoadsNext, begins_anew}
use Rattle.iom_iommu.specs.declared.begun.Begun.{Begun}
use Rattle.iom_iommu.specs.declared.begun.Load.{Load}
use Rattle.iom_machine.specs.declared.event.Event.{Event}
use Rattle.iom_machine.specs.declared.event.Event.TheVariants.{Fetch}
use Rattle.iom_machine.specs.declared.outcome.Outcome.{Outcome}
use Rattle.iom_walk_coherence.specs.Walks.{Walk}
use Rattle.iom_walks.specs.Invariant.{AreWalks}
use Rattle.iom_walks.specs.Walks.{WalkRow}
use Rattle.iom_world_effects.specs.Effect.{Effect, FetchesNext}
use Rattle.iom_world_effects.specs.Invariant.{InvariantWith}
use Rattle.iom_world_effects.specs.Parts.{Parts}
use Rattle.iom_world_walks.specs.Events.{IsCounted, LeavesRequests, NamesFit}
use Rattle.iom_world_walks.specs.Invariant.{SteppedInvariant}
use Rattle.iom_world_walks.specs.Leaving.{LeavesTables}
use Rattle.iom_world_walks.specs.Standing.{RowsStand}

-- Requests that are under way stand where they stood, where tables and directory are left so, and the facts on walks hold afterwards.
abbrev pub RequestsStandStill : Type 0
RequestsStandStill = (old new : Parts) (events : ℕ) (under_way : List Walk) (rows : List WalkRow) → old.driver.started ≡ true
    → LeavesTables old.driver old.memory new.driver new.memory → InvariantWith under_way new events
    → RowsStand old.driver old.memory under_way rows → RowsStand new.driver new.memory under_way rows

-- So they do after each event of a world: no table goes or moves in which a request stands, and no page of the directory. `walks` are under way before it, and of
-- these requests the walks are so after it: others may have been given up, or begun anew.
abbrev pub RequestsStandAfterEvents : Type 0
RequestsStandAfterEvents = (driver : Driver) (disks : List ℕ) (old new : Parts) (events later : ℕ) (event : Event) (answered : Outcome) (walks under_way : List Walk) (rows : List WalkRow)
    → old.driver ≡ state_of driver → InvariantWith walks old events → length new.memory ≡ length old.memory → Effect disks old event answered new
    → InvariantWith under_way new later → RowsStand old.driver old.memory under_way rows → RowsStand new.driver new.memory under_way rows

-- The three events of a request are events of a world: IOMMU and rows change as its calls say, memory by a fault record alone, and all else stays.

-- nothing of driver, devices and messages changes, and fewer accesses were accepted than events came
pub record IsOfRequest (old new : Parts) (events : ℕ) : Type 0 where
  pub driver : new.driver ≡ old.driver
  pub devices : new.devices ≡ old.devices
  pub fabric : new.fabric ≡ old.fabric
  pub below : (flights_of old.iommu).so_far < events

-- A REQUEST BEGINS, or is answered at once, and the invariant stays.
abbrev pub BeginsKeepInvariant : Type 0
BeginsKeepInvariant = (driver : Driver) (old new : Parts) (events id : ℕ) (rows new_rows : List WalkRow) (access : Access) (begun : Begun) → old.driver ≡ state_of driver
    → SteppedInvariant old rows events → IsOfRequest old new events → access.address < 2 ^ 64
    → BeginsRequest old.memory old.iommu rows id access begun new.memory new.iommu new_rows → SteppedInvariant new new_rows events

-- IT MAKES A LOAD, and goes on or is answered, and the invariant stays.
abbrev pub LoadsKeepInvariant : Type 0
LoadsKeepInvariant = (driver : Driver) (old new : Parts) (events id : ℕ) (rows new_rows : List WalkRow) (load : Load) → old.driver ≡ state_of driver → AreWalks rows
    → SteppedInvariant old rows events → IsOfRequest old new events
    → LoadsNext old.memory old.iommu rows id load new.memory new.iommu new_rows → SteppedInvariant new new_rows events

-- ALL BEGIN ANEW where a fetch does an IOTINVAL or an IODIR, and the invariant stays.
abbrev pub FetchesKeepInvariant : Type 0
FetchesKeepInvariant = (driver : Driver) (old new : Parts) (events : ℕ) (reply : Outcome) (rows new_rows : List WalkRow) → old.driver ≡ state_of driver
    → SteppedInvariant old rows events → (slots_of old.iommu).last < events → (fetches : FetchesNext old reply new) → length new.memory ≡ length old.memory
    → BeginsAnewAfter (begins_anew fetches.answer) (registers_of new.iommu).ddtp rows new_rows → SteppedInvariant new new_rows events

-- EACH OTHER EVENT leaves requests as they are, or gives those of one device up, and the invariant stays. The driver is ready then, as each of its calls says, and no
-- event makes memory larger or smaller.
abbrev pub EventsKeepInvariant : Type 0
EventsKeepInvariant = (driver : Driver) (disks : List ℕ) (old new : Parts) (events : ℕ) (event : Event) (answered : Outcome) (rows new_rows : List WalkRow)
    → old.driver ≡ state_of driver → SteppedInvariant old rows events → IsCounted old events → event ≢ Fetch → NamesFit event
    → IsReady new.driver new.memory (registers_of new.iommu) → length new.memory ≡ length old.memory
    → Effect disks old event answered new → LeavesRequests old event answered rows new_rows → SteppedInvariant new new_rows events

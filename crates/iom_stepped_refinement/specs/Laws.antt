-- What a world in which requests are under way has in common with the ledger machine with walks in it.
use Rattle.std.specs.Prelude.{◌≡◌, ◌≢◌, ℕ, ◌^◌, ◌<◌, ◌≤◌, ◌⊎◌, Bool, List, length, IsSome, Some, None, ⊤}
use Rattle.iom_base.specs.Accesses.{IsWithinPage, read_of, write_of}
use Rattle.iom_base.specs.Sizes.{in_flight_limit}
use Rattle.iom_base.specs.declared.access.Access.{Access}
use Rattle.iom_base.specs.declared.refusal.Refusal.{Refusal}
use Rattle.iom_base.specs.DeviceKinds.{forges, is_any_kind, is_block_device, sends_through_cache}
use Rattle.iom_device.specs.Caches.{IsAble, kind_in}
use Rattle.iom_base.specs.declared.device_kind.DeviceKind.{DeviceKind}
use Rattle.iom_driver.specs.declared.driver.Driver.{Driver}
use Rattle.iom_driver.specs.StateOf.{state_of}
use Rattle.iom_iommu.specs.Parts.{flights_of, registers_of}
use Rattle.iom_iommu.specs.Stepped.{BeginsAnewAfter, BeginsRequest, HasRoomAtEnd, LoadsNext, begins_anew, places_taken}
use Rattle.iom_iommu.specs.declared.begun.Begun.{Begun}
use Rattle.iom_iommu.specs.declared.begun.Load as iommu
use Rattle.iom_machine.specs.declared.event.Event.{Event}
use Rattle.iom_machine.specs.declared.event.Event.TheVariants.{Fetch, ReadThroughCache, ReadTranslated, Step, WriteThroughCache, WriteTranslated}
use Rattle.iom_machine.specs.declared.outcome.BlockStep.TheVariants.{Waiting}
use Rattle.iom_machine.specs.declared.outcome.Outcome.{Outcome}
use Rattle.iom_machine.specs.declared.outcome.Outcome.TheVariants.{BadSpan, Busy, Refused, Stepped}
use Rattle.iom_stepped_machine.specs.Machine.{SteppedState, SteppedStep, Whole, Load, Answer, asker_of}
use Rattle.iom_stepped_machine.specs.Walks.{Asking, Begins, Reads, Writes, access_of, event_of}
use Rattle.iom_stepped_refinement.specs.Shows.{Asks, SteppedShow, told_at_begin, told_at_load}
use Rattle.iom_walks.specs.Invariant.{AreWalks}
use Rattle.iom_walks.specs.Walks.{WalkRow, row_of, under_way_of}
use Rattle.iom_world_effects.specs.Below.{AddressFits}
use Rattle.iom_world_effects.specs.Effect.{Effect, FetchesNext}
use Rattle.iom_world_effects.specs.Parts.{Parts}
use Rattle.iom_world_walks.specs.Events.{GivesUp}
use Rattle.iom_world_walks.specs.Invariant.{SteppedInvariant}
use Rattle.iom_world_walks.specs.Laws.{IsOfRequest}

-- A LOAD IS A STEP, as it is told: of a device that is there
abbrev pub LoadsAreSteps : Type 0
LoadsAreSteps = (driver : Driver) (old new : Parts) (events id : ℕ) (kind : DeviceKind) (rows new_rows : List WalkRow) (load : iommu.Load) (state : SteppedState)
    → old.driver ≡ state_of driver → AreWalks rows → SteppedInvariant old rows events → IsOfRequest old new events → HasRoomAtEnd (flights_of old.iommu) rows id
    → kind_in old.devices id ≡ Some kind → LoadsNext old.memory old.iommu rows id load new.memory new.iommu new_rows → SteppedShow old rows state
    → (next : SteppedState) × SteppedStep state (Load id) (told_at_load load) next × SteppedShow new new_rows next

-- a block device whose access is under way waits, and asks for no other
abbrev pub AsksAlone : List WalkRow → ℕ → Asking → Type 0
AsksAlone rows id (Reads address len) = ⊤
AsksAlone rows id (Writes address bytes) = ⊤
AsksAlone rows id (Begins access) = under_way_of rows id ≡ None

-- A REQUEST THAT BEGINS IS A STEP, as it is told: it is under way, is answered at once, or is refused
abbrev pub BeginsAreSteps : Type 0
BeginsAreSteps = (driver : Driver) (old new : Parts) (events id : ℕ) (rows new_rows : List WalkRow) (asking : Asking) (begun : Begun) (state : SteppedState)
    → old.driver ≡ state_of driver → SteppedInvariant old rows events → IsOfRequest old new events → (access_of asking).address < 2 ^ 64
    → Asks old.devices id asking → AsksAlone rows id asking
    → BeginsRequest old.memory old.iommu rows id (access_of asking) begun new.memory new.iommu new_rows → SteppedShow old rows state
    → (next : SteppedState) × SteppedStep state (Whole (event_of id asking)) (told_at_begin begun) next × SteppedShow new new_rows next

-- A BLOCK DEVICE'S STEP that finds its access under way is told as waiting, and nothing changes
abbrev pub WaitsAreSteps : Type 0
WaitsAreSteps = (parts : Parts) (id : ℕ) (rows : List WalkRow) (state : SteppedState) → IsAble is_block_device parts.devices id → IsSome (under_way_of rows id)
    → SteppedShow parts rows state → SteppedStep state (Whole (Step id)) (Answer (Stepped Waiting)) state

-- A FETCH IS A STEP, after which each walk begins anew where the command ends what is cached
abbrev pub FetchesAreSteps : Type 0
FetchesAreSteps = (driver : Driver) (old new : Parts) (events : ℕ) (reply : Outcome) (rows new_rows : List WalkRow) (state : SteppedState)
    → old.driver ≡ state_of driver → SteppedInvariant old rows events → (fetches : FetchesNext old reply new) → length new.memory ≡ length old.memory
    → BeginsAnewAfter (begins_anew fetches.answer) (registers_of new.iommu).ddtp rows new_rows → SteppedShow old rows state
    → (next : SteppedState) × SteppedStep state (Whole Fetch) (Answer reply) next × SteppedShow new new_rows next

-- what is under way of the device is as it was; or nothing was, and nothing is
abbrev pub IsLeft : List WalkRow → List WalkRow → ℕ → Type 0
IsLeft rows new_rows id = (row_of new_rows id ≡ row_of rows id) ⊎ ((under_way_of rows id ≡ None) × (under_way_of new_rows id ≡ None))

-- an event leaves what is under way, but for what it gives up
pub record LeavesRows (old : Parts) (event : Event) (answered : Outcome) (rows new_rows : List WalkRow) : Type 0 where
  pub left : (id : ℕ) → (GivesUp old event answered id → ⊥) → IsLeft rows new_rows id
  pub gone : (id : ℕ) → GivesUp old event answered id → under_way_of new_rows id ≡ None

-- a request by which a device says that its address is translated already, or goes through its own cache: it needs no walk
abbrev pub NeedsNoWalk : Event → Type 0
NeedsNoWalk (ReadTranslated id address len) = ⊤
NeedsNoWalk (WriteTranslated id address bytes) = ⊤
NeedsNoWalk (ReadThroughCache id address len) = ⊤
NeedsNoWalk (WriteThroughCache id address bytes) = ⊤
NeedsNoWalk event = ⊥

-- so the device with the id asks for this access
abbrev pub AsksWith : Event → ℕ → Access → Type 0
AsksWith (ReadTranslated device address len) id access = (device ≡ id) × (read_of address len ≡ access)
AsksWith (WriteTranslated device address bytes) id access = (device ≡ id) × (write_of address bytes ≡ access)
AsksWith (ReadThroughCache device address len) id access = (device ≡ id) × (read_of address len ≡ access)
AsksWith (WriteThroughCache device address bytes) id access = (device ≡ id) × (write_of address bytes ≡ access)
AsksWith event id access = ⊥

-- which kinds of device can
abbrev pub able_for : Event → DeviceKind → Bool
able_for (ReadTranslated device address len) = forges
able_for (WriteTranslated device address bytes) = forges
able_for (ReadThroughCache device address len) = sends_through_cache
able_for (WriteThroughCache device address bytes) = sends_through_cache
able_for event = is_any_kind

-- of a device that asks nothing is under way, of those that ask for an access
abbrev pub AsksBesideNone : List WalkRow → Event → Type 0
AsksBesideNone rows event = (id : ℕ) → asker_of event ≡ Some id → under_way_of rows id ≡ None

-- it needs no walk, and what is under way of its device leaves a place among the eight; one of a bad span needs none
pub record PassesBy (old : Parts) (rows : List WalkRow) (event : Event) (answered : Outcome) : Type 0 where
  pub needs_none : NeedsNoWalk event
  pub not_busy : answered ≢ Busy
  pub room : (id : ℕ) → asker_of event ≡ Some id → (answered ≡ BadSpan) ⊎ (places_taken (flights_of old.iommu) rows id < in_flight_limit)

-- A DEVICE THAT ASKS FOR AN ACCESS is answered as where no walk is under way: none of it is, the event is refused, or passes by
abbrev pub AsksAsEver : Parts → List WalkRow → Event → Outcome → Type 0
AsksAsEver old rows event answered = AsksBesideNone rows event ⊎ ((why : Refusal) × (answered ≡ Refused why)) ⊎ PassesBy old rows event answered

-- EACH OTHER EVENT IS A STEP: it gives up the walks that it gives up, and no others
abbrev pub OthersAreSteps : Type 0
OthersAreSteps = (driver : Driver) (disks : List ℕ) (old new : Parts) (events later : ℕ) (event : Event) (answered : Outcome) (rows new_rows : List WalkRow) (state : SteppedState)
    → old.driver ≡ state_of driver → SteppedInvariant old rows events → SteppedInvariant new new_rows later → AsksAsEver old rows event answered → AddressFits event → event ≢ Fetch
    → length new.memory ≡ length old.memory → state.ledger.disks ≡ disks → Effect disks old event answered new → LeavesRows old event answered rows new_rows → SteppedShow old rows state
    → (next : SteppedState) × SteppedStep state (Whole event) (Answer answered) next × SteppedShow new new_rows next

-- A REQUEST THAT NEEDS NO WALK IS BUSY beside one where what is under way takes the last of the eight places, and nothing changes
abbrev pub BusyIsAStep : Type 0
BusyIsAStep = (parts : Parts) (id : ℕ) (access : Access) (event : Event) (rows : List WalkRow) (state : SteppedState) → IsAble (able_for event) parts.devices id → AsksWith event id access
    → IsSome (under_way_of rows id) → IsWithinPage access → in_flight_limit ≤ places_taken (flights_of parts.iommu) rows id → SteppedShow parts rows state
    → SteppedStep state (Whole event) (Answer Busy) state

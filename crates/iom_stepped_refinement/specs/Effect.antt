-- What each event does to the parts of a world in which requests are under way, one load an event, and to those requests.
use Rattle.std.specs.Prelude.{◌≡◌, ℕ, ◌^◌, ◌<◌, ◌≤◌, ◌⊎◌, List, None, Some, IsSome}
use Rattle.iom_base.specs.Accesses.{IsWithinPage, read_of, write_of}
use Rattle.iom_base.specs.DeviceKinds.{is_block_device}
use Rattle.iom_base.specs.Sizes.{in_flight_limit}
use Rattle.iom_base.specs.declared.access.Access.{Access}
use Rattle.iom_base.specs.declared.device_kind.DeviceKind.{DeviceKind}
use Rattle.iom_base.specs.declared.refusal.Refusal.{Refusal}
use Rattle.iom_base.specs.declared.refusal.Refusal.TheVariants.{NoSuchDevice}
use Rattle.iom_device.specs.Caches.{IsAble, kind_in}
use Rattle.iom_iommu.specs.Parts.{flights_of, registers_of}
use Rattle.iom_iommu.specs.Stepped.{BeginsAnewAfter, BeginsRequest, LoadsNext, begins_anew, places_taken}
use Rattle.iom_iommu.specs.declared.begun.Begun.{Begun}
use Rattle.iom_iommu.specs.declared.begun.Load as iommu
use Rattle.iom_machine.specs.declared.event.Event.{Event}
use Rattle.iom_machine.specs.declared.event.Event.TheVariants as events
use Rattle.iom_machine.specs.declared.outcome.BlockStep.{BlockStep}
use Rattle.iom_machine.specs.declared.outcome.BlockStep.TheVariants.{Waiting}
use Rattle.iom_machine.specs.declared.outcome.Outcome.{Outcome}
use Rattle.iom_machine.specs.declared.outcome.Outcome.TheVariants.{Busy, Refused, Stepped}
use Rattle.iom_stepped_machine.specs.Machine.{Answer, Load, SteppedEvent, SteppedOutcome, Whole, walks_at_steps}
use Rattle.iom_stepped_machine.specs.Walks.{Asking, Begins, Reads, Writes, access_of}
use Rattle.iom_stepped_refinement.specs.Laws.{AsksAlone, AsksAsEver, LeavesRows, able_for}
use Rattle.iom_stepped_refinement.specs.Shows.{Asks, told_at_begin, told_at_load}
use Rattle.iom_walks.specs.Walks.{WalkRow, under_way_of}
use Rattle.iom_world_effects.specs.Effect.{Effect, FetchesNext}
use Rattle.iom_world_effects.specs.Parts.{Parts}

-- nothing changes
abbrev pub AllStays : Parts → List WalkRow → Parts → List WalkRow → Type 0
AllStays old rows new new_rows = (new ≡ old) × (new_rows ≡ rows)

-- nothing but memory, the IOMMU and what is under way
pub record OthersStay (old new : Parts) : Type 0 where
  pub driver : new.driver ≡ old.driver
  pub devices : new.devices ≡ old.devices
  pub fabric : new.fabric ≡ old.fabric

-- A REQUEST BEGINS, of a device that can ask so
pub record BeginsSo (old : Parts) (rows : List WalkRow) (id : ℕ) (asking : Asking) (outcome : SteppedOutcome) (new : Parts) (new_rows : List WalkRow) : Type 0 where
  pub asks : Asks old.devices id asking
  pub fits : (access_of asking).address < 2 ^ 64
  pub alone : AsksAlone rows id asking
  pub begun : Begun
  pub told : outcome ≡ told_at_begin begun
  pub call : BeginsRequest old.memory old.iommu rows id (access_of asking) begun new.memory new.iommu new_rows
  pub stays : OthersStay old new

-- A LOAD, of a device that is there
pub record LoadsSo (old : Parts) (rows : List WalkRow) (id : ℕ) (outcome : SteppedOutcome) (new : Parts) (new_rows : List WalkRow) : Type 0 where
  pub kind : DeviceKind
  pub there : kind_in old.devices id ≡ Some kind
  pub load : iommu.Load
  pub told : outcome ≡ told_at_load load
  pub call : LoadsNext old.memory old.iommu rows id load new.memory new.iommu new_rows
  pub stays : OthersStay old new

-- of one that isn't
pub record LoadsOfNobody (old : Parts) (rows : List WalkRow) (id : ℕ) (outcome : SteppedOutcome) (new : Parts) (new_rows : List WalkRow) : Type 0 where
  pub absent : kind_in old.devices id ≡ None
  pub told : outcome ≡ Answer (Refused NoSuchDevice)
  pub same : AllStays old rows new new_rows

-- A FETCH, after which all requests begin anew, or stay
pub record FetchesSo (old : Parts) (rows : List WalkRow) (outcome : SteppedOutcome) (new : Parts) (new_rows : List WalkRow) : Type 0 where
  pub answered : Outcome
  pub told : outcome ≡ Answer answered
  pub fetches : FetchesNext old answered new
  pub anew : BeginsAnewAfter (begins_anew fetches.answer) (registers_of new.iommu).ddtp rows new_rows

-- AS IN A WORLD WITHOUT WALKS, but for what is given up
pub record HappensSo (disks : List ℕ) (old : Parts) (rows : List WalkRow) (event : Event) (outcome : SteppedOutcome) (new : Parts) (new_rows : List WalkRow) : Type 0 where
  pub answered : Outcome
  pub told : outcome ≡ Answer answered
  pub effect : Effect disks old event answered new
  pub asks : AsksAsEver old rows event answered
  pub leaves : LeavesRows old event answered rows new_rows

-- of a device that can't ask so
abbrev pub RefusedSo : List ℕ → Parts → List WalkRow → Event → SteppedOutcome → Parts → List WalkRow → Type 0
RefusedSo disks old rows event outcome new new_rows = (happens : HappensSo disks old rows event outcome new new_rows) × (why : Refusal) × (happens.answered ≡ Refused why)

-- A BLOCK DEVICE WAITS for its access
pub record WaitsSo (old : Parts) (rows : List WalkRow) (id : ℕ) (outcome : SteppedOutcome) (new : Parts) (new_rows : List WalkRow) : Type 0 where
  pub able : IsAble is_block_device old.devices id
  pub under_way : IsSome (under_way_of rows id)
  pub told : outcome ≡ Answer (Stepped Waiting)
  pub same : AllStays old rows new new_rows

-- a step that begins no walk: of a block device whose accesses the IOMMU walks for, it is one that begins no access
pub record StepsSo (disks : List ℕ) (old : Parts) (rows : List WalkRow) (id : ℕ) (outcome : SteppedOutcome) (new : Parts) (new_rows : List WalkRow) : Type 0 where
  pub happens : HappensSo disks old rows (events.Step id) outcome new new_rows
  pub no_walk : IsAble walks_at_steps old.devices id → (step : BlockStep) × (happens.answered ≡ Stepped step)

-- A REQUEST THAT NEEDS NO WALK finds what is under way in its device's last place
pub record BusySo (old : Parts) (rows : List WalkRow) (id : ℕ) (access : Access) (event : Event) (outcome : SteppedOutcome) (new : Parts) (new_rows : List WalkRow) : Type 0 where
  pub able : IsAble (able_for event) old.devices id
  pub under_way : IsSome (under_way_of rows id)
  pub within : IsWithinPage access
  pub full : in_flight_limit ≤ places_taken (flights_of old.iommu) rows id
  pub told : outcome ≡ Answer Busy
  pub same : AllStays old rows new new_rows

-- BY THE EVENT of the ledger machine
abbrev pub WholeEffect : List ℕ → Parts → List WalkRow → Event → SteppedOutcome → Parts → List WalkRow → Type 0
WholeEffect disks old rows (events.Read id address len) outcome new new_rows =
    BeginsSo old rows id (Reads address len) outcome new new_rows ⊎ RefusedSo disks old rows (events.Read id address len) outcome new new_rows
WholeEffect disks old rows (events.Write id address bytes) outcome new new_rows =
    BeginsSo old rows id (Writes address bytes) outcome new new_rows ⊎ RefusedSo disks old rows (events.Write id address bytes) outcome new new_rows
WholeEffect disks old rows (events.Step id) outcome new new_rows =
    ((access : Access) × BeginsSo old rows id (Begins access) outcome new new_rows) ⊎ WaitsSo old rows id outcome new new_rows ⊎ StepsSo disks old rows id outcome new new_rows
WholeEffect disks old rows events.Fetch outcome new new_rows = FetchesSo old rows outcome new new_rows
WholeEffect disks old rows (events.ReadTranslated id address len) outcome new new_rows =
    BusySo old rows id (read_of address len) (events.ReadTranslated id address len) outcome new new_rows
    ⊎ HappensSo disks old rows (events.ReadTranslated id address len) outcome new new_rows
WholeEffect disks old rows (events.WriteTranslated id address bytes) outcome new new_rows =
    BusySo old rows id (write_of address bytes) (events.WriteTranslated id address bytes) outcome new new_rows
    ⊎ HappensSo disks old rows (events.WriteTranslated id address bytes) outcome new new_rows
WholeEffect disks old rows (events.ReadThroughCache id address len) outcome new new_rows =
    BusySo old rows id (read_of address len) (events.ReadThroughCache id address len) outcome new new_rows
    ⊎ HappensSo disks old rows (events.ReadThroughCache id address len) outcome new new_rows
WholeEffect disks old rows (events.WriteThroughCache id address bytes) outcome new new_rows =
    BusySo old rows id (write_of address bytes) (events.WriteThroughCache id address bytes) outcome new new_rows
    ⊎ HappensSo disks old rows (events.WriteThroughCache id address bytes) outcome new new_rows
WholeEffect disks old rows event outcome new new_rows = HappensSo disks old rows event outcome new new_rows

-- THE RELATION of an event, where these disks were never in a device
abbrev pub SteppedEffect : List ℕ → Parts → List WalkRow → SteppedEvent → SteppedOutcome → Parts → List WalkRow → Type 0
SteppedEffect disks old rows (Load id) outcome new new_rows = LoadsSo old rows id outcome new new_rows ⊎ LoadsOfNobody old rows id outcome new new_rows
SteppedEffect disks old rows (Whole event) outcome new new_rows = WholeEffect disks old rows event outcome new new_rows

-- How the ledger machine with walks in it shows a world in which requests are under way.
use Rattle.std.specs.Prelude.{◌≡◌, ℕ, ◌+◌, ◌≤◌, true, List, length, Option, None, Some}
use Rattle.iom_base.specs.Accesses.{MayWant}
use Rattle.iom_base.specs.DeviceKinds.{sends_untranslated}
use Rattle.iom_base.specs.declared.device_kind.DeviceKind.{DeviceKind}
use Rattle.iom_device.specs.Caches.{kind_in}
use Rattle.iom_device.specs.declared.device.Device.{Device}
use Rattle.iom_iommu.specs.Requests as requests
use Rattle.iom_iommu.specs.declared.begun.Begun.{Begun}
use Rattle.iom_iommu.specs.declared.begun.Begun.TheVariants as begun
use Rattle.iom_iommu.specs.declared.begun.Load.{Load}
use Rattle.iom_iommu.specs.declared.begun.Load.TheVariants as load
use Rattle.iom_stepped_machine.specs.Machine.{SteppedOutcome, SteppedState, Answer, Loaded, NoWalk, Occupied, Walking, walks_at_steps}
use Rattle.iom_stepped_machine.specs.Walks.{Asking, Begins, Reads, Walk, Walks, Writes, access_of, most_loads}
use Rattle.iom_stepped_requests.specs.Standing.{still_serving}
use Rattle.iom_stepped_requests.specs.Whole.{ServedWithin}
use Rattle.iom_walks.specs.Walks.{UnderWay, WalkRow, row_of}
use Rattle.iom_world_effects.specs.Parts.{Parts}
use Rattle.iom_world_effects.specs.Requests.{outcome_of_reply}
use Rattle.iom_world_effects.specs.Shows.{PartsShow}

-- a device of the kind can ask so: by a read or a write of its own, or by a step that begins an access
abbrev pub CanAsk : DeviceKind → Asking → Type 0
CanAsk kind (Reads address len) = sends_untranslated kind ≡ true
CanAsk kind (Writes address bytes) = sends_untranslated kind ≡ true
CanAsk kind (Begins access) = (walks_at_steps kind ≡ true) × MayWant access

-- the device is there, and can
pub record Asks (devices : List Device) (id : ℕ) (asking : Asking) : Type 0 where
  pub kind : DeviceKind
  pub there : kind_in devices id ≡ Some kind
  pub can : CanAsk kind asking

-- A REQUEST UNDER WAY IS SHOWN so, in a memory of so many frames: what was asked for is what the device asks the IOMMU for; and the loads that it may make yet are no
-- more than a walk has left that made so many
pub record ShowsRequest (frames : ℕ) (devices : List Device) (id : ℕ) (row : WalkRow) (own : UnderWay) (walk : Walk) : Type 0 where
  pub asks : Asks devices id walk.asking
  pub access : requests.access_of own.request.asked.address own.len own.request.asked.kind row.bytes ≡ access_of walk.asking
  pub left : ℕ
  pub ends : ServedWithin left frames (still_serving frames own.serving)
  pub few : walk.loads + left ≤ most_loads + 1

-- what is under way of a row is shown, and nothing else
abbrev pub ShowsUnderWay : ℕ → List Device → ℕ → WalkRow → Option UnderWay → Option Walk → Type 0
ShowsUnderWay frames devices id row None walk = walk ≡ None
ShowsUnderWay frames devices id row (Some own) walk = (shown : Walk) × (walk ≡ Some shown) × ShowsRequest frames devices id row own shown

abbrev pub ShowsRow : ℕ → List Device → ℕ → Option WalkRow → Option Walk → Type 0
ShowsRow frames devices id None walk = walk ≡ None
ShowsRow frames devices id (Some row) walk = ShowsUnderWay frames devices id row row.under_way walk

abbrev pub WalksShow : ℕ → List Device → List WalkRow → Walks → Type 0
WalksShow frames devices rows walks = (id : ℕ) → ShowsRow frames devices id (row_of rows id) (walks id)

-- THE STATE SHOWS THE WORLD: its ledger the parts, and its walks the requests under way
pub record SteppedShow (parts : Parts) (rows : List WalkRow) (state : SteppedState) : Type 0 where
  pub ledger : PartsShow parts state.ledger
  pub walks : WalksShow (length parts.memory) parts.devices rows state.walks

-- what is told of a request that a device asks for
abbrev pub told_at_begin : Begun → SteppedOutcome
told_at_begin (begun.Answered reply) = Answer (outcome_of_reply reply)
told_at_begin begun.Walking = Walking
told_at_begin begun.Occupied = Occupied

-- and of a load
abbrev pub told_at_load : Load → SteppedOutcome
told_at_load load.Nothing = NoWalk
told_at_load load.Loaded = Loaded
told_at_load (load.Ended reply) = Answer (outcome_of_reply reply)

-- What the events of block devices do (virtio 1.2): a disk is put in, a queue is set, a step is taken, a status is told. Of a device's queue, its requests
-- and the bytes of its disk a world knows nothing. So the access that a step wants, and all else that a step is, is the device's choice.
use Rattle.std.specs.Prelude.{◌≡◌, ◌<◌, ◌^◌, ◌⊎◌, ℕ, Bool, true, false, List, Result, Ok, Err, Some, ⊤}
use Rattle.iom_base.specs.declared.access.Access.{Access}
use Rattle.iom_base.specs.Accesses.{page_of, MayWant}
use Rattle.iom_coherence.specs.Attachments.{caches_translations}
use Rattle.iom_driver.specs.declared.answers.Ticket.{Ticket}
use Rattle.iom_fabric.specs.declared.message.Message.TheVariants.{Ask}
use Rattle.iom_base.specs.declared.refusal.Refusal.{Refusal}
use Rattle.iom_base.specs.declared.refusal.Refusal.TheVariants.{BadMedium, BadQueue}
use Rattle.iom_machine.specs.declared.outcome.BlockStep.{BlockStep}
use Rattle.iom_machine.specs.declared.outcome.BlockStep.TheVariants.{Idle, Waiting, Asked, Chain, Finished, Down}
use Rattle.iom_machine.specs.declared.outcome.Outcome.{Outcome}
use Rattle.iom_machine.specs.declared.outcome.Outcome.TheVariants as outcome
use Rattle.iom_base.specs.Disks.{is_among}
use Rattle.iom_base.specs.DeviceKinds.{is_block_device}
use Rattle.iom_virtqueue.specs.declared.layout.Layout.{Layout}
use Rattle.iom_virtqueue.specs.Layouts.{IsLayout}
use Rattle.iom_device.specs.declared.device.Device.{Device}
use Rattle.iom_device.specs.Caches.{IsAble, device_with, epoch_in, kind_in, with_has_disk}
use Rattle.iom_device.specs.Calls.{with_reset, with_block_reset}
use Rattle.iom_world_effects.specs.Messages.{with_sent}
use Rattle.iom_world_effects.specs.Parts.{Parts}
use Rattle.iom_world_effects.specs.Requests.{AsksAccess}
use Rattle.iom_world_effects.specs.ThroughCache.{DeviceAsksThroughCache}
use Rattle.iom_world_effects.specs.Unable.{IsUnknown, IsUnable}

-- the block device with this id
pub record IsBlockDevice (devices : List Device) (id : ℕ) (device : Device) : Type 0 where
  pub there : device_with devices id ≡ Some device
  pub able : is_block_device device.kind ≡ true

-- it has no disk, and the one with this number was never in a device
abbrev pub MayTake : List ℕ → Device → ℕ → Type 0
MayTake disks device disk = (device.has_disk ≡ false) × (is_among disks disk ≡ true)

-- the disk is put into the device, where that may be
abbrev pub PutsDiskIn : List ℕ → Parts → Device → (id disk : ℕ) → Outcome → Parts → Type 0
PutsDiskIn disks old device id disk reply new =
    (MayTake disks device disk × (reply ≡ outcome.Done) × (new ≡ record old { devices = with_has_disk old.devices id true }))
    ⊎ ((¬ MayTake disks device disk) × (reply ≡ outcome.Refused BadMedium) × (new ≡ old))

-- A DISK IS PUT INTO A BLOCK DEVICE, where these were never in a device
abbrev pub InsertsMedium : List ℕ → Parts → (id disk : ℕ) → Outcome → Parts → Type 0
InsertsMedium disks old id disk reply new =
    IsUnknown old id reply new ⊎ IsUnable is_block_device old id reply new
    ⊎ ((device : Device) × IsBlockDevice old.devices id device × PutsDiskIn disks old device id disk reply new)

-- the queue is set, where it may lie so; a device that has a cache begins with an empty one, and a new epoch
abbrev pub SetsLayout : Parts → ℕ → Layout → Outcome → Parts → Type 0
SetsLayout old id layout reply new =
    (IsLayout layout × (reply ≡ outcome.Done) × (new ≡ record old { devices = with_reset old.devices id }))
    ⊎ ((¬ IsLayout layout) × (reply ≡ outcome.Refused BadQueue) × (new ≡ old))

-- THE QUEUE OF A BLOCK DEVICE IS SET
abbrev pub SetsBlockQueue : Parts → ℕ → Layout → Outcome → Parts → Type 0
SetsBlockQueue old id layout reply new =
    IsUnknown old id reply new ⊎ IsUnable is_block_device old id reply new
    ⊎ (IsAble is_block_device old.devices id × SetsLayout old id layout reply new)

-- where its access misses in its own cache, the device asks for the translation; that question is lost where 64 messages are under way
abbrev pub AsksIfMissed : Outcome → Parts → ℕ → Access → Outcome → Parts → Type 0
AsksIfMissed outcome.Miss old id access reply new =
    (reply ≡ outcome.Stepped Asked) × (new ≡ record old { fabric = with_sent old.fabric id (Ask (epoch_in old.devices id) (page_of access)) })
AsksIfMissed first old id access reply new = (reply ≡ first) × (new ≡ old)

-- the access goes through the device's own cache
pub record GoesThroughCache (old : Parts) (id : ℕ) (access : Access) (reply : Outcome) (new : Parts) : Type 0 where
  pub first : Outcome
  pub between : Parts
  pub tries : DeviceAsksThroughCache is_block_device old id access first between
  pub asks : AsksIfMissed first between id access reply new

-- to the IOMMU, which translates it, or through the device's own cache
abbrev pub GoesToMemory : (has_cache : Bool) → Parts → ℕ → Access → Outcome → Parts → Type 0
GoesToMemory false old id access reply new = AsksAccess is_block_device old id access reply new
GoesToMemory true old id access reply new = GoesThroughCache old id access reply new

-- A BLOCK DEVICE'S STEP WANTS THE ACCESS
abbrev pub BeginsAccess : Parts → ℕ → Access → Outcome → Parts → Type 0
BeginsAccess old id access reply new = GoesToMemory (caches_translations (kind_in old.devices id)) old id access reply new

-- a step that doesn't ask for a translation, and began no access
abbrev pub IsRest : BlockStep → Type 0
IsRest Idle = ⊤
IsRest Waiting = ⊤
IsRest Asked = ⊥
IsRest (Chain fault) = ⊤
IsRest (Finished head len) = ⊤
IsRest Down = ⊤

-- A BLOCK DEVICE'S STEP BEGAN NO ACCESS, and nothing changes here
abbrev pub Rests : Parts → ℕ → BlockStep → Outcome → Parts → Type 0
Rests old id step reply new =
    IsUnknown old id reply new ⊎ IsUnable is_block_device old id reply new
    ⊎ (IsAble is_block_device old.devices id × (reply ≡ outcome.Stepped step) × (new ≡ old))

-- the step wants an access of the 64-bit address space, within one page
abbrev pub WantsAccess : Parts → ℕ → Outcome → Parts → Type 0
WantsAccess old id reply new = (access : Access) × (access.address < 2 ^ 64) × MayWant access × BeginsAccess old id access reply new

-- A BLOCK DEVICE TAKES A STEP of its own choice
abbrev pub TakesBlockStep : Parts → ℕ → Outcome → Parts → Type 0
TakesBlockStep old id reply new = WantsAccess old id reply new ⊎ ((step : BlockStep) × IsRest step × Rests old id step reply new)

-- THE STATUS OF A BLOCK DEVICE is this one, and nothing changes
abbrev pub TellsBlockStatus : Parts → ℕ → ℕ → Outcome → Parts → Type 0
TellsBlockStatus old id status reply new =
    IsUnknown old id reply new ⊎ IsUnable is_block_device old id reply new
    ⊎ (IsAble is_block_device old.devices id × (reply ≡ outcome.Status status) × (new ≡ old))

-- a device that leaves has no disk any more, and a block device is reset
abbrev pub devices_left : Result Ticket Refusal → List Device → ℕ → List Device
devices_left (Ok ticket) devices id = with_block_reset (with_has_disk devices id false) id
devices_left (Err why) devices id = devices

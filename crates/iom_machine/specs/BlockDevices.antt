-- What may come of the events of a block device (virtio 1.2). The machine knows whether it has a disk, and no more: neither its queue and its status, nor
-- its requests. So a step of it may be any; but the access that a step begins is answered as any device's.
use Rattle.std.specs.Prelude.{◌≡◌, ℕ, Bool, true, false, Some, ⊤}
use Rattle.iom_base.specs.declared.access.Access.{Access}
use Rattle.iom_base.specs.Accesses.{MayWant}
use Rattle.iom_base.specs.declared.refusal.Refusal.TheVariants.{BadMedium, BadQueue}
use Rattle.iom_machine.specs.declared.outcome.BlockStep.{BlockStep}
use Rattle.iom_machine.specs.declared.outcome.BlockStep.TheVariants.{Idle, Waiting, Asked, Chain, Finished, Down}
use Rattle.iom_machine.specs.declared.outcome.Outcome.{Outcome}
use Rattle.iom_machine.specs.declared.outcome.Outcome.TheVariants as outcomes
use Rattle.iom_machine.specs.declared.state.Device.{Device}
use Rattle.iom_machine.specs.declared.state.State.{State}
use Rattle.iom_machine.specs.Devices.{with_device}
use Rattle.iom_base.specs.Disks.{is_among, without_disk}
use Rattle.iom_base.specs.DeviceKinds.{has_cache}
use Rattle.iom_machine.specs.Requests.{IsForwarded, MayAnswer, state_after}
use Rattle.iom_machine.specs.ThroughCache.{MayAnswerThroughCache, state_after_cached}
use Rattle.iom_virtqueue.specs.declared.layout.Layout.{Layout}
use Rattle.iom_virtqueue.specs.Layouts.{IsLayout}

-- the device has no disk, and the one with this number was never in a device
abbrev pub MayInsert : ℕ → State → Device → Type 0
MayInsert disk state device = (device.has_disk ≡ false) × (is_among state.disks disk ≡ true)

-- the state, where this disk is in the device
abbrev pub with_disk : ℕ → State → Device → State
with_disk disk state device =
    record (with_device state (record device { has_disk = true })) { disks = without_disk (Some disk) state.disks }

-- A disk is put into a block device, where that may be.
abbrev pub Inserts : ℕ → State → Device → Outcome → State → Type 0
Inserts disk old device outcomes.Done new = MayInsert disk old device × (new ≡ with_disk disk old device)
Inserts disk old device (outcomes.Refused why) new = ((¬ MayInsert disk old device) × (why ≡ BadMedium)) × (new ≡ old)
Inserts disk old device _ new = ⊥

-- A queue is set, where it may lie so.
abbrev pub MaySet : Layout → Outcome → Type 0
MaySet layout outcomes.Done = IsLayout layout
MaySet layout (outcomes.Refused why) = (¬ IsLayout layout) × (why ≡ BadQueue)
MaySet layout _ = ⊥

-- the outcome tells a status; it may be any
abbrev pub IsStatus : Outcome → Type 0
IsStatus (outcomes.Status status) = ⊤
IsStatus _ = ⊥

-- What a step may be that begins no access. Only a device with a cache asks for a translation, where its access would come before the IOMMU.
abbrev pub MayBe : State → Device → Access → BlockStep → Type 0
MayBe state device access Idle = ⊤
MayBe state device access Waiting = ⊤
MayBe state device access Asked = (has_cache device.kind ≡ true) × IsForwarded state.limits.in_flight device.in_flight access.address access.len
MayBe state device access (Chain fault) = ⊤
MayBe state device access (Finished head len) = ⊤
MayBe state device access Down = ⊤

-- It is answered as a request that the IOMMU translates, or, of a device with a cache, as one through that.
abbrev pub IsAnswered : Bool → State → Device → Access → ℕ → Outcome → State → Type 0
IsAnswered false old device access frame outcome new =
    MayAnswer old device access frame outcome × (new ≡ state_after old device access frame outcome)
IsAnswered true old device access frame outcome new =
    MayAnswerThroughCache old device access frame outcome × (new ≡ state_after_cached old device access frame outcome)

-- A step begins an access. Where it is accepted, that is on the frame.
abbrev pub Begins : State → Device → Access → ℕ → Outcome → State → Type 0
Begins old device access frame outcome new = MayWant access × IsAnswered (has_cache device.kind) old device access frame outcome new

-- A block device takes a step. One whose access misses in the cache asks, so no step tells of that.
abbrev pub TakesStep : State → Device → Access → ℕ → Outcome → State → Type 0
TakesStep old device access frame (outcomes.Stepped step) new = MayBe old device access step × (new ≡ old)
TakesStep old device access frame (outcomes.Accepted number) new = Begins old device access frame (outcomes.Accepted number) new
TakesStep old device access frame outcomes.Busy new = Begins old device access frame outcomes.Busy new
TakesStep old device access frame (outcomes.Fault cause) new = Begins old device access frame (outcomes.Fault cause) new
TakesStep old device access frame _ new = ⊥

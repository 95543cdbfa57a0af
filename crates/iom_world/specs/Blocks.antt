-- What an event does to the block devices themselves, and to the disks that were never in one (virtio 1.2, sections 2.1, 2.4, 2.7, 3.1 and 5.2).
use Rattle.std.specs.Prelude.{◌≡◌, ◌⊎◌, ⊤, ℕ, [], slice_get, Option, None, Some}
use Rattle.iom_base.specs.declared.access.Access.{Access}
use Rattle.iom_base.specs.Accesses.{page_of}
use Rattle.iom_base.specs.DeviceKinds.{disk_of, is_block_device}
use Rattle.iom_block_devices.specs.Changes.{block_with, Changes, IsGivenUp, IsPluggedIn, IsPutIn, IsReset, SetsUp}
use Rattle.iom_block_devices.specs.Shown.{ShownBlock, ShownBlocks}
use Rattle.iom_block_devices.specs.Wanted.{wanted_access}
use Rattle.iom_fabric.specs.declared.fabric.OnLink.{OnLink}
use Rattle.iom_hardware.specs.Blocks.{BringsRefusal, HearsOldest, BlocksUnchanged, oldest_number}
use Rattle.iom_inflight.specs.Flights.{row_of}
use Rattle.iom_iommu.specs.Parts.{flights_of}
use Rattle.iom_machine.specs.declared.event.Event.{Event}
use Rattle.iom_machine.specs.declared.event.Event.TheVariants as events
use Rattle.iom_machine.specs.declared.outcome.BlockStep.TheVariants as rest
use Rattle.iom_machine.specs.declared.outcome.Outcome.{Outcome}
use Rattle.iom_machine.specs.declared.outcome.Outcome.TheVariants as outcome
use Rattle.iom_virtio_blk.specs.declared.step.Reply.{Reply}
use Rattle.iom_virtio_blk.specs.declared.step.Reply.TheVariants as reply
use Rattle.iom_virtio_blk.specs.declared.step.Step.{Step}
use Rattle.iom_virtio_blk.specs.declared.step.Step.TheVariants as step
use Rattle.iom_virtio_blk.specs.Blocks.{wanted_by, replied}
use Rattle.iom_virtio_blk.specs.Histories.{KeepsTelling}
use Rattle.iom_virtio_blk.specs.Stages.{device_status}
use Rattle.iom_virtio_blk.specs.Steps.{Device, device, BlockDeviceSteps}
use Rattle.iom_virtqueue.specs.declared.layout.Layout.{Layout}
use Rattle.iom_virtqueue.specs.Layouts.{layout_of}
use Rattle.iom_world_effects.specs.BlockDevices.{BeginsAccess}
use Rattle.iom_world_effects.specs.Parts.{Parts}
use Rattle.iom_world_effects.specs.Unable.{IsUnknown, IsUnable}
use Rattle.iom_world.specs.Shown.{Shown}

-- where the event is told as done, this happens, and else the block devices stay, and so do the disks at hand
abbrev pub IfDone : Outcome → Type 0 → ShownBlocks → ShownBlocks → Type 0
IfDone outcome.Done HappensToThem old new = HappensToThem
IfDone answer HappensToThem old new = BlocksUnchanged old new

-- A DEVICE IS PLUGGED IN, and is a block device where it names the number of a disk
abbrev pub PlugsBlock : Option ℕ → ShownBlocks → ℕ → Outcome → ShownBlocks → Type 0
PlugsBlock None old id answer new = BlocksUnchanged old new
PlugsBlock (Some number) old id answer new = IfDone answer (IsPluggedIn number id old.blocks old.at_hand new.blocks new.at_hand) old new

-- A DISK IS PUT INTO A BLOCK DEVICE
abbrev pub InsertsIntoBlock : ℕ → ShownBlocks → ℕ → Outcome → ShownBlocks → Type 0
InsertsIntoBlock number old id answer new = IfDone answer (IsPutIn number id old.blocks old.at_hand new.blocks new.at_hand) old new

-- A BLOCK DEVICE THAT IS DETACHED is reset and loses its disk in that event, not only when its ticket is confirmed
abbrev pub LeavesBlock : ShownBlocks → ℕ → Outcome → ShownBlocks → Type 0
LeavesBlock old id (outcome.Ticket ticket) new = Changes IsGivenUp old id new
LeavesBlock old id answer new = BlocksUnchanged old new

-- A BLOCK DEVICE IS RESET (section 2.4)
abbrev pub ResetsBlock : ShownBlocks → ℕ → Outcome → ShownBlocks → Type 0
ResetsBlock old id answer new = IfDone answer (Changes IsReset old id new) old new

-- THE QUEUE OF A BLOCK DEVICE IS SET
abbrev pub SetsQueueOf : Layout → ShownBlocks → ℕ → Outcome → ShownBlocks → Type 0
SetsQueueOf layout old id answer new = IfDone answer (Changes (SetsUp layout) old id new) old new

-- THE OLDEST ACCESS IN FLIGHT of the device, which has this number, was made: a read gave its bytes, and a write none
abbrev pub CommitsOf : Option ℕ → ShownBlocks → ℕ → Outcome → ShownBlocks → Type 0
CommitsOf number old id (outcome.Read bytes) new = HearsOldest number bytes.items old id new
CommitsOf number old id (outcome.Wrote count) new = HearsOldest number [] old id new
CommitsOf number old id answer new = BlocksUnchanged old new

-- A MESSAGE IS DELIVERED: an answer that has no translation counts where the device's cache is in the epoch of the question still, and only then is it told as
-- `AnswerRefused`. A stale one is told as `Stale`, and does nothing; nor does one to a device without a cache
abbrev pub DeliversTo : Option OnLink → ShownBlocks → Outcome → ShownBlocks → Type 0
DeliversTo on old outcome.AnswerRefused new = BringsRefusal on old new
DeliversTo on old answer new = BlocksUnchanged old new

-- what the device is told of that, by what came of it: a begun access comes to no more than these four
abbrev pub reply_of : Access → Outcome → Reply
reply_of access (outcome.Accepted number) = reply.Accepted number
reply_of access outcome.Busy = reply.Busy
reply_of access (outcome.Stepped rest.Asked) = reply.Asked (page_of access)
reply_of access answer = reply.Fault

-- it begins that access, and is told
pub record BeginsWantedAccess (old : Parts) (id : ℕ) (between : Device) (answer : Outcome) (new : Parts) (after : Device) : Type 0 where
  pub access : Access
  pub named : wanted_access (wanted_by between.front) ≡ Some access
  pub begun : BeginsAccess old id access answer new
  pub hears : after ≡ device (replied (reply_of access answer) between.front) between.disk

-- a step that begins no access is told as it is, and changes nothing but the device
abbrev pub EndsStep : Step → Parts → ℕ → Device → Outcome → Parts → Device → Type 0
EndsStep step.Idle old id between answer new after = (answer ≡ outcome.Stepped rest.Idle) × (new ≡ old) × (after ≡ between)
EndsStep step.Waiting old id between answer new after = (answer ≡ outcome.Stepped rest.Waiting) × (new ≡ old) × (after ≡ between)
EndsStep step.Down old id between answer new after = (answer ≡ outcome.Stepped rest.Down) × (new ≡ old) × (after ≡ between)
EndsStep (step.Chain fault) old id between answer new after = (answer ≡ outcome.Stepped (rest.Chain fault)) × (new ≡ old) × (after ≡ between)
EndsStep (step.Finished head len) old id between answer new after = (answer ≡ outcome.Stepped (rest.Finished head len)) × (new ≡ old) × (after ≡ between)
EndsStep (step.Wants want) old id between answer new after = BeginsWantedAccess old id between answer new after

-- the device takes a step, which calls its disk at most once, up to the access that it wants next; and what tells its disk goes on with the step
pub record StepsOnce (old : Parts) (id : ℕ) (answer : Outcome) (new : Parts) (before : Device) (after : Device) : Type 0 where
  pub taken : Step
  pub between : Device
  pub steps : BlockDeviceSteps before taken between
  pub tells : KeepsTelling before between
  pub ends : EndsStep taken old id between answer new after

-- what is told is no refusal
abbrev pub IsNoRefusal : Outcome → Type 0
IsNoRefusal (outcome.Refused why) = ⊥
IsNoRefusal answer = ⊤

-- where there is no block device with the id, the event is refused, and else it isn't
abbrev pub RefusedIfNone : Option ShownBlock → Parts → ℕ → Outcome → Parts → Type 0
RefusedIfNone None old id answer new = IsUnknown old id answer new ⊎ IsUnable is_block_device old id answer new
RefusedIfNone (Some block) old id answer new = IsNoRefusal answer

-- A BLOCK DEVICE TAKES A STEP
abbrev pub TakesStepOf : Parts → ShownBlocks → ℕ → Outcome → Parts → ShownBlocks → Type 0
TakesStepOf old before id answer new after = RefusedIfNone (block_with before.blocks id) old id answer new × Changes (StepsOnce old id answer new) before id after

-- the status is that of the device
abbrev pub IsStatusOf : Option ShownBlock → Outcome → Type 0
IsStatusOf None answer = ⊤
IsStatusOf (Some block) answer = answer ≡ outcome.Status (device_status block.device.front.stage)

-- THE STATUS OF A BLOCK DEVICE is read (section 2.1)
abbrev pub TellsStatusOf : Parts → ShownBlocks → ℕ → Outcome → Parts → ShownBlocks → Type 0
TellsStatusOf old before id answer new after =
    RefusedIfNone (block_with before.blocks id) old id answer new × IsStatusOf (block_with before.blocks id) answer × BlocksUnchanged before after

-- THE RELATION of an event. A device that is quarantined goes on with what it has in work, until it is revived
abbrev pub EffectOnBlocks : Shown → Event → Outcome → Shown → Type 0
EffectOnBlocks old (events.Plug id what) answer new = PlugsBlock (disk_of what) old.inside id answer new.inside
EffectOnBlocks old (events.Medium id number) answer new = InsertsIntoBlock number old.inside id answer new.inside
EffectOnBlocks old (events.Detach id) answer new = LeavesBlock old.inside id answer new.inside
EffectOnBlocks old (events.Revive id) answer new = ResetsBlock old.inside id answer new.inside
EffectOnBlocks old (events.Reset id) answer new = ResetsBlock old.inside id answer new.inside
EffectOnBlocks old (events.Queue id size descriptors available used) answer new = SetsQueueOf (layout_of size descriptors available used) old.inside id answer new.inside
EffectOnBlocks old (events.Commit id) answer new = CommitsOf (oldest_number (row_of (flights_of old.parts.iommu).rows id)) old.inside id answer new.inside
EffectOnBlocks old (events.Deliver place) answer new = DeliversTo (slice_get old.parts.fabric place) old.inside answer new.inside
EffectOnBlocks old (events.Step id) answer new = TakesStepOf old.parts old.inside id answer new.parts new.inside
EffectOnBlocks old (events.Status id) answer new = TellsStatusOf old.parts old.inside id answer new.parts new.inside
EffectOnBlocks old (events.Attach id mode ats) answer new = BlocksUnchanged old.inside new.inside
EffectOnBlocks old (events.Grant id page frame rights) answer new = BlocksUnchanged old.inside new.inside
EffectOnBlocks old (events.Release id page) answer new = BlocksUnchanged old.inside new.inside
EffectOnBlocks old (events.Quarantine id) answer new = BlocksUnchanged old.inside new.inside
EffectOnBlocks old events.Restart answer new = BlocksUnchanged old.inside new.inside
EffectOnBlocks old events.Fetch answer new = BlocksUnchanged old.inside new.inside
EffectOnBlocks old events.Timeout answer new = BlocksUnchanged old.inside new.inside
EffectOnBlocks old events.Poll answer new = BlocksUnchanged old.inside new.inside
EffectOnBlocks old events.Faults answer new = BlocksUnchanged old.inside new.inside
EffectOnBlocks old (events.Read id address len) answer new = BlocksUnchanged old.inside new.inside
EffectOnBlocks old (events.Write id address bytes) answer new = BlocksUnchanged old.inside new.inside
EffectOnBlocks old (events.ReadTranslated id address len) answer new = BlocksUnchanged old.inside new.inside
EffectOnBlocks old (events.WriteTranslated id address bytes) answer new = BlocksUnchanged old.inside new.inside
EffectOnBlocks old (events.ReadThroughCache id address len) answer new = BlocksUnchanged old.inside new.inside
EffectOnBlocks old (events.WriteThroughCache id address bytes) answer new = BlocksUnchanged old.inside new.inside
EffectOnBlocks old (events.Ask id page) answer new = BlocksUnchanged old.inside new.inside
EffectOnBlocks old (events.Forge id serial) answer new = BlocksUnchanged old.inside new.inside
EffectOnBlocks old (events.Drop place) answer new = BlocksUnchanged old.inside new.inside
EffectOnBlocks old (events.Repeat place) answer new = BlocksUnchanged old.inside new.inside
EffectOnBlocks old (events.Poke address bytes) answer new = BlocksUnchanged old.inside new.inside
EffectOnBlocks old (events.Peek address len) answer new = BlocksUnchanged old.inside new.inside
EffectOnBlocks old (events.Free frame) answer new = BlocksUnchanged old.inside new.inside

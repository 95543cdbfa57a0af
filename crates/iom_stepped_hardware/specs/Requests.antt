-- What a block device hears where its request ends at a load (virtio 1.2, section 2.7).
use Rattle.std.specs.Prelude.{◌≡◌, ℕ, Result, Ok, Err}
use Rattle.iom_base.specs.declared.refusal.Refusal.{Refusal}
use Rattle.iom_block_devices.specs.Changes.{Changes}
use Rattle.iom_block_devices.specs.Shown.{ShownBlocks}
use Rattle.iom_hardware.specs.Blocks.{BlocksUnchanged}
use Rattle.iom_iommu.specs.declared.begun.Load.{Load}
use Rattle.iom_iommu.specs.declared.begun.Load.TheVariants.{Nothing, Loaded, Ended}
use Rattle.iom_iommu.specs.declared.reply.Reply.{Reply}
use Rattle.iom_iommu.specs.declared.reply.Reply.TheVariants as iommu
use Rattle.iom_virtio_blk.specs.Blocks.{replied}
use Rattle.iom_virtio_blk.specs.Steps.{Device, device}
use Rattle.iom_virtio_blk.specs.declared.step.Reply as blk
use Rattle.iom_virtio_blk.specs.declared.step.Reply.TheVariants as reply

-- what a device is told of its access, by what the IOMMU answers
abbrev pub told : Reply → blk.Reply
told (iommu.Accepted number) = reply.Accepted number
told iommu.Busy = reply.Busy
told (iommu.Fault cause) = reply.Fault
told iommu.BadSpan = reply.Fault

-- it is told so
abbrev pub HearsReply : Reply → Device → Device → Type 0
HearsReply answer old new = new ≡ device (replied (told answer) old.front) old.disk

-- A BLOCK DEVICE HEARS of the access that it wants where that load ended its request, and else nothing
abbrev pub HearsLoad : Result Load Refusal → ShownBlocks → ℕ → ShownBlocks → Type 0
HearsLoad (Ok (Ended answer)) old id new = Changes (HearsReply answer) old id new
HearsLoad (Ok Loaded) old id new = BlocksUnchanged old new
HearsLoad (Ok Nothing) old id new = BlocksUnchanged old new
HearsLoad (Err why) old id new = BlocksUnchanged old new

-- The access that a block device wants.
use Rattle.std.specs.Prelude.{Option, None, Some}
use Rattle.iom_base.specs.declared.access.Access.{Access}
use Rattle.iom_base.specs.Accesses.{read_of, write_of}
use Rattle.iom_virtio_blk.specs.Blocks.{wanted_by}
use Rattle.iom_virtio_blk.specs.declared.front.Front.{Front}
use Rattle.iom_virtio_blk.specs.declared.stage.Stage.{Stage}
use Rattle.iom_virtio_blk.specs.declared.stage.Stage.TheVariants.{DriverOk}
use Rattle.iom_virtqueue.specs.Accesses.{Access as Wanted, nothing, reads, writes}
use Rattle.iom_block_devices.specs.Shown.{ShownBlock}

-- the access that a block device wants, if there is one
abbrev pub wanted_access : Wanted → Option Access
wanted_access nothing = None
wanted_access (reads address len) = Some (read_of address len)
wanted_access (writes address bytes) = Some (write_of address bytes)

-- a block device that works wants one, or waits for it where it began it; it wants none before its driver is ready, or where it is to be reset
abbrev pub wanted_at : Stage → Front → Option Access
wanted_at DriverOk front = wanted_access (wanted_by front)
wanted_at stage front = None

-- the access that a block device wants; none where it isn't there
abbrev pub wanted_of : Option ShownBlock → Option Access
wanted_of None = None
wanted_of (Some block) = wanted_at block.device.front.stage block.device.front

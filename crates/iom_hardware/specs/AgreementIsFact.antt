-- That the block devices agree with their board is a fact: it has one proof at most, so a struct that has hardware can carry it.
use Rattle.std.specs.Prelude.{ℕ, List}
use Rattle.std.proofs.Props.{props}
use Rattle.iom_block_devices.specs.declared.block.Block.{Block}
use Rattle.iom_block_devices.specs.declared.block.DiskAtHand.{DiskAtHand}
use Rattle.iom_device.specs.declared.device.Device.{Device}
use Rattle.iom_virtio_blk.specs.declared.disk.Disk.{Ghosts}
use Rattle.iom_hardware.specs.Agreement.{AgreesWith}

pub agrees_prop : {D : Type 0} {d : Ghosts D} (devices : List Device) (disks : List ℕ) (blocks : List (Block D d)) (at_hand : List (DiskAtHand D))
    → IsProp (AgreesWith devices disks blocks at_hand)
agrees_prop devices disks blocks at_hand = hlevel props

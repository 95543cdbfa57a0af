-- How the block devices themselves stand beside a board, which knows of each only its id and whether it has a disk.
use Rattle.std.specs.Prelude.{◌≡◌, ℕ, List, [], ◌∷◌, if◌then◌else◌}
use Rattle.iom_base.specs.DeviceKinds.{is_block_device}
use Rattle.iom_block_devices.specs.declared.block.Block.{Block}
use Rattle.iom_block_devices.specs.declared.block.DiskAtHand.{DiskAtHand}
use Rattle.iom_block_devices.specs.Entries.{DiskEntry, disk_entries_of, numbers_of}
use Rattle.iom_device.specs.declared.device.Device.{Device}
use Rattle.iom_virtio_blk.specs.declared.disk.Disk.{Ghosts}

-- those of the devices that are block devices, in the order of plugging
abbrev pub known_blocks : List Device → List DiskEntry
known_blocks [] = []
known_blocks (device ∷ others) = if is_block_device device.kind then (device.id, device.has_disk) ∷ known_blocks others else known_blocks others

-- they are exactly the board's block devices, each with a disk where the board knows of one; and those disks are at hand that were never in a device
pub record AgreesWith {D : Type 0} {d : Ghosts D} (devices : List Device) (disks : List ℕ) (blocks : List (Block D d)) (at_hand : List (DiskAtHand D)) : Type 0 where
  pub known : disk_entries_of blocks ≡ known_blocks devices
  pub numbers : numbers_of at_hand ≡ disks

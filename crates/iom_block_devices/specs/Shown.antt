-- Block devices with their disks, and the disks that were never in one, as they are seen.
use Rattle.std.specs.Prelude.{ℕ, List, map}
use Rattle.iom_virtio_blk.specs.declared.disk.Disk.{Ghosts}
use Rattle.iom_virtio_blk.specs.Disks.{disk_in}
use Rattle.iom_virtio_blk.specs.DiskStates.{DiskState}
use Rattle.iom_virtio_blk.specs.Steps.{Device, device}
use Rattle.iom_block_devices.specs.Numbered.{ShownDisk}
use Rattle.iom_block_devices.specs.declared.block.Block.{Block}
use Rattle.iom_block_devices.specs.declared.block.DiskAtHand.{DiskAtHand}

-- a block device, with its disk, if it has one
pub record ShownBlock : Type 0 where
  pub id : ℕ
  pub device : Device

-- all of them, in the order of plugging, and the disks at hand
pub record ShownBlocks : Type 0 where
  pub blocks : List ShownBlock
  pub at_hand : List ShownDisk

-- `shown` is that of the disk's trait, which says which disk it is
abbrev pub shown_block : {D : Type 0} {d : Ghosts D} → (D → DiskState) → Block D d → ShownBlock
shown_block shown block = record { id = block.id; device = device block.blk.front (disk_in shown block.blk.drive.disk) }

abbrev pub shown_blocks : {D : Type 0} {d : Ghosts D} → (D → DiskState) → List (Block D d) → List ShownBlock
shown_blocks shown blocks = map (shown_block shown) blocks

abbrev pub states_of : {D : Type 0} → (D → DiskState) → List D → List DiskState
states_of shown disks = map shown disks

abbrev pub shown_disk : {D : Type 0} → (D → DiskState) → DiskAtHand D → ShownDisk
shown_disk shown one = record { number = one.number; disk = shown one.disk }

abbrev pub shown_disks : {D : Type 0} → (D → DiskState) → List (DiskAtHand D) → List ShownDisk
shown_disks shown at_hand = map (shown_disk shown) at_hand

abbrev pub all_shown : {D : Type 0} {d : Ghosts D} → (D → DiskState) → List (Block D d) → List (DiskAtHand D) → ShownBlocks
all_shown shown blocks at_hand = record { blocks = shown_blocks shown blocks; at_hand = shown_disks shown at_hand }

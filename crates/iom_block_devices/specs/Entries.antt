-- Of each block device its id, and whether it has a disk; of each disk at hand its number.
use Rattle.std.specs.Prelude.{ℕ, Bool, List, map, is_some}
use Rattle.iom_virtio_blk.specs.declared.disk.Disk.{Ghosts}
use Rattle.iom_block_devices.specs.declared.block.Block.{Block}
use Rattle.iom_block_devices.specs.declared.block.DiskAtHand.{DiskAtHand}

-- a block device by its id, and whether it has a disk
abbrev pub DiskEntry : Type 0
DiskEntry = ℕ × Bool

abbrev pub disk_entry_of : {D : Type 0} {d : Ghosts D} → Block D d → DiskEntry
disk_entry_of block = (block.id, is_some block.blk.drive.disk)

abbrev pub disk_entries_of : {D : Type 0} {d : Ghosts D} → List (Block D d) → List DiskEntry
disk_entries_of blocks = map disk_entry_of blocks

abbrev pub numbers_of : {D : Type 0} → List (DiskAtHand D) → List ℕ
numbers_of at_hand = map (λ held. held.number) at_hand

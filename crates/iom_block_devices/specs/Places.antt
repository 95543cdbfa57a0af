-- Where a block device stands, by its id, and what the others are where it changes.
-- For the calls inside this crate alone; no public contract cites these.
use Rattle.std.specs.Prelude.{◌≡◌, ℕ, ◌==◌, not, Bool, List, [], ◌∷◌, find, filter, is_some, remove, slice_get, slice_set, Option, None, Some, if◌then◌else◌}
use Rattle.iom_base.specs.Disks.{without_disk}
use Rattle.iom_virtio_blk.specs.declared.disk.Disk.{Ghosts}
use Rattle.iom_virtio_blk.specs.DiskStates.{DiskState}
use Rattle.iom_block_devices.specs.declared.block.Block.{Block}
use Rattle.iom_block_devices.specs.declared.block.DiskAtHand.{DiskAtHand}
use Rattle.iom_block_devices.specs.Entries.{DiskEntry, disk_entries_of, numbers_of}
use Rattle.iom_block_devices.specs.Changes.{block_with, with_block, IsDiskTaken}
use Rattle.iom_block_devices.specs.Shown.{shown_block, shown_blocks, shown_disk, shown_disks}
use Rattle.iom_block_devices.specs.Numbered.{ShownDisk}

-- whether the block device with this id has a disk, if it is there
abbrev pub has_in : List DiskEntry → ℕ → Option Bool
has_in [] id = None
has_in (entry ∷ others) id = if entry.0 == id then Some entry.1 else has_in others id

-- the block devices, where the one with this id has a disk, or has none
abbrev pub with_has : List DiskEntry → ℕ → Bool → List DiskEntry
with_has [] id has = []
with_has (entry ∷ others) id has = if entry.0 == id then (entry.0, has) ∷ others else entry ∷ with_has others id has

-- the block device that stands there is the one with the id, and where it changes that is all that changes
pub record IsBlockPlace {D : Type 0} {d : Ghosts D} (shown : D → DiskState) (blocks : List (Block D d)) (id place : ℕ) : Type 0 where
  pub block : Block D d
  pub there : slice_get blocks place ≡ Some block
  pub found : block_with (shown_blocks shown blocks) id ≡ Some (shown_block shown block)
  pub has : has_in (disk_entries_of blocks) id ≡ Some (is_some block.blk.drive.disk)
  pub changed : (other : Block D d) → other.id ≡ block.id
      → shown_blocks shown (slice_set blocks place other) ≡ with_block (shown_blocks shown blocks) id (shown_block shown other).device
  pub entries : (other : Block D d) → other.id ≡ block.id → disk_entries_of (slice_set blocks place other) ≡ with_has (disk_entries_of blocks) id (is_some other.blk.drive.disk)
  pub kept : (other : Block D d) → other.id ≡ block.id → other.blk.drive ≡ block.blk.drive → disk_entries_of (slice_set blocks place other) ≡ disk_entries_of blocks

-- the disks with another number
abbrev pub others_than : {D : Type 0} → ℕ → List (DiskAtHand D) → List (DiskAtHand D)
others_than {D = D} number at_hand = filter (λ (it : DiskAtHand D). not (it.number == number)) at_hand

-- the disk that stands there is the first with the number
pub record IsDiskAt {D : Type 0} (shown : D → DiskState) (at_hand : List (DiskAtHand D)) (number place : ℕ) : Type 0 where
  pub one : DiskAtHand D
  pub there : slice_get at_hand place ≡ Some one
  pub own : one.number ≡ number
  pub found : find (λ (it : ShownDisk). it.number == number) (shown_disks shown at_hand) ≡ Some (shown_disk shown one)
  pub rest : others_than number (remove at_hand place) ≡ others_than number at_hand

-- this disk is taken out, which has the number
pub record TakesOut {D : Type 0} (shown : D → DiskState) (number : ℕ) (old new : List (DiskAtHand D)) (disk : D) : Type 0 where
  pub taken : IsDiskTaken number (shown_disks shown old) (shown disk) (shown_disks shown new)
  pub numbers : numbers_of new ≡ without_disk (Some number) (numbers_of old)

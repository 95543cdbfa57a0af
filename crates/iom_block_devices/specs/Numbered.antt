-- Disks by their numbers.
use Rattle.std.specs.Prelude.{ℕ, ◌+◌, List, [], ◌∷◌}
use Rattle.iom_virtio_blk.specs.DiskStates.{DiskState}

-- a disk, by its number
pub record ShownDisk : Type 0 where
  pub number : ℕ
  pub disk : DiskState

-- the disks with their numbers, in a row from the first on
abbrev pub numbered : ℕ → List DiskState → List ShownDisk
numbered first [] = []
numbered first (disk ∷ others) = record { number = first; disk = disk } ∷ numbered (first + 1) others

abbrev pub disk_number_of : ShownDisk → ℕ
disk_number_of one = one.number

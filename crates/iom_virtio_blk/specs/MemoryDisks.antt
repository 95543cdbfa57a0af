-- A disk in memory, one of whose calls fails, or none.
use Rattle.std.specs.Prelude.{ℕ, zero, suc, List, [], ◌∷◌, replicate, Option, None, Some}
use Rattle.iom_virtio_blk.specs.declared.memory_disk.Failing.{Failing}
use Rattle.iom_virtio_blk.specs.declared.memory_disk.Failing.TheVariants.{Never, After, Past}
use Rattle.iom_virtio_blk.specs.declared.memory_disk.MemoryDisk.{MemoryDisk}
use Rattle.iom_virtio_blk.specs.DiskStates.{DiskState}

-- the bytes of a sector that was never written
unfoldable pub zero_sector : List ℕ
zero_sector = replicate 512 0

-- the call of this number fails, counted from 1, and no other: so many go well before it
abbrev pub failing_at : Option ℕ → List ℕ
failing_at None = []
failing_at (Some zero) = []
failing_at (Some (suc before)) = before ∷ []

-- which calls will fail
abbrev pub failing_of : Failing → List ℕ
failing_of Never = []
failing_of (After before) = before ∷ []
failing_of Past = []

-- how many calls failed
abbrev pub failures_of : Failing → ℕ
failures_of Never = 0
failures_of (After before) = 0
failures_of Past = 1

-- the disk as it is seen
abbrev pub disk_state : MemoryDisk → DiskState
disk_state disk = record { name = disk.name; sectors = disk.sectors.items; failures = failures_of disk.failing; failing = Some (failing_of disk.failing) }

-- a disk of this name with so many sectors of zeros, of which no call failed yet, and of which these will
abbrev pub zero_disk : (name sectors : ℕ) (failing : List ℕ) → DiskState
zero_disk name sectors failing = record { name = name; sectors = replicate sectors zero_sector; failures = 0; failing = Some failing }

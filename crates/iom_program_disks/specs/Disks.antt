-- The disks of the programs.
use Rattle.std.specs.Prelude.{List, [], ◌∷◌, None, Some}
use Rattle.iom_virtio_blk.specs.DiskStates.{DiskState}
use Rattle.iom_virtio_blk.specs.MemoryDisks.{failing_at, zero_disk}

-- THE DISKS OF THE PROGRAMS, each by its name: 0 and 1 have 64 sectors, 2 has 2, and 3 has 64; all are zero. Disk 3 fails at its second call, the others never
abbrev pub program_disks : List DiskState
program_disks =
    zero_disk 0 64 (failing_at None) ∷ zero_disk 1 64 (failing_at None) ∷ zero_disk 2 2 (failing_at None) ∷ zero_disk 3 64 (failing_at (Some 2)) ∷ []

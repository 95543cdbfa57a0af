-- The sectors so far are zero.
use Rattle.std.proofs.Common.{◌≡◌, replicate}
use Rattle.iom_virtio_blk.specs.MemoryDisks.{zero_sector}
use Rattle.iom_virtio_blk.proofs.memory_disk.MemoryDisk.new.Given as goal

abbrev pub invariant-loop-made : goal.invariant-loop-made
invariant-loop-made l = l.zeros.items ≡ replicate l.made zero_sector

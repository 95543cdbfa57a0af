-- A sector of zeros.
use Rattle.std.proofs.Common.{refl}
use Rattle.iom_virtio_blk.specs.MemoryDisks.{zero_sector}
use Rattle.iom_virtio_blk.proofs.memory_disk.zero_sector.Goals as goal

pub returns : goal.returns
unfolding zero_sector
returns c = refl

-- At power-on no block device waits for anything else than its own access in flight.
use Rattle.std.specs.Prelude.{ℕ, List}
use Rattle.iom_virtio_blk.specs.DiskStates.{DiskState}
use Rattle.iom_world.specs.EachWaits.{EachWaitsInFlight}
use Rattle.iom_world.specs.PowerOn.{BeginsFrom}
use Rattle.iom_world.specs.Shown.{Shown}
use Rattle.iom_world.proofs.WaitLemmas.{no_blocks_wait}

pub begins_waiting : (first_fence frames levels : ℕ) (disks : List DiskState) (new : Shown) → BeginsFrom first_fence frames levels disks new → EachWaitsInFlight new
begins_waiting first_fence frames levels disks new begins = no_blocks_wait new begins.blocks

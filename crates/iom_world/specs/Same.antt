-- When two worlds without block devices are equal. How many events there were is no matter. Block devices and their disks aren't compared: a world that has
-- any is the same as no other.
use Rattle.std.specs.Prelude.{◌≡◌, []}
use Rattle.iom_board.specs.Same.{IsSameBoard}
use Rattle.iom_driver.specs.Same.{IsSameDriver}
use Rattle.iom_virtio_blk.specs.declared.disk.Disk.{Ghosts}
use Rattle.iom_world.specs.declared.world.World.{World}

-- no block device is plugged in, and no disk is at hand
pub record HasNoBlocks {D : Type 0} {d : Ghosts D} (world : World D d) : Type 0 where
  pub blocks : world.hardware.blocks.items ≡ []
  pub at_hand : world.hardware.at_hand.items ≡ []

-- their hardware is equal, and so are their drivers, and there are block devices or disks in neither
pub record IsSameWorld {D : Type 0} {d : Ghosts D} (one other : World D d) : Type 0 where
  pub hardware : IsSameBoard one.hardware.board other.hardware.board
  pub driver : IsSameDriver one.driver other.driver
  pub no_blocks : HasNoBlocks one
  pub no_other_blocks : HasNoBlocks other

-- What is true of a world and of the requests that are under way beside it, whatever happens.
use Rattle.std.specs.Prelude.{List}
use Rattle.iom_board.specs.BoardParts.{board_parts}
use Rattle.iom_stepped_hardware.specs.Beside.{AreBesideHardware}
use Rattle.iom_virtio_blk.specs.DiskStates.{DiskState}
use Rattle.iom_virtio_blk.specs.declared.disk.Disk.{Ghosts}
use Rattle.iom_walks.specs.Walks.{WalkRow}
use Rattle.iom_world.specs.Shown.{inside_of, parts_of}
use Rattle.iom_world.specs.declared.world.World.{World}
use Rattle.iom_world_walks.specs.Invariant.{SteppedInvariant}

-- they are beside its hardware
abbrev pub AreBesideWorld : {D : Type 0} {d : Ghosts D} → (D → DiskState) → World D d → List WalkRow → Type 0
AreBesideWorld shown world rows = AreBesideHardware (board_parts world.hardware.board) (inside_of shown world).blocks rows

-- and each stands in the directory, or in tables that the driver wrote for its device, as memory is now: there are walks of which the facts on copies hold, and each
-- request stands as one of them
pub record AreSound {D : Type 0} {d : Ghosts D} (shown : D → DiskState) (world : World D d) (rows : List WalkRow) : Type 0 where
  pub invariant : ∥ SteppedInvariant (parts_of world) rows world.hardware.board.events ∥₁
  pub beside : AreBesideWorld shown world rows

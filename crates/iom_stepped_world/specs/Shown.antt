-- A world beside which requests are under way, as it is seen.
use Rattle.std.specs.Prelude.{List}
use Rattle.iom_stepped_refinement.specs.Runs.{Moment}
use Rattle.iom_virtio_blk.specs.DiskStates.{DiskState}
use Rattle.iom_virtio_blk.specs.declared.disk.Disk.{Ghosts}
use Rattle.iom_walks.specs.Walks.{WalkRow}
use Rattle.iom_world.specs.Shown.{Shown, shown_of}
use Rattle.iom_world.specs.declared.world.World.{World}

-- a world as it is seen, and what is under way
pub record SteppedShown : Type 0 where
  pub world : Shown
  pub rows : List WalkRow

abbrev pub stepped_of : {D : Type 0} {d : Ghosts D} → (D → DiskState) → World D d → List WalkRow → SteppedShown
stepped_of shown world rows = record { world = shown_of shown world; rows = rows }

-- but for what is inside its block devices
abbrev pub moment : SteppedShown → Moment
moment shown = record { parts = shown.world.parts; rows = shown.rows; disks = shown.world.disks; events = shown.world.events }

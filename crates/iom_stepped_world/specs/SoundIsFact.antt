-- That a world and its requests under way are sound is a fact: it has one proof at most, so a struct that has both can carry it.
-- For such structs alone; no public contract cites these.
use Rattle.std.specs.Prelude.{List}
use Rattle.std.proofs.Props.{props}
use Rattle.iom_stepped_hardware.specs.BesideIsFact.{are_beside_hardware_prop}
use Rattle.iom_stepped_world.specs.Sound.{AreSound}
use Rattle.iom_virtio_blk.specs.DiskStates.{DiskState}
use Rattle.iom_virtio_blk.specs.declared.disk.Disk.{Ghosts}
use Rattle.iom_walks.specs.Walks.{WalkRow}
use Rattle.iom_world.specs.declared.world.World.{World}

pub are_sound_prop : {D : Type 0} {d : Ghosts D} (shown : D → DiskState) (world : World D d) (rows : List WalkRow) → IsProp (AreSound shown world rows)
are_sound_prop shown world rows = hlevel (props, are_beside_hardware_prop)

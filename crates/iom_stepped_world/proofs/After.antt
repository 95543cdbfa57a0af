-- A world after a call of its hardware, as it is seen: its driver stays.
use Rattle.std.proofs.Common.{List}
use Rattle.iom_driver.specs.State.{DriverState}
use Rattle.iom_hardware.specs.Inside.{inside}
use Rattle.iom_hardware.specs.declared.hardware.Hardware.{Hardware}
use Rattle.iom_stepped_world.specs.Shown.{SteppedShown}
use Rattle.iom_virtio_blk.specs.DiskStates.{DiskState}
use Rattle.iom_virtio_blk.specs.declared.disk.Disk.{Ghosts}
use Rattle.iom_walks.specs.Walks.{WalkRow}
use Rattle.iom_world.proofs.OfHardware.{with_driver}

abbrev pub shown_after : {D : Type 0} {d : Ghosts D} → (D → DiskState) → Hardware D d → DriverState → List WalkRow → SteppedShown
shown_after shown hardware driver rows = record {
  world = record { parts = with_driver hardware.board driver; disks = hardware.board.disks.items; inside = inside shown hardware; events = hardware.board.events };
  rows = rows;
}

-- What a world is, for a litmus test: what later answers can depend on.
use Rattle.std.specs.Prelude.{◌≡◌, ℕ, Bool, List, Option}
use Rattle.iom_driver.specs.declared.device.Device.{Device}
use Rattle.iom_driver.specs.declared.driver.Driver.{Driver}
use Rattle.iom_frame_set.specs.Sets.{Words}
use Rattle.iom_ledger.specs.Same.{rows_of_devices}
use Rattle.iom_ledger.specs.declared.page_row.PageRow.{PageRow}
use Rattle.iom_ledger.specs.declared.pending.Pending.{Pending}
use Rattle.iom_ledger.specs.declared.row.Row.{Row}
use Rattle.iom_base.specs.declared.owner.Owner.{Owner}
use Rattle.iom_virtio_blk.specs.declared.disk.Disk.{Ghosts}
use Rattle.iom_world.specs.declared.world.World.{World}
use Rattle.iom_litmus_looks.specs.Places.{HardwarePlace, hardware_place, ids_of}

-- What the driver keeps: its ledger, row by row, whose each frame is, the devices, and its numbers. How much room lists have isn't part of it.
pub record DriverPlace : Type 0 where
  pub pages : List (ℕ × List (ℕ × PageRow))
  pub rows : List Row
  pub free : Words
  pub pending : List Pending
  pub ascending : Bool
  pub owners : List (Option Owner)
  pub devices : List Device
  pub frames : ℕ
  pub levels : ℕ
  pub started : Bool
  pub given : ℕ
  pub confirmed : ℕ
  pub restarts : ℕ
  pub restarted : ℕ

abbrev pub driver_place : Driver → DriverPlace
driver_place driver = record {
  pages = rows_of_devices driver.ledger.devices;
  rows = driver.ledger.frames.rows.items;
  free = driver.ledger.frames.free;
  pending = driver.ledger.pending.items;
  ascending = driver.ledger.ascending;
  owners = driver.owners;
  devices = driver.devices.items;
  frames = driver.frames;
  levels = driver.levels;
  started = driver.started;
  given = driver.given;
  confirmed = driver.confirmed;
  restarts = driver.restarts;
  restarted = driver.restarted;
}

-- hardware and driver
pub record WorldPlace : Type 0 where
  pub hardware : HardwarePlace
  pub driver : DriverPlace

abbrev pub place_of : {D : Type 0} {d : Ghosts D} → World D d → WorldPlace
place_of world = record { hardware = hardware_place world.hardware.board; driver = driver_place world.driver }

-- the same, with the ids of the devices
pub record Tested : Type 0 where
  pub place : WorldPlace
  pub ids : List ℕ

abbrev pub AreListed : Tested → Type 0
AreListed tested = tested.ids ≡ ids_of tested.place.hardware.devices

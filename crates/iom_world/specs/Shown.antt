-- A world by its parts, the commands that wait in it, the disks at hand, and what is inside its block devices.
use Rattle.std.specs.Prelude.{ℕ, List}
use Rattle.iom_block_devices.specs.Shown.{ShownBlocks}
use Rattle.iom_command_queue.specs.declared.entry.QueueEntry.{QueueEntry}
use Rattle.iom_command_queue.specs.Waiting.{commands_in}
use Rattle.iom_driver.specs.StateOf.{state_of}
use Rattle.iom_hardware.specs.Inside.{inside}
use Rattle.iom_iommu.specs.Parts.{registers_of}
use Rattle.iom_virtio_blk.specs.declared.disk.Disk.{Ghosts}
use Rattle.iom_virtio_blk.specs.DiskStates.{DiskState}
use Rattle.iom_world.specs.declared.world.World.{World}
use Rattle.iom_world_effects.specs.Parts.{Parts}

abbrev pub parts_of : {D : Type 0} {d : Ghosts D} → World D d → Parts
parts_of world = record {
  memory = world.hardware.board.memory;
  iommu = world.hardware.board.iommu;
  driver = state_of world.driver;
  devices = world.hardware.board.devices.items;
  fabric = world.hardware.board.fabric;
}

-- the numbers of the disks that were never put into a device
abbrev pub disks_of : {D : Type 0} {d : Ghosts D} → World D d → List ℕ
disks_of world = world.hardware.board.disks.items

-- the block devices themselves, and the disks at hand; `shown` is that of the disk's trait
abbrev pub inside_of : {D : Type 0} {d : Ghosts D} → (D → DiskState) → World D d → ShownBlocks
inside_of shown world = inside shown world.hardware

-- a world as it is seen: its parts, the numbers of the disks at hand, what is inside the block devices, and how many events there were
pub record Shown : Type 0 where
  pub parts : Parts
  pub disks : List ℕ
  pub inside : ShownBlocks
  pub events : ℕ

abbrev pub shown_of : {D : Type 0} {d : Ghosts D} → (D → DiskState) → World D d → Shown
shown_of shown world = record { parts = parts_of world; disks = disks_of world; inside = inside_of shown world; events = world.hardware.board.events }

abbrev pub commands_of : Shown → List QueueEntry
commands_of shown = commands_in shown.parts.memory (registers_of shown.parts.iommu)

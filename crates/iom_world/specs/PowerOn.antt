-- A world at power-on, whole: the machine's state that it shows, and what the machine doesn't see.
use Rattle.std.specs.Prelude.{◌≡◌, ℕ, List, [], map, replicate}
use Rattle.iom_block_devices.specs.Numbered.{disk_number_of, numbered}
use Rattle.iom_machine.specs.PowerOn.{model_limits, opening}
use Rattle.iom_phys_mem.specs.Words.{zeroed}
use Rattle.iom_virtio_blk.specs.DiskStates.{DiskState}
use Rattle.iom_world_effects.specs.PowerOn.{IsStartedDriver, IsStartedIommu}
use Rattle.iom_world.specs.Shown.{Shown, commands_of}
use Rattle.iom_world.specs.Shows.{Shows}

-- THE WORLD BEGINS, with so many frames of memory and levels of the device directory, with these disks, whose numbers are their places, from 0, and with all
-- numbers of fences below the first used up: it shows the machine at power-on; each byte of memory is zero, those of the system's frames too; its IOMMU was at
-- power-on, and its driver was new, and the driver started both, from that fence; no device is plugged in, no command waits, no message is under way, all disks
-- are at hand, and no event was counted
pub record BeginsFrom (first_fence frames levels : ℕ) (disks : List DiskState) (new : Shown) : Type 0 where
  pub shows : Shows new (opening model_limits frames levels (map disk_number_of (numbered 0 disks)))
  pub memory : new.parts.memory ≡ replicate frames zeroed
  pub iommu : IsStartedIommu frames levels new.parts.iommu
  pub driver : IsStartedDriver first_fence frames levels new.parts.driver
  pub devices : new.parts.devices ≡ []
  pub commands : commands_of new ≡ []
  pub fabric : new.parts.fabric ≡ []
  pub blocks : new.inside.blocks ≡ []
  pub at_hand : new.inside.at_hand ≡ numbered 0 disks
  pub events : new.events ≡ 0

-- the same, with no number of a fence used up: the first fence has number 1
abbrev pub BeginsAt : ℕ → ℕ → List DiskState → Shown → Type 0
BeginsAt = BeginsFrom 1

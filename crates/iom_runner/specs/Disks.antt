-- The disks that a script is run with.
use Rattle.std.specs.Prelude.{Bool, List}
use Rattle.iom_block_devices.specs.Shown.{states_of}
use Rattle.iom_program_disks.specs.Disks.{program_disks}
use Rattle.iom_virtio_blk.specs.DiskStates.{DiskState}
use Rattle.iom_runner.specs.Text.{Setting}

-- with these disks, and with counts or without; `shown` is that of the disk's trait
abbrev pub setting_of : {D : Type 0} → (D → DiskState) → List D → Bool → Setting
setting_of shown disks counts = record { disks = states_of shown disks; counts = counts }

-- what the program runs a script with
abbrev pub program_setting : Bool → Setting
program_setting counts = record { disks = program_disks; counts = counts }

-- What is inside the block devices of a hardware.
use Rattle.iom_block_devices.specs.Shown.{ShownBlocks, all_shown}
use Rattle.iom_virtio_blk.specs.declared.disk.Disk.{Ghosts}
use Rattle.iom_virtio_blk.specs.DiskStates.{DiskState}
use Rattle.iom_hardware.specs.declared.hardware.Hardware.{Hardware}

-- the block devices themselves, and the disks at hand; `shown` is that of the disk's trait
abbrev pub inside : {D : Type 0} {d : Ghosts D} → (D → DiskState) → Hardware D d → ShownBlocks
inside shown hardware = all_shown shown hardware.blocks.items hardware.at_hand.items

-- What stays true of hardware, whatever is done to it.
use Rattle.std.specs.Prelude.{◌≤◌, vec_capacity}
use Rattle.iom_base.specs.Sizes.{device_limit}
use Rattle.iom_board.specs.BoardParts.{board_parts}
use Rattle.iom_board.specs.Invariant.{BoardInvariant}
use Rattle.iom_virtio_blk.specs.declared.disk.Disk.{Ghosts}
use Rattle.iom_hardware.specs.declared.hardware.Hardware.{Hardware}
use Rattle.iom_hardware.specs.Agreement.{AgreesWith}

-- its board keeps its invariant, the block devices agree with it, and there is room for as many as there may be devices
pub record HardwareInvariant {D : Type 0} {d : Ghosts D} (hardware : Hardware D d) : Type 0 where
  pub board : BoardInvariant (board_parts hardware.board) hardware.board.events
  pub agrees : AgreesWith hardware.board.devices.items hardware.board.disks.items hardware.blocks.items hardware.at_hand.items
  pub room : device_limit ≤ vec_capacity hardware.blocks

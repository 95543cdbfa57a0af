-- Hardware at power-on.
use Rattle.std.specs.Prelude.{◌≡◌, ℕ, List, [], map}
use Rattle.iom_block_devices.specs.Numbered.{numbered, disk_number_of}
use Rattle.iom_block_devices.specs.Shown.{ShownBlocks}
use Rattle.iom_board.specs.declared.board.Board.{Board}
use Rattle.iom_board.specs.PowerOn.{IsBoardAtPowerOn}
use Rattle.iom_virtio_blk.specs.DiskStates.{DiskState}

-- the board is, with so many frames of memory; no block device is plugged in, and all these disks are at hand, by their places, from 0
pub record IsHardwareAtPowerOn (frames : ℕ) (disks : List DiskState) (board : Board) (inside : ShownBlocks) : Type 0 where
  pub begins : IsBoardAtPowerOn frames (map disk_number_of (numbered 0 disks)) board
  pub blocks : inside.blocks ≡ []
  pub at_hand : inside.at_hand ≡ numbered 0 disks

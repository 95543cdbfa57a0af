-- The parts of a board: what each of its calls speaks of.
use Rattle.std.specs.Prelude.{ℕ, List}
use Rattle.iom_device.specs.declared.device.Device.{Device}
use Rattle.iom_fabric.specs.declared.fabric.OnLink.{OnLink}
use Rattle.iom_iommu.specs.OwnIommu.{Iommu}
use Rattle.iom_board.specs.declared.board.Board.{Board}

-- the bytes of each frame, the IOMMU, the devices in the order of plugging, and the messages under way
pub record BoardParts : Type 0 where
  pub memory : List (List ℕ)
  pub iommu : Iommu
  pub devices : List Device
  pub fabric : List OnLink

abbrev pub board_parts : Board → BoardParts
board_parts board =
    record { memory = board.memory; iommu = board.iommu; devices = board.devices.items; fabric = board.fabric }

-- the numbers of the disks that were never put into a device
abbrev pub disks_at_hand : Board → List ℕ
disks_at_hand board = board.disks.items

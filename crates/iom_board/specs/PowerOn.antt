-- A board at power-on.
use Rattle.std.specs.Prelude.{◌≡◌, ℕ, List, [], replicate}
use Rattle.iom_iommu.specs.Parts.{IsAtPowerOn}
use Rattle.iom_phys_mem.specs.Words.{zeroed}
use Rattle.iom_board.specs.declared.board.Board.{Board}

-- so many frames of memory, all zero; the IOMMU at power-on; disks of these numbers, which were never in a device; no device, no message, and no event so far
pub record IsBoardAtPowerOn (frames : ℕ) (disks : List ℕ) (board : Board) : Type 0 where
  pub memory : board.memory ≡ replicate frames zeroed
  pub iommu : IsAtPowerOn frames board.iommu
  pub devices : board.devices.items ≡ []
  pub fabric : board.fabric ≡ []
  pub at_hand : board.disks.items ≡ disks
  pub events : board.events ≡ 0

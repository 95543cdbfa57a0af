-- When two boards are equal, for whatever may still come.
use Rattle.std.specs.Prelude.{◌≡◌}
use Rattle.iom_board.specs.declared.board.Board.{Board}

-- Each part is. How many events there were isn't asked: that counts what was called, and nothing that a board does or answers depends on it.
-- How much room the lists have is no matter either.
pub record IsSameBoard (one other : Board) : Type 0 where
  pub memory : one.memory ≡ other.memory
  pub iommu : one.iommu ≡ other.iommu
  pub devices : one.devices.items ≡ other.devices.items
  pub fabric : one.fabric ≡ other.fabric
  pub disks : one.disks.items ≡ other.disks.items

-- Every call is an event, and is counted; the disks at hand stay, but where one is put into a device.
use Rattle.std.specs.Prelude.{◌≡◌, ◌+◌}
use Rattle.iom_board.specs.BoardParts.{disks_at_hand}
use Rattle.iom_board.specs.declared.board.Board.{Board}

pub record IsCounted (old new : Board) : Type 0 where
  pub events : new.events ≡ old.events + 1
  pub disks : disks_at_hand new ≡ disks_at_hand old

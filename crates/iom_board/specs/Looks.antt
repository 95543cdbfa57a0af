-- A fetch, and its first part: a look at the front of the command queue. Where that finds a command the fetch goes on, else the look is all of it.
use Rattle.std.specs.Prelude.{◌≡◌}
use Rattle.iom_iommu.specs.declared.fetched.Fetched.{Fetched}
use Rattle.iom_iommu.specs.declared.fetched.Fetched.TheVariants.{Empty, Stopped}
use Rattle.iom_iommu.specs.declared.front.Front.{Front}
use Rattle.iom_iommu.specs.declared.front.Front.TheVariants as front
use Rattle.iom_iommu.specs.Fetches.{IsAtCommand}
use Rattle.iom_board.specs.BoardParts.{board_parts}
use Rattle.iom_board.specs.Commits.{TakesCommand}
use Rattle.iom_board.specs.Counted.{IsCounted}
use Rattle.iom_board.specs.Invariant.{BoardInvariant}
use Rattle.iom_board.specs.declared.board.Board.{Board}

-- a whole fetch, with its answer: the board keeps its invariant, and the event is counted
pub record FetchesOnce (old : Board) (fetched : Fetched) (new : Board) : Type 0 where
  pub effect : TakesCommand (board_parts old) fetched (board_parts new)
  pub invariants : BoardInvariant (board_parts new) new.events
  pub counted : IsCounted old new

-- A LOOK: of a queue that is stopped or empty it is a whole fetch; before a command nothing changes, and nothing is counted yet
abbrev pub LooksForCommand : Board → Front → Board → Type 0
LooksForCommand old front.Stopped new = FetchesOnce old Stopped new
LooksForCommand old front.Empty new = FetchesOnce old Empty new
LooksForCommand old front.Command new = (new ≡ old) × IsAtCommand old.iommu

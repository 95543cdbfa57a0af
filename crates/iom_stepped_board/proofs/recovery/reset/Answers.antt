use Rattle.std.proofs.Common.{List, subst, sym}
use Rattle.iom_board.specs.BoardParts.{board_parts}
use Rattle.iom_stepped_board.specs.Beside.{AreBeside}
use Rattle.iom_stepped_board.proofs.SoundEvents.{reset_beside}
use Rattle.iom_stepped_board.proofs.recovery.reset.Goals as goal
use Rattle.iom_walks.specs.Walks.{WalkRow}

pub returns-clause-beside : goal.returns-clause-beside
returns-clause-beside c =
    subst (λ (rows : List WalkRow). AreBeside (board_parts c.reset.new.self) rows) (sym c.give_up.ensures)
    (reset_beside (board_parts c.args.board.now) (board_parts c.reset.new.self) c.args.walks.now c.args.board.now.events c.args.id c.reset.result c.requires.invariants c.requires.beside
    c.reset.ensures.effect)

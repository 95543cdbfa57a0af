use Rattle.std.proofs.Common.{List, subst, sym}
use Rattle.iom_board.specs.BoardParts.{board_parts}
use Rattle.iom_stepped_board.specs.Beside.{AreBeside}
use Rattle.iom_stepped_board.proofs.SoundEvents.{gone_beside}
use Rattle.iom_stepped_board.proofs.recovery.remove_disk.Goals as goal
use Rattle.iom_walks.specs.Walks.{WalkRow}

pub returns-clause-beside : goal.returns-clause-beside
returns-clause-beside c =
    subst (λ (rows : List WalkRow). AreBeside (board_parts c.remove_disk.new.self) rows) (sym c.give_up.ensures)
    (gone_beside (board_parts c.args.board.now) (board_parts c.remove_disk.new.self) c.args.walks.now c.args.board.now.events c.args.id c.remove_disk.result c.requires.invariants c.requires.beside
    c.remove_disk.ensures.effect)

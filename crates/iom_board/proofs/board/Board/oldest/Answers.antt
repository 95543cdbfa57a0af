use Rattle.iom_board.specs.BoardParts.{board_parts}
use Rattle.iom_board.proofs.MakeLemmas.{would_make}
use Rattle.iom_board.proofs.board.Board.oldest.Goals as goal

pub returns-clause-commit : goal.returns-clause-commit
returns-clause-commit c = would_make (board_parts c.args.self.now) c.args.id c.oldest.result c.oldest.ensures.commit

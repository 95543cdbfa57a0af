use Rattle.std.proofs.Common.{refl}
use Rattle.iom_board.specs.BoardParts.{BoardParts, board_parts}
use Rattle.iom_board.proofs.LookLemmas.{fetched_sound}
use Rattle.iom_board.proofs.board.Board.fetch_next.Goals as goal

pub returns-clause-invariants : goal.returns-clause-invariants
returns-clause-invariants c =
    let h = c.args.self.now in
    let old : BoardParts = board_parts h in
    let new : BoardParts = record old { memory = c.fetch_next-answer.new.memory; iommu = c.fetch_next-answer.new.self; fabric = c.send_opened.new.fabric } in
    fetched_sound old c.fetch_next-answer.result new h.events c.requires.invariants (record { call = c.fetch_next-answer.ensures; devices = refl; fabric = cc })

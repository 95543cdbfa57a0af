use Rattle.iom_board.specs.BoardParts.{board_parts}
use Rattle.iom_hardware_alone_tests.proofs.stepped.Machine.questions.Goals as goal

pub invariant_of-self : goal.invariant_of-self
invariant_of-self g c =
    let old = c.args.self.now in
    record {
      invariants = c.ask-sent.ensures.invariants;
      beside = c.events_stay_beside.ensures.question (board_parts old.board) (board_parts c.ask-sent.new.self) old.walks c.args.id c.expect-page.result c.ask-sent.result old.beside c.ask-sent.ensures.effect;
    }

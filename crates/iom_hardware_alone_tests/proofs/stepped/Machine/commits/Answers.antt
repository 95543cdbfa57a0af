use Rattle.iom_board.specs.BoardParts.{board_parts}
use Rattle.iom_hardware_alone_tests.proofs.stepped.Machine.commits.Goals as goal

pub invariant_of-self : goal.invariant_of-self
invariant_of-self g c =
    let old = c.args.self.now in
    record {
      invariants = c.commit.ensures.invariants;
      beside = c.events_stay_beside.ensures.commit (board_parts old.board) (board_parts c.commit.new.self) old.walks c.args.id c.commit.result old.beside c.commit.ensures.effect;
    }

use Rattle.iom_board.specs.BoardParts.{board_parts}
use Rattle.iom_hardware_alone_tests.proofs.stepped.Machine.delivers.Goals as goal

pub invariant_of-self : goal.invariant_of-self
invariant_of-self g c =
    let old = c.args.self.now in
    record {
      invariants = c.deliver-delivered.ensures.invariants;
      beside = c.events_stay_beside.ensures.delivery (board_parts old.board) (board_parts c.deliver-delivered.new.self) old.walks c.args.place c.deliver-delivered.result old.beside c.deliver-delivered.ensures.effect;
    }

use Rattle.iom_registers.specs.Places.{register_at}
use Rattle.iom_board.specs.BoardParts.{board_parts}
use Rattle.iom_chronicle_tests.proofs.Written.{written_sound}
use Rattle.iom_chronicle_tests.proofs.machine.Machine.write.Goals as goal

pub invariant_of-self : goal.invariant_of-self
invariant_of-self g c =
    let h = c.args.self.now.hardware in
    record {
      invariants = written_sound c.software_keeps_invariant.ensures.keeps c.software_keeps_invariant.ensures.writes (board_parts h) h.events c.args.value (register_at c.args.offset c.args.width)
          c.write-written.new.self c.args.self.now.invariants c.write-written.ensures.left;
    }

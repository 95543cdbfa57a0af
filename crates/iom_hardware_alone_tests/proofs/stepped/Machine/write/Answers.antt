use Rattle.iom_registers.specs.Places.{register_at}
use Rattle.iom_board.specs.BoardParts.{board_parts}
use Rattle.iom_hardware_alone_tests.proofs.Written.{written_beside, written_sound}
use Rattle.iom_hardware_alone_tests.proofs.stepped.Machine.write.Goals as goal

pub invariant_of-self : goal.invariant_of-self
invariant_of-self g c =
    let h = c.args.self.now in
    record {
      invariants = written_sound c.software_keeps_invariant.ensures.keeps c.software_keeps_invariant.ensures.writes (board_parts h.board) h.board.events c.args.value
          (register_at c.args.offset c.width_at-width.result) c.write-written.new.self c.args.self.now.invariants c.write-written.ensures.left;
      beside = written_beside c.stays_beside.ensures.software c.software_keeps_invariant.ensures.writes (board_parts h.board) h.walks c.args.value (register_at c.args.offset c.width_at-width.result)
          c.write-written.new.self c.args.self.now.beside c.write-written.ensures.left;
    }

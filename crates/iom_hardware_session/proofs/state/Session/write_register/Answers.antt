use Rattle.iom_board.specs.BoardParts.{board_parts}
use Rattle.iom_hardware.specs.Inside.{inside}
use Rattle.iom_registers.specs.Places.{register_at}
use Rattle.iom_virtio_blk.specs.MemoryDisks.{disk_state}
use Rattle.iom_hardware_session.proofs.SoftwareLemmas.{after_writes, walks_stay}
use Rattle.iom_hardware_session.proofs.state.Session.write_register.Goals as goal

pub invariant_of-self : goal.invariant_of-self
invariant_of-self c =
    let session = c.args.self.now in
    let parts = board_parts session.hardware.board in
    let changes = after_writes c.software_keeps_invariant.ensures.writes parts c.args.value (register_at c.args.offset c.width_of.result) c.write.new.self c.write.ensures.left in
    record {
      invariants = c.software_keeps_invariant.ensures.keeps parts _ session.hardware.board.events session.invariants changes;
      agrees = session.agrees;
      sound = walks_stay c.events_stay_beside.ensures.software parts _ (inside disk_state session.hardware).blocks session.beside session.sound changes;
      room = session.room;
    }

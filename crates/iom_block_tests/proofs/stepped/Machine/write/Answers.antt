use Rattle.std.proofs.Common.{refl}
use Rattle.iom_block_devices.specs.Shown.{shown_blocks}
use Rattle.iom_board.specs.BoardParts.{board_parts}
use Rattle.iom_hardware.proofs.AgreementLemmas.{sound_after}
use Rattle.iom_registers.specs.Places.{register_at}
use Rattle.iom_virtio_blk.specs.MemoryDisks.{disk_state}
use Rattle.iom_block_tests.proofs.Written.{written_beside, written_sound}
use Rattle.iom_block_tests.proofs.stepped.Machine.write.Goals as goal

pub invariant_of-self : goal.invariant_of-self
invariant_of-self g c =
    let old = c.args.self.now in
    let hardware = old.hardware in
    let register = register_at c.args.offset c.args.width in
    record {
      invariants = sound_after hardware (record { board = record hardware.board { iommu = c.write-written.new.self }; blocks = hardware.blocks; at_hand = hardware.at_hand }) old.invariants
          (written_sound c.software_keeps_invariant.ensures.keeps c.software_keeps_invariant.ensures.writes (board_parts hardware.board) hardware.board.events c.args.value register
          c.write-written.new.self old.invariants.board c.write-written.ensures.left)
          refl refl refl refl refl;
      beside = written_beside c.events_stay_beside.ensures.software c.software_keeps_invariant.ensures.writes (board_parts hardware.board) (shown_blocks disk_state hardware.blocks.items)
          old.walks c.args.value register c.write-written.new.self old.beside c.write-written.ensures.left;
    }

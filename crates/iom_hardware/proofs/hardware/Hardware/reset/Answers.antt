use Rattle.std.proofs.Common.{refl}
use Rattle.iom_board.specs.BoardParts.{board_parts}
use Rattle.iom_hardware.proofs.AgreementLemmas.{sound_after}
use Rattle.iom_hardware.proofs.KeptBlocks.{was_reset}
use Rattle.iom_hardware.proofs.hardware.Hardware.reset.Goals as goal

pub returns-clause-invariants : goal.returns-clause-invariants
returns-clause-invariants g c =
    let old = c.args.self.now in
    sound_after old (record { board = c.reset.new.self; blocks = c.reset-2.new.blocks; at_hand = old.at_hand }) c.requires.invariants c.reset.ensures.invariants
    (was_reset (board_parts old.board) (board_parts c.reset.new.self) c.args.id c.reset.result c.reset.ensures.effect) c.reset.ensures.counted.disks c.reset-2.ensures.entries refl c.reset-2.ensures.room

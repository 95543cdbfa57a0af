use Rattle.std.proofs.Common.{refl}
use Rattle.iom_board.specs.BoardParts.{board_parts}
use Rattle.iom_hardware.proofs.AgreementLemmas.{sound_after}
use Rattle.iom_hardware.proofs.KeptBlocks.{was_delivered}
use Rattle.iom_hardware.proofs.hardware.Hardware.deliver.Goals as goal

pub returns-in-Some-refused_page-clause-invariants : goal.returns-in-Some-refused_page-clause-invariants
returns-in-Some-refused_page-clause-invariants g c =
    let old = c.args.self.now in
    sound_after old (record { board = c.deliver-delivered.new.self; blocks = c.hear_refusal.new.blocks; at_hand = old.at_hand }) c.requires.invariants c.deliver-delivered.ensures.invariants
    (was_delivered (board_parts old.board) (board_parts c.deliver-delivered.new.self) c.args.place c.deliver-delivered.result c.deliver-delivered.ensures.effect) c.deliver-delivered.ensures.counted.disks
    c.hear_refusal.ensures.entries refl c.hear_refusal.ensures.room

pub returns-then-not-counts-clause-invariants : goal.returns-then-not-counts-clause-invariants
returns-then-not-counts-clause-invariants g c =
    let old = c.args.self.now in
    sound_after old (record { board = c.deliver-delivered.new.self; blocks = old.blocks; at_hand = old.at_hand }) c.requires.invariants c.deliver-delivered.ensures.invariants
    (was_delivered (board_parts old.board) (board_parts c.deliver-delivered.new.self) c.args.place c.deliver-delivered.result c.deliver-delivered.ensures.effect) c.deliver-delivered.ensures.counted.disks refl refl refl

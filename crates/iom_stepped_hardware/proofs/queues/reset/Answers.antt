use Rattle.std.proofs.Common.{List, sym, subst}
use Rattle.iom_block_devices.specs.Changes.{IsReset}
use Rattle.iom_board.specs.BoardParts.{board_parts}
use Rattle.iom_hardware.specs.Inside.{inside}
use Rattle.iom_stepped_board.proofs.SoundEvents.{reset_beside}
use Rattle.iom_walks.specs.Walks.{WalkRow}
use Rattle.iom_stepped_hardware.specs.Beside.{AreBesideHardware}
use Rattle.iom_stepped_hardware.proofs.AskLemmas.{given_up_asks, others_stay}
use Rattle.iom_stepped_hardware.proofs.QueueLemmas.{reset_kinds}
use Rattle.iom_stepped_hardware.proofs.queues.reset.Goals as goal

pub returns-clause-beside : goal.returns-clause-beside
returns-clause-beside g c =
    let old = c.args.hardware.now in
    let new = c.reset.new.self in
    let before = inside g.D.Disk.shown old in
    let after = inside g.D.Disk.shown new in
    subst (λ (rows : List WalkRow). AreBesideHardware (board_parts new.board) after.blocks rows) (sym c.give_up.ensures)
    (record {
      board = reset_beside (board_parts old.board) (board_parts new.board) c.args.walks.now old.board.events c.args.id c.reset.result c.requires.invariants.board c.requires.beside.board
          c.reset.ensures.effect;
      asking = given_up_asks old.board.devices.items new.board.devices.items before.blocks after.blocks c.args.walks.now c.args.id c.requires.beside.asking
          (λ other ne. reset_kinds (board_parts old.board) (board_parts new.board) c.args.id c.reset.result other c.reset.ensures.effect)
          (others_stay IsReset before.blocks after.blocks c.args.id c.in_ok-reset.ensures.inside.0);
    })

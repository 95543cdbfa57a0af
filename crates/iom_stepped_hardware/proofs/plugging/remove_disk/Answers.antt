use Rattle.std.proofs.Common.{◌∙◌, List, ap, sym, subst}
use Rattle.iom_block_devices.specs.Changes.{IsGivenUp}
use Rattle.iom_board.specs.BoardParts.{BoardParts, board_parts}
use Rattle.iom_device.specs.Caches.{kind_in, with_has_disk}
use Rattle.iom_hardware.specs.Inside.{inside}
use Rattle.iom_hardware.proofs.PlugLemmas.{disk_gone}
use Rattle.iom_stepped_board.proofs.SoundEvents.{gone_beside}
use Rattle.iom_walks.specs.Walks.{WalkRow}
use Rattle.iom_stepped_hardware.specs.Beside.{AreBesideHardware}
use Rattle.iom_stepped_hardware.proofs.AskLemmas.{given_up_asks, others_stay}
use Rattle.iom_stepped_hardware.proofs.SameKinds.{kind_block_reset, kind_has}
use Rattle.iom_stepped_hardware.proofs.plugging.remove_disk.Goals as goal

pub returns-clause-beside : goal.returns-clause-beside
returns-clause-beside g c =
    let old = c.args.hardware.now in
    let new = c.remove_disk.new.self in
    let before = inside g.D.Disk.shown old in
    let after = inside g.D.Disk.shown new in
    let goes = disk_gone (board_parts old.board) (board_parts new.board) c.args.id c.remove_disk.result c.remove_disk.ensures.effect c.in_ok-remove_disk.was in
    subst (λ (rows : List WalkRow). AreBesideHardware (board_parts new.board) after.blocks rows) (sym c.give_up.ensures)
    (record {
      board = gone_beside (board_parts old.board) (board_parts new.board) c.args.walks.now old.board.events c.args.id c.remove_disk.result c.requires.invariants.board c.requires.beside.board
          c.remove_disk.ensures.effect;
      asking = given_up_asks old.board.devices.items new.board.devices.items before.blocks after.blocks c.args.walks.now c.args.id c.requires.beside.asking
          (λ other ne. ap (λ (parts : BoardParts). kind_in parts.devices other) goes.gone ∙ kind_block_reset (with_has_disk old.board.devices.items c.args.id _) c.args.id other
          ∙ kind_has old.board.devices.items c.args.id _ other)
          (others_stay IsGivenUp before.blocks after.blocks c.args.id c.in_ok-remove_disk.ensures.inside.0);
    })

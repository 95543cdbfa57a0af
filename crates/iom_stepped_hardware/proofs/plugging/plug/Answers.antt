use Rattle.iom_board.specs.BoardParts.{board_parts, disks_at_hand}
use Rattle.iom_hardware.specs.Inside.{inside}
use Rattle.iom_stepped_board.proofs.SoundEvents.{plugged_beside, walk_added}
use Rattle.iom_stepped_hardware.proofs.AskLaws.{plugged_asks}
use Rattle.iom_stepped_hardware.proofs.plugging.plug.Goals as goal

pub returns-clause-added : goal.returns-clause-added
returns-clause-added g c =
    let old = c.args.hardware.now.board in
    let new = c.plug.new.self.board in
    walk_added (disks_at_hand old) (board_parts old) (board_parts new) c.args.walks.now c.add.new.self old.events c.args.id c.args.what (disks_at_hand new) c.add.result
    c.requires.invariants.board c.requires.beside.board c.in_ok-plug.ensures.effect c.add.ensures

pub returns-clause-beside : goal.returns-clause-beside
returns-clause-beside g c =
    let old = c.args.hardware.now.board in
    let new = c.plug.new.self.board in
    let added = walk_added (disks_at_hand old) (board_parts old) (board_parts new) c.args.walks.now c.add.new.self old.events c.args.id c.args.what (disks_at_hand new) c.add.result
    c.requires.invariants.board c.requires.beside.board c.in_ok-plug.ensures.effect c.add.ensures in
    record {
      board = plugged_beside (disks_at_hand old) (board_parts old) (board_parts new) c.args.walks.now c.add.new.self c.args.id c.args.what (disks_at_hand new) c.requires.beside.board
          c.in_ok-plug.ensures.effect added;
      asking = plugged_asks (disks_at_hand old) (disks_at_hand new) (board_parts old) (board_parts new) (inside g.D.Disk.shown c.args.hardware.now) (inside g.D.Disk.shown c.plug.new.self)
          c.args.walks.now c.add.new.self c.args.id c.args.what c.requires.beside.asking c.in_ok-plug.ensures.effect c.in_ok-plug.ensures.inside added;
    }

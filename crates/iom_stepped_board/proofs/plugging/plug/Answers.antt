use Rattle.iom_board.specs.BoardParts.{board_parts, disks_at_hand}
use Rattle.iom_stepped_board.proofs.SoundEvents.{plugged_beside, walk_added}
use Rattle.iom_stepped_board.proofs.plugging.plug.Goals as goal

pub returns-clause-added : goal.returns-clause-added
returns-clause-added c =
    let h = c.args.board.now in
    walk_added (disks_at_hand h) (board_parts h) (board_parts c.plug.new.self) c.args.walks.now c.add.new.self h.events c.args.id c.args.what (disks_at_hand c.plug.new.self) c.add.result
    c.requires.invariants c.requires.beside c.in_ok-plug.ensures.effect c.add.ensures

pub returns-clause-beside : goal.returns-clause-beside
returns-clause-beside c =
    let h = c.args.board.now in
    plugged_beside (disks_at_hand h) (board_parts h) (board_parts c.plug.new.self) c.args.walks.now c.add.new.self c.args.id c.args.what (disks_at_hand c.plug.new.self)
    c.requires.beside c.in_ok-plug.ensures.effect
    (walk_added (disks_at_hand h) (board_parts h) (board_parts c.plug.new.self) c.args.walks.now c.add.new.self h.events c.args.id c.args.what (disks_at_hand c.plug.new.self) c.add.result
    c.requires.invariants c.requires.beside c.in_ok-plug.ensures.effect c.add.ensures)

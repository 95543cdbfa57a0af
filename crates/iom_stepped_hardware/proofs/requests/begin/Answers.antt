use Rattle.iom_block_devices.specs.Shown.{shown_blocks}
use Rattle.iom_board.specs.BoardParts.{board_parts}
use Rattle.iom_hardware.proofs.BlockThere.{able_there}
use Rattle.iom_iommu.specs.Requests.{access_of}
use Rattle.iom_stepped_hardware.proofs.AskEvents.{begun_asks}
use Rattle.iom_stepped_hardware.proofs.requests.begin.Goals as goal

pub returns-clause-beside : goal.returns-clause-beside
returns-clause-beside g c =
    let old = c.args.hardware.now in
    record {
      board = c.begin.ensures.beside;
      asking = begun_asks (board_parts old.board) (board_parts c.begin.new.board) (shown_blocks g.D.Disk.shown old.blocks.items) c.args.walks.now c.begin.new.walks c.args.id
          (access_of c.args.address c.args.len c.args.kind c.args.bytes.now) c.begin.result (able_there g.D.Disk.shown old c.requires.invariants c.args.id) c.requires.beside.asking
          c.begin.ensures.effect;
    }

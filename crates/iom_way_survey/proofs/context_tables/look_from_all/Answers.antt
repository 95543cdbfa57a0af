use Rattle.iom_board.specs.BoardParts.{board_parts}
use Rattle.iom_way_survey.specs.Along.{IsReachedOfSome, IsTableOfSome}
use Rattle.iom_way_survey.proofs.GrowLemmas.{adds_else, adds_where_asked, grew_else, grew_where}
use Rattle.iom_way_survey.proofs.context_tables.look_from_all.Goals as goal

pub returns-then-napot : goal.returns-then-napot
returns-then-napot c =
    let parts = board_parts c.args.hardware.now in record {
      rows = grew_where c.args.rows.now c.look_from_devices.new.rows c.args.napot (IsReachedOfSome parts) c.if-napot.true c.look_from_devices.ensures.rows;
      tables = adds_where_asked c.args.read.now c.look_from_devices.new.read c.args.napot (IsTableOfSome parts) c.if-napot.true c.look_from_devices.ensures.tables;
    }

pub returns-else-napot : goal.returns-else-napot
returns-else-napot c =
    let parts = board_parts c.args.hardware.now in record {
      rows = grew_else c.args.rows.now c.args.napot (IsReachedOfSome parts) c.if-napot.false;
      tables = adds_else c.args.read.now c.args.napot (IsTableOfSome parts) c.if-napot.false;
    }

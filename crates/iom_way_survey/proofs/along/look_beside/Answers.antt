use Rattle.std.proofs.Common.{◌≡◌, true}
use Rattle.iom_board.specs.BoardParts.{board_parts}
use Rattle.iom_table_survey.proofs.AddLemmas.{adds_then}
use Rattle.iom_way_survey.specs.Along.{IsReachedAlongSome, IsReachedOfSome, IsTableAlongSome, IsTableOfSome}
use Rattle.iom_way_survey.proofs.GrowLemmas.{grew_then}
use Rattle.iom_way_survey.proofs.along.look_beside.Goals as goal

pub returns : goal.returns
returns c =
    let parts = board_parts c.args.hardware.now in
    let pointers = c.args.pointers.now in
    let napot = c.args.napot in
    record {
      rows = grew_then c.args.rows.now c.look_from_all.new.rows c.look_along_all.new.rows (λ id kind f. (napot ≡ true) × IsReachedOfSome parts id kind f)
          (IsReachedAlongSome napot parts pointers) c.look_from_all.ensures.rows c.look_along_all.ensures.rows;
      tables = adds_then c.args.read.now c.look_from_all.new.read c.look_along_all.new.read (λ f. (napot ≡ true) × IsTableOfSome parts f)
          (IsTableAlongSome napot parts.memory pointers) c.look_from_all.ensures.tables c.look_along_all.ensures.tables;
    }

use Rattle.std.proofs.Common.{◌≡◌, true, refl, arith}
use Rattle.iom_board.specs.BoardParts.{board_parts}
use Rattle.iom_table_survey.specs.Reaches.{frames_by}
use Rattle.iom_table_survey.specs.Rows.{row_has}
use Rattle.iom_way_survey.specs.Along.{SharesSpace}
use Rattle.iom_way_survey.proofs.GrowLemmas.{none_grew, next_grew, all_grew}
use Rattle.iom_way_survey.proofs.along.widen_rows.Goals as goal

pub loop-place-init : goal.loop-place-init
loop-place-init c = none_grew c.args.rows.now (λ id kind f. (row_has (frames_by c.args.reach.now kind) f ≡ true) × SharesSpace (board_parts c.args.hardware.now) c.args.space id)

pub loop-place-preserved : goal.loop-place-preserved
loop-place-preserved c =
    next_grew c.args.rows.now c.loop-place.rows _ c.loop-place.place c.index-rows-place.result c.widen_row.new.row
    (λ id kind f. (row_has (frames_by c.args.reach.now kind) f ≡ true) × SharesSpace (board_parts c.args.hardware.now) c.args.space id) c.loop-place.invariant
    (omega arith) c.index-rows-place.is c.widen_row.ensures refl

pub returns : goal.returns
returns c =
    all_grew c.args.rows.now c.loop-place.rows c.loop-place.place
    (λ id kind f. (row_has (frames_by c.args.reach.now kind) f ≡ true) × SharesSpace (board_parts c.args.hardware.now) c.args.space id) c.loop-place.invariant (omega arith)

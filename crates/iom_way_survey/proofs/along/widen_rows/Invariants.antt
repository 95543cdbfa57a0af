use Rattle.std.proofs.Common.{◌≡◌, true}
use Rattle.iom_board.specs.BoardParts.{board_parts}
use Rattle.iom_table_survey.specs.Reaches.{frames_by}
use Rattle.iom_table_survey.specs.Rows.{row_has}
use Rattle.iom_way_survey.specs.Along.{SharesSpace, RowsGrowBefore}
use Rattle.iom_way_survey.proofs.along.widen_rows.Given as goal

-- the rows before this one have grown
abbrev pub invariant-loop-place : goal.invariant-loop-place
invariant-loop-place l = RowsGrowBefore l.place l.fn.rows l.rows (λ id kind f. (row_has (frames_by l.reach kind) f ≡ true) × SharesSpace (board_parts l.hardware) l.space id)

use Rattle.std.proofs.Common.{◌≡◌, ◌<◌, ℕ, slice_get, Some}
use Rattle.iom_board.specs.BoardParts.{board_parts}
use Rattle.iom_pointers.specs.declared.pointer.Pointer.{Pointer}
use Rattle.iom_table_survey.specs.Rows.{GrowsBy}
use Rattle.iom_way_survey.specs.Along.{IsTableAlong, IsReachedAlong, RowsGrow}
use Rattle.iom_way_survey.proofs.along.look_along_all.Given as goal

-- the pointers before this one are looked at
abbrev pub invariant-loop-place : goal.invariant-loop-place
invariant-loop-place l = record {
  rows : RowsGrow l.fn.rows l.rows (λ id kind f. (k : ℕ) × (k < l.place) × ((pointer : Pointer) × (slice_get l.pointers k ≡ Some pointer) × IsReachedAlong l.napot (board_parts l.hardware) pointer id kind f));
  tables : GrowsBy l.fn.read l.read (λ f. (k : ℕ) × (k < l.place) × ((pointer : Pointer) × (slice_get l.pointers k ≡ Some pointer) × IsTableAlong l.napot l.hardware.memory pointer f));
}

use Rattle.std.proofs.Common.{◌≡◌, ℕ, ◌<◌, Some, slice_get}
use Rattle.iom_litmus_test.specs.declared.column.Cell.{Cell}
use Rattle.iom_litmus.specs.Alike.{AreAlikeAt}
use Rattle.iom_litmus.proofs.alike.is_column_alike.Given as goal

abbrev pub invariant-loop-place : goal.invariant-loop-place
invariant-loop-place l = (k : ℕ) (cell : Cell) → k < l.place → slice_get l.cells k ≡ Some cell → AreAlikeAt l.column k cell l.one l.other

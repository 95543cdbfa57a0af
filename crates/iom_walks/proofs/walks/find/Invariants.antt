use Rattle.std.proofs.Common.{◌≡◌, ◌≢◌, ℕ, ◌<◌, Some, slice_get}
use Rattle.iom_walks.specs.Walks.{WalkRow}
use Rattle.iom_walks.proofs.walks.find.Given as goal

-- none of the rows so far is the device's
abbrev pub invariant-loop-place : goal.invariant-loop-place
invariant-loop-place l = (j : ℕ) (other : WalkRow) → j < l.place → slice_get l.rows j ≡ Some other → other.device ≢ l.device

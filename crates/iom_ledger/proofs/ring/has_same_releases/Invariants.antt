use Rattle.std.proofs.Common.{◌≡◌, ℕ, ◌<◌, slice_get}
use Rattle.iom_ledger.proofs.ring.has_same_releases.Given as goal

-- the first so many are the same
abbrev pub invariant-loop-n : goal.invariant-loop-n
invariant-loop-n l = (j : ℕ) → j < l.n → slice_get l.pending.items j ≡ slice_get l.other.items j

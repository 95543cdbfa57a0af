use Rattle.std.proofs.Common.{◌≡◌, ℕ, ◌+◌, ◌<◌, length, drop}
use Rattle.iom_litmus_test.specs.Globs.{Matches}
use Rattle.iom_litmus_test.proofs.glob.+parts_match.Given as goal

abbrev pub invariant-loop-left_out : goal.invariant-loop-left_out
invariant-loop-left_out l = (k : ℕ) → k < l.left_out → ¬ Matches l.rest (drop k l.text)

abbrev pub decreases-parts_match : goal.decreases-parts_match
decreases-parts_match l = length l.parts.now

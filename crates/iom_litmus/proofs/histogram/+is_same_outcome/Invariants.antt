use Rattle.std.proofs.Common.{length}
use Rattle.iom_litmus.proofs.histogram.+is_same_outcome.Given as goal

abbrev pub decreases-is_same_outcome : goal.decreases-is_same_outcome
decreases-is_same_outcome l = length l.one.now

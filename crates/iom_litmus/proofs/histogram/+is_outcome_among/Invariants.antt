use Rattle.std.proofs.Common.{length}
use Rattle.iom_litmus.proofs.histogram.+is_outcome_among.Given as goal

abbrev pub decreases-is_outcome_among : goal.decreases-is_outcome_among
decreases-is_outcome_among l = length l.rows.now

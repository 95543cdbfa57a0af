use Rattle.std.proofs.Common.{length}
use Rattle.iom_litmus.proofs.tally.+sum_over.Given as goal

abbrev pub decreases-sum_over : goal.decreases-sum_over
decreases-sum_over l = length l.edges.now

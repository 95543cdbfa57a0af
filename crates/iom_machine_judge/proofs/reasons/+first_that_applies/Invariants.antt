-- The reasons become fewer.
use Rattle.std.proofs.Common.{length}
use Rattle.iom_machine_judge.proofs.reasons.+first_that_applies.Given as goal

abbrev pub decreases-first_that_applies : goal.decreases-first_that_applies
decreases-first_that_applies l = length l.reasons.now

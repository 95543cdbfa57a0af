use Rattle.std.proofs.Common.{length}
use Rattle.iom_judge.proofs.handed.Handed.+first_of.Given as goal

-- how many are left
abbrev pub decreases-first_of : goal.decreases-first_of
decreases-first_of l = length l.frames.now

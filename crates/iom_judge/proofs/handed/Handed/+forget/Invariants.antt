use Rattle.std.proofs.Common.{length}
use Rattle.iom_judge.proofs.handed.Handed.+forget.Given as goal

-- how many are left
abbrev pub decreases-forget : goal.decreases-forget
decreases-forget l = length l.frames.now

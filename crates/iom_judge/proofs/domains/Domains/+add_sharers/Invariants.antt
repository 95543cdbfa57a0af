use Rattle.std.proofs.Common.{length}
use Rattle.iom_judge.proofs.domains.Domains.+add_sharers.Given as goal

-- how many are left
abbrev pub decreases-add_sharers : goal.decreases-add_sharers
decreases-add_sharers l = length l.devices.now

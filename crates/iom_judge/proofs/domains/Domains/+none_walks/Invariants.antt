use Rattle.std.proofs.Common.{length}
use Rattle.iom_judge.proofs.domains.Domains.+none_walks.Given as goal

-- how many are left
abbrev pub decreases-none_walks : goal.decreases-none_walks
decreases-none_walks l = length l.devices.now

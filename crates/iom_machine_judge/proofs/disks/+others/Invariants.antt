-- The disks become fewer.
use Rattle.std.proofs.Common.{length}
use Rattle.iom_machine_judge.proofs.disks.+others.Given as goal

abbrev pub decreases-others : goal.decreases-others
decreases-others l = length l.disks.now

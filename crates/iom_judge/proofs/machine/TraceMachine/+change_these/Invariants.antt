use Rattle.std.proofs.Common.{length}
use Rattle.iom_judge.proofs.machine.TraceMachine.+change_these.Given as goal

-- how many are left
abbrev pub decreases-change_these : goal.decreases-change_these
decreases-change_these l = length l.devices.now

-- The devices become fewer.
use Rattle.std.proofs.Common.{length}
use Rattle.iom_machine_judge.proofs.polls.+all_may.Given as goal

abbrev pub decreases-all_may : goal.decreases-all_may
decreases-all_may l = length l.devices.now

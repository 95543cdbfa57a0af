-- The accesses become fewer.
use Rattle.std.proofs.Common.{length}
use Rattle.iom_machine_judge.proofs.polls.+each_may.Given as goal

abbrev pub decreases-each_may : goal.decreases-each_may
decreases-each_may l = length l.in_flight.now

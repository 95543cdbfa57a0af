use Rattle.std.proofs.Common.{length}
use Rattle.iom_litmus.proofs.alike.+are_all_seen_alike.Given as goal

abbrev pub decreases-are_all_seen_alike : goal.decreases-are_all_seen_alike
decreases-are_all_seen_alike l = length l.observables.now

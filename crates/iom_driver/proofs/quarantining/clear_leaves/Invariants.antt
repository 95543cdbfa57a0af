use Rattle.iom_driver.proofs.Unmaps.{UnmapsTo}
use Rattle.iom_driver.proofs.quarantining.clear_leaves.Given as goal

abbrev pub invariant-loop-index : goal.invariant-loop-index
invariant-loop-index l = record { unmaps : UnmapsTo l.size l.ledger l.id l.root l.fn.memory l.memory l.index }

use Rattle.std.proofs.Common.{subst}
use Rattle.iom_litmus.specs.Tallies.{GoesOnForEver}
use Rattle.iom_litmus.proofs.graph.Graph.count_of.Goals as goal

pub returns-clause-endless : goal.returns-clause-endless
returns-clause-endless g c is = subst (λ edges. GoesOnForEver edges 0) c.as_slice-2.ensures (c.count.ensures.endless is)

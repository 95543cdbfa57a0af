use Rattle.iom_litmus.specs.Tallies.{AreRows}
use Rattle.iom_litmus.proofs.graph.Graph.histogram.Given as goal

abbrev pub invariant-loop-number : goal.invariant-loop-number
invariant-loop-number g l = AreRows l.self.places l.self.edges l.number l.rows

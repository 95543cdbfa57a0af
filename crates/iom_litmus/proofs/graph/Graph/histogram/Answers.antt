use Rattle.std.proofs.Common.{sym, subst}
use Rattle.iom_litmus.specs.Tallies.{AreRows}
use Rattle.iom_litmus.proofs.TallyLemmas.{rows_none}
use Rattle.iom_litmus.proofs.graph.Graph.histogram.Goals as goal

pub loop-number-init : goal.loop-number-init
loop-number-init g c = subst (λ rows. AreRows c.args.self.now.places c.args.self.now.edges 0 rows) (sym c.new-rows.ensures) (rows_none c.args.self.now.places c.args.self.now.edges)

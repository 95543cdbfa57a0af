use Rattle.std.proofs.Common.{◌≡◌, Err, IfOk, length, ap, ◌∙◌, subst}
use Rattle.iom_litmus.specs.declared.fault.SearchFault.TheVariants.{Endless}
use Rattle.iom_litmus.specs.Rules.{noting}
use Rattle.iom_litmus.specs.Tallies.{AreRows}
use Rattle.iom_litmus.proofs.ExploreLemmas.{explored_is_searched, explored_is_endless, explored_is_graph}
use Rattle.iom_litmus.proofs.search.Search.explore.Goals as goal

pub histogram-requires : goal.histogram-requires
histogram-requires g c = record {
  graph = explored_is_graph (g.S.System.opens c.args.self.now.opening.now) (noting g.S.System.rules c.in_ok-graph.graph.changing) g.S.System.readings c.args.self.now.test.now
      c.in_ok-graph.graph.places c.in_ok-graph.graph.edges c.in_ok-graph.ensures.explored;
}

pub returns-in-Ok-clause-histogram : goal.returns-in-Ok-clause-histogram
returns-in-Ok-clause-histogram g c =
    explored_is_searched (g.S.System.opens c.args.self.now.opening.now) (noting g.S.System.rules c.in_ok-graph.graph.changing) g.S.System.readings c.args.self.now.test.now
    c.in_ok-graph.graph.places c.in_ok-graph.graph.edges c.in-Ok.histogram.rows c.in_ok-graph.ensures.explored
    (subst (λ r. IfOk r (λ h. AreRows c.in_ok-graph.graph.places c.in_ok-graph.graph.edges (length c.in_ok-graph.graph.edges) h.rows)) c.in-Ok.is c.histogram.ensures.rows)

pub returns-in-Err-clause-endless : goal.returns-in-Err-clause-endless
returns-in-Err-clause-endless g c is =
    let same : c.in-Err.fault ≡ Endless = cc in
    explored_is_endless (g.S.System.opens c.args.self.now.opening.now) (noting g.S.System.rules c.in_ok-graph.graph.changing) g.S.System.readings c.args.self.now.test.now
    c.in_ok-graph.graph.places c.in_ok-graph.graph.edges c.in_ok-graph.ensures.explored (c.histogram.ensures.endless (c.in-Err.is ∙ ap Err same))

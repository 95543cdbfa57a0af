use Rattle.std.proofs.Common.{◌≡◌, sym, subst}
use Rattle.iom_litmus.specs.Candidates.{ListsCandidates}
use Rattle.iom_litmus.proofs.AroundLemmas.{item_is}
use Rattle.iom_litmus.proofs.search.Search.expand.Goals as goal

pub returns-clause-expanded : goal.returns-clause-expanded
returns-clause-expanded g c node is cells keeps =
    let same : c.in-Some.node.now ≡ node = item_is c.as_slice.result.now c.args.places.now c.args.current c.in-Some.node.now node c.as_slice.ensures c.in-Some.ensures.lookup.1 is in
    c.in_ok-take_steps.ensures.expanded node is
    (subst (λ n. ListsCandidates g.S.System.readings c.args.self.now.test.now n.place c.as_slice-2.result.now) same
    (subst (λ steps. ListsCandidates g.S.System.readings c.args.self.now.test.now c.in-Some.node.now.place steps) (sym c.as_slice-2.ensures) c.in_ok-steps.ensures.0)) cells keeps

use Rattle.std.proofs.Common.{◌≡◌, ◌+◌, ◌<◌, ◌++◌, ◌∷◌, [], Some, length, slice_get, sym, ap, ◌∙◌, subst, arith}
use Rattle.iom_litmus.specs.Rules.{noting}
use Rattle.iom_litmus.specs.Searches.{IsExploring}
use Rattle.iom_litmus.proofs.AroundLemmas.{exploring_more, item_there, less_where_not_same, push_length}
use Rattle.iom_litmus.proofs.search.Search.explore_places.Goals as goal

pub loop-current-init : goal.loop-current-init
loop-current-init g c cells keeps =
    let (system, opened, x) = c.in_ok-begin.ensures.begun c.requires.no_places cells in (
      system,
      opened,
      [],
      subst (λ edges. IsExploring (noting g.S.System.rules cells) g.S.System.readings c.args.self.now.test.now system c.begin.new.places edges []) (sym c.requires.no_edges) x,
      ap length c.requires.no_edges,
    )

pub loop-current-preserved : goal.loop-current-preserved
loop-current-preserved g c cells keeps =
    let more = c.in_ok-onward.ensures.keeps in
    let (system, opened, table, x, long) = c.loop-current.invariant cells (λ cell there. keeps cell (more cell there)) in
    let shown : length c.as_slice.result.now ≡ length c.loop-current.places = ap length c.as_slice.ensures in
    let within = x.within in
    let less : c.loop-current.current < length c.loop-current.places =
    less_where_not_same c.loop-current.current (length c.loop-current.places) (omega (arith, within, long)) (λ same. c.if-current-as_slice.false (same ∙ sym shown)) in
    let (node, got) = item_there c.loop-current.places c.loop-current.current less in
    let was = c.in_ok-onward.ensures.expanded node got cells keeps in (
      system,
      opened,
      table ++ was.answers ∷ [],
      subst (λ edges. IsExploring (noting g.S.System.rules cells) g.S.System.readings c.args.self.now.test.now system c.expand.new.places edges (table ++ was.answers ∷ [])) (sym c.in_ok-push.ensures.ok)
          (exploring_more (noting g.S.System.rules cells) g.S.System.readings c.args.self.now.test.now system c.loop-current.places c.expand.new.places c.loop-current.edges table node c.in_ok-onward.onward x
          (subst (λ k. slice_get c.loop-current.places k ≡ Some node) (sym long) got) was),
      ap length c.in_ok-push.ensures.ok ∙ push_length c.loop-current.edges c.in_ok-onward.onward ∙ ap (λ n. n + 1) long,
    )

pub returns-clause-explored : goal.returns-clause-explored
returns-clause-explored g c =
    let (system, opened, table, x, long) = c.loop-current.invariant c.loop-current.tries.changing (λ cell there. there) in
    (system, opened, table, x, ap length (sym c.as_slice-2.ensures) ∙ c.if-as_slice.false ∙ ap length c.as_slice-3.ensures)

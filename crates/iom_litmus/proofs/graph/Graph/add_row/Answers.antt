use Rattle.std.proofs.Common.{◌≡◌, ◌==◌, [], Some, length, get_or, slice_get, refl, sym, ap, ◌∙◌, subst, arith}
use Rattle.std.proofs.lemmas.Bool.{false≢true}
use Rattle.std.proofs.lemmas.Grind.{common_steps}
use Rattle.std.proofs.lemmas.Option.{slice_get_read, get_or_from_slice_get}
use Rattle.iom_litmus.specs.Histograms.{outcomes}
use Rattle.iom_litmus.specs.Listed.{IsListed}
use Rattle.iom_litmus.specs.Tallies.{AreSoMany, IsRoute, edges_at}
use Rattle.iom_litmus.proofs.TallyLemmas.{rows_past, rows_more, edges_from}
use Rattle.iom_litmus.proofs.graph.Graph.add_row.Goals as goal

pub returns-then-not-is_empty-clause-rows : goal.returns-then-not-is_empty-clause-rows
returns-then-not-is_empty-clause-rows g c =
    let shown : c.as_slice-3.result.now ≡ edges_at c.args.self.now.edges c.args.number =
    edges_from c.args.self.now.edges c.args.number c.as_slice-3.result.now c.index-as_slice-number-2.result
    (c.as_slice-3.ensures ∙ c.index-as_slice-number-2.is ∙ ap (λ edges. get_or edges c.args.number c.index-as_slice-number-2.result) c.as_slice-2.ensures) c.requires.within in
    rows_past c.args.self.now.places c.args.self.now.edges c.args.number c.args.rows.now c.requires.rows
    (λ node got none. absurd (false≢true (sym c.if-not-is_empty.true ∙ c.is_empty.ensures ∙ ap (λ edges. length edges == 0) (shown ∙ none))))

pub returns-then-is_outcome_among-clause-rows : goal.returns-then-is_outcome_among-clause-rows
returns-then-is_outcome_among-clause-rows g c =
    rows_past c.args.self.now.places c.args.self.now.edges c.args.number c.args.rows.now c.requires.rows
    (λ node got none.
    let same : c.index-as_slice-number.result ≡ node =
    c.index-as_slice-number.is ∙ ap (λ nodes. get_or nodes c.args.number c.index-as_slice-number.result) c.as_slice.ensures
    ∙ get_or_from_slice_get c.args.self.now.places c.args.number node c.index-as_slice-number.result got in
    subst (λ outcome. IsListed (outcomes c.args.rows.now) outcome) (c.as_slice-5.ensures ∙ ap (λ x. x.outcome) same)
    (subst (λ rows. IsListed (outcomes rows) c.as_slice-5.result.now) c.as_slice-4.ensures (c.is_outcome_among.ensures.0 c.if-is_outcome_among.true)))

pub returns-clause-rows : goal.returns-clause-rows
returns-clause-rows g c =
    let node = c.index-as_slice-number.result in
    let shown : c.as_slice-3.result.now ≡ edges_at c.args.self.now.edges c.args.number =
    edges_from c.args.self.now.edges c.args.number c.as_slice-3.result.now c.index-as_slice-number-2.result
    (c.as_slice-3.ensures ∙ c.index-as_slice-number-2.is ∙ ap (λ edges. get_or edges c.args.number c.index-as_slice-number-2.result) c.as_slice-2.ensures) c.requires.within in
    let none : c.as_slice-3.result.now ≡ [] = grind (arith, common_steps, c.is_empty.ensures, c.if-not-is_empty.false, c.if-not-is_empty.ensures) in
    let within = c.requires.within in
    let as_many = c.requires.graph.as_many in
    let got : slice_get c.args.self.now.places c.args.number ≡ Some node =
    slice_get_read c.args.self.now.places _ c.args.number node refl (omega (arith, within, as_many))
    (c.index-as_slice-number.is ∙ ap (λ nodes. get_or nodes c.args.number node) c.as_slice.ensures) in
    let seen : c.in_ok-outcome.outcome ≡ node.outcome = c.in_ok-outcome.ensures ∙ c.as_slice-7.ensures in
    rows_more c.args.self.now.places c.args.self.now.edges c.args.number c.args.rows.now c.push.new.self node
    (record { outcome = c.in_ok-outcome.outcome; count = c.in_ok-count.count; schedule = c.in_ok-schedule.schedule })
    c.requires.rows got (sym shown ∙ none)
    (λ listed. false≢true (sym c.if-is_outcome_among.false ∙ c.is_outcome_among.ensures.1
    (subst (λ rows. IsListed (outcomes rows) c.as_slice-5.result.now) (sym c.as_slice-4.ensures)
    (subst (λ outcome. IsListed (outcomes c.args.rows.now) outcome) (sym c.as_slice-5.ensures) listed))))
    (subst (λ outcome. AreSoMany (IsRoute c.args.self.now.places c.args.self.now.edges outcome 0) c.in_ok-count.count) (c.as_slice-6.ensures ∙ sym seen) c.in_ok-count.ensures.count)
    seen (c.in_ok-schedule.ensures ∙ c.as_slice-8.ensures) c.in_ok-push.ensures.ok

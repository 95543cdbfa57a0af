use Rattle.std.proofs.Common.{refl, sym, ap, ◌∙◌, subst}
use Rattle.iom_litmus_test.specs.Propositions.{HoldsOfOutcome}
use Rattle.std.proofs.lemmas.Bool.{false≢true}
use Rattle.iom_litmus.proofs.ListedLemmas.{at_is_listed}
use Rattle.iom_litmus.proofs.QuestionLemmas.{each_more}
use Rattle.iom_litmus.proofs.question.holds_of_each.Goals as goal

pub returns-then-not-holds : goal.returns-then-not-holds
returns-then-not-holds c = (
  (λ no. absurd (false≢true no)),
  (λ each. c.if-not-holds.ensures.1 (subst (λ o. HoldsOfOutcome c.args.asked.now o) (sym c.as_slice.ensures)
      (each c.row-item.result (at_is_listed c.args.rows.now c.loop-row.row-index c.row-item.result c.row-item.result c.loop-row-test.true (sym c.row-item.is))))),
)

pub loop-row-preserved : goal.loop-row-preserved
loop-row-preserved c =
    each_more c.args.rows.now c.loop-row.row-index c.row-item.result c.args.asked.now c.loop-row-test.true c.loop-row.invariant
    (subst (λ o. HoldsOfOutcome c.args.asked.now o) (c.as_slice.ensures ∙ ap (λ r. r.outcome) c.row-item.is) (c.if-not-holds.ensures.0 refl))

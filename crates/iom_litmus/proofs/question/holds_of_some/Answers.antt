use Rattle.std.proofs.Common.{refl, sym, ap, ◌∙◌, subst}
use Rattle.iom_litmus_test.specs.Propositions.{HoldsOfOutcome}
use Rattle.std.proofs.lemmas.Bool.{false≢true}
use Rattle.iom_litmus.proofs.ListedLemmas.{at_is_listed}
use Rattle.iom_litmus.proofs.QuestionLemmas.{none_more}
use Rattle.iom_litmus.proofs.question.holds_of_some.Goals as goal

pub returns-then-holds : goal.returns-then-holds
returns-then-holds c = (
  (λ _. (
    c.row-item.result,
    at_is_listed c.args.rows.now c.loop-row.row-index c.row-item.result c.row-item.result c.loop-row-test.true (sym c.row-item.is),
    subst (λ o. HoldsOfOutcome c.args.asked.now o) c.as_slice.ensures (c.if-holds.ensures.0 refl),
  )),
  (λ _. refl),
)

pub loop-row-preserved : goal.loop-row-preserved
loop-row-preserved c =
    none_more c.args.rows.now c.loop-row.row-index c.row-item.result c.args.asked.now c.loop-row-test.true c.loop-row.invariant
    (λ holds. false≢true (c.if-holds.ensures.1 (subst (λ o. HoldsOfOutcome c.args.asked.now o) (ap (λ r. r.outcome) (sym c.row-item.is) ∙ sym c.as_slice.ensures) holds)))

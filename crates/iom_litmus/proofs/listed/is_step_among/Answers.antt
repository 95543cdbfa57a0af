use Rattle.std.proofs.Common.{refl, inl, inr}
use Rattle.std.proofs.lemmas.Bool.{false≢true}
use Rattle.iom_litmus.proofs.ListedLemmas.{at_is_listed, more_taken_cases}
use Rattle.iom_litmus.proofs.listed.is_step_among.Goals as goal

pub returns-then-is_same : goal.returns-then-is_same
returns-then-is_same c = ((λ _. at_is_listed c.args.steps.now c.loop-other.other-index _ c.args.step c.loop-other-test.true (c.if-is_same.ensures.0 refl)), (λ _. refl))

pub loop-other-preserved : goal.loop-other-preserved
loop-other-preserved c listed =
    elim (more_taken_cases c.args.steps.now c.loop-other.other-index _ c.args.step c.loop-other-test.true listed) [
      | inl there ↦ c.loop-other.invariant there
      | inr same ↦ false≢true (c.if-is_same.ensures.1 same)
    ]

use Rattle.std.proofs.Common.{sym, ◌∙◌, inl, inr}
use Rattle.std.proofs.lemmas.Bool.{false≢true}
use Rattle.iom_machine_judge.proofs.requests.accepts_in_one_stage.Goals as goal

pub returns-then-holds : goal.returns-then-holds
returns-then-holds c = λ h past. ((λ yes. inl ((c.holds.ensures.holds h past).0 c.if-holds.true)), (λ may. c.if-holds.true))

pub returns-then-holds_none : goal.returns-then-holds_none
returns-then-holds_none c = λ h past. (
  (λ yes. inr ((c.holds_none.ensures h past).0 c.if-holds_none.true, (c.lingers.ensures.lingers h past).0 yes)),
  (λ may. elim may [
    | inl held ↦ absurd (false≢true (sym c.if-holds.false ∙ (c.holds.ensures.holds h past).1 held))
    | inr waits ↦ (c.lingers.ensures.lingers h past).1 waits.1
  ]),
)

pub returns-else-holds_none : goal.returns-else-holds_none
returns-else-holds_none c = λ h past. (
  (λ yes. absurd (false≢true (sym c.if-holds_none.false ∙ yes))),
  (λ may. elim may [
    | inl held ↦ absurd (false≢true (sym c.if-holds.false ∙ (c.holds.ensures.holds h past).1 held))
    | inr waits ↦ (c.holds_none.ensures h past).1 waits.0
  ]),
)

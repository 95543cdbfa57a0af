use Rattle.std.proofs.Common.{inl, inr, sym, ◌∙◌}
use Rattle.std.proofs.lemmas.Bool.{false≢true}
use Rattle.iom_machine_judge.proofs.translated.may_fault.Goals as goal

pub returns-else-is_same_cause : goal.returns-else-is_same_cause
returns-else-is_same_cause c = λ h. (
  (λ yes. inr ((c.may_find_no_context.ensures h).0 yes)),
  (λ may. elim may [
    | inl same ↦ absurd (false≢true (sym c.if-is_same_cause.false ∙ c.is_same_cause.ensures.1 same))
    | inr none ↦ (c.may_find_no_context.ensures h).1 none
  ]),
)

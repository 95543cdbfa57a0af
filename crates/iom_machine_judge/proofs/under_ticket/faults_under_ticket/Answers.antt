use Rattle.std.proofs.Common.{inl, inr, sym, ◌∙◌}
use Rattle.std.proofs.lemmas.Bool.{false≢true}
use Rattle.iom_machine_judge.proofs.under_ticket.faults_under_ticket.Goals as goal

pub returns-then-is_same_cause : goal.returns-then-is_same_cause
returns-then-is_same_cause c = λ h past. ((λ yes. inl (c.is_same_cause.ensures.0 c.if-is_same_cause.true ∙ c.cause_without_context.ensures h)), (λ may. c.if-is_same_cause.true))

pub returns-else-not-is_confirmed : goal.returns-else-not-is_confirmed
returns-else-not-is_confirmed c = λ h past. (
  (λ never. absurd (false≢true (rw c.if-not-is_confirmed.false at never))),
  (λ may. elim may [
    | inl same ↦ absurd (false≢true (sym c.if-is_same_cause.false ∙ c.is_same_cause.ensures.1 (same ∙ sym (c.cause_without_context.ensures h))))
    | inr pending ↦ absurd (false≢true (sym pending.0 ∙ sym (c.is_confirmed.ensures.confirmed h past) ∙ c.if-not-is_confirmed.false))
  ]),
)

pub returns-then-not-is_confirmed : goal.returns-then-not-is_confirmed
returns-then-not-is_confirmed c = λ h past. (
  (λ yes. inr (sym (c.is_confirmed.ensures.confirmed h past) ∙ c.if-not-is_confirmed.true, c.is_page_fault_of.ensures.0 yes)),
  (λ may. elim may [
    | inl same ↦ absurd (false≢true (sym c.if-is_same_cause.false ∙ c.is_same_cause.ensures.1 (same ∙ sym (c.cause_without_context.ensures h))))
    | inr pending ↦ c.is_page_fault_of.ensures.1 pending.1
  ]),
)

use Rattle.std.proofs.Common.{inl, inr, ap, refl, sym, ◌∙◌}
use Rattle.std.proofs.lemmas.Bool.{false≢true}
use Rattle.iom_base.specs.declared.cause.Cause.{Cause}
use Rattle.iom_fabric.specs.declared.message.Translation.TheVariants.{Refused}
use Rattle.iom_machine_judge.proofs.questions.tells_under_ticket.Goals as goal

pub returns-then-is_refused_with : goal.returns-then-is_refused_with
returns-then-is_refused_with c = λ h past. (
  (λ yes. inl (c.is_refused_with.ensures.0 c.if-is_refused_with.true ∙ ap (λ (cause : Cause). Refused cause) (c.cause_without_context.ensures h))),
  (λ may. refl),
)

pub returns-then-is_confirmed : goal.returns-then-is_confirmed
returns-then-is_confirmed c = λ h past. (
  (λ never. absurd (false≢true never)),
  (λ may. elim may [
    | inl same ↦ sym c.if-is_refused_with.false ∙ c.is_refused_with.ensures.1 (same ∙ ap (λ (cause : Cause). Refused cause) (sym (c.cause_without_context.ensures h)))
    | inr pending ↦ sym pending.0 ∙ sym (c.is_confirmed.ensures.confirmed h past) ∙ c.if-is_confirmed.true
  ]),
)

pub returns-then-not-ats : goal.returns-then-not-ats
returns-then-not-ats c = rw c.if-not-ats.true (λ h past. (
  (λ yes. inr (sym (c.is_confirmed.ensures.confirmed h past) ∙ c.if-is_confirmed.false, c.is_refused_with-then-not-ats.ensures.0 yes)),
  (λ may. elim may [
    | inl same ↦ absurd (false≢true (sym c.if-is_refused_with.false ∙ c.is_refused_with.ensures.1 (same ∙ ap (λ (cause : Cause). Refused cause) (sym (c.cause_without_context.ensures h)))))
    | inr pending ↦ c.is_refused_with-then-not-ats.ensures.1 pending.1
  ]),
))

pub returns : goal.returns
returns c = rw c.if-not-ats.false (λ h past. (
  (λ yes. inr (sym (c.is_confirmed.ensures.confirmed h past) ∙ c.if-is_confirmed.false, (c.tells_formerly.ensures h past).0 yes)),
  (λ may. elim may [
    | inl same ↦ absurd (false≢true (sym c.if-is_refused_with.false ∙ c.is_refused_with.ensures.1 (same ∙ ap (λ (cause : Cause). Refused cause) (sym (c.cause_without_context.ensures h)))))
    | inr pending ↦ (c.tells_formerly.ensures h past).1 pending.1
  ]),
))

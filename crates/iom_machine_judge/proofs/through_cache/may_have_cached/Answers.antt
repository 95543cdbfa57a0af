use Rattle.std.proofs.Common.{sym, ◌∙◌, inl, inr}
use Rattle.std.proofs.lemmas.Bool.{false≢true}
use Rattle.iom_machine_judge.proofs.through_cache.may_have_cached.Goals as goal

pub returns-then-holds-clause-cached : goal.returns-then-holds-clause-cached
returns-then-holds-clause-cached c = λ h past. ((λ yes. inl ((c.holds.ensures.holds h past).0 c.if-holds.true)), (λ may. c.if-holds.true))

pub returns-else-holds-clause-cached : goal.returns-else-holds-clause-cached
returns-else-holds-clause-cached c = λ h past. (
  (λ yes. inr ((c.lingers.ensures.lingers h past).0 yes)),
  (λ may. elim may [
    | inl held ↦ absurd (false≢true (sym c.if-holds.false ∙ (c.holds.ensures.holds h past).1 held))
    | inr waits ↦ (c.lingers.ensures.lingers h past).1 waits
  ]),
)

use Rattle.std.proofs.Common.{ℕ, ◌<◌, ◌^◌, Option, sym, subst, ◌∙◌}
use Rattle.std.specs.Option.{IfSome}
use Rattle.iom_base.specs.declared.rights.Rights.{Rights}
use Rattle.iom_machine_judge.proofs.requests.holds.Goals as goal

pub returns-clause-holds : goal.returns-clause-holds
returns-clause-holds c = λ h past. (
  (λ yes. let found = c.serves.ensures.0 yes in (found.0, sym (c.held-found.ensures.held h past) ∙ found.1, found.2)),
  (λ held. c.serves.ensures.1 (held.0, c.held-found.ensures.held h past ∙ held.1, held.2)),
)

pub returns-clause-low : goal.returns-clause-low
returns-clause-low c = λ yes.
    subst (λ (found : Option (ℕ × Rights)). IfSome found (λ (pair : ℕ × Rights). pair.0 < 2 ^ 40)) (c.serves.ensures.0 yes).1 c.held-found.ensures.low

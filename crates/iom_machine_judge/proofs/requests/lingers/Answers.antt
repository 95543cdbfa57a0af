use Rattle.std.proofs.Common.{ℕ, ◌<◌, ◌^◌, Option, subst}
use Rattle.std.specs.Option.{IfSome}
use Rattle.iom_base.specs.declared.rights.Rights.{Rights}
use Rattle.iom_machine_judge.proofs.requests.lingers.Goals as goal

pub returns-clause-lingers : goal.returns-clause-lingers
returns-clause-lingers c = λ h past. (
  (λ yes. let found = c.serves.ensures.0 yes in (found.0, (c.lingering-found.ensures.lingers h past (c.args.frame, found.0)).0 found.1, found.2)),
  (λ waits. c.serves.ensures.1 (waits.0, (c.lingering-found.ensures.lingers h past (c.args.frame, waits.0)).1 waits.1, waits.2)),
)

pub returns-clause-low : goal.returns-clause-low
returns-clause-low c = λ yes.
    subst (λ (found : Option (ℕ × Rights)). IfSome found (λ (pair : ℕ × Rights). pair.0 < 2 ^ 40)) (c.serves.ensures.0 yes).1 c.lingering-found.ensures.low

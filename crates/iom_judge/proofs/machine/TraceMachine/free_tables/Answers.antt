use Rattle.std.proofs.Common.{◌∷◌, [], false, refl}
use Rattle.iom_machine.specs.declared.event.Event.TheVariants as events
use Rattle.iom_machine.specs.declared.outcome.Outcome.TheVariants as outcomes
use Rattle.iom_judge.specs.Happenings.{Came}
use Rattle.iom_judge.proofs.CertificateLemmas.{if_ok}
use Rattle.iom_judge.proofs.machine.TraceMachine.free_tables.Goals as goal

pub returns : goal.returns
returns c =
    if_ok c.go_on_alone.result _ _
    (λ went. (Came events.Poll (outcomes.NoneConfirmed false) went.0 ∷ [], (went.0, went.1.returned, refl), went.2))
    c.go_on_alone.ensures

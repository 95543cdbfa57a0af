use Rattle.std.proofs.Common.{◌∷◌, [], refl}
use Rattle.iom_machine.specs.declared.event.Event.TheVariants as events
use Rattle.iom_judge.specs.Happenings.{Came}
use Rattle.iom_judge.proofs.CertificateLemmas.{if_ok}
use Rattle.iom_judge.proofs.machine.TraceMachine.make.Goals as goal

pub returns : goal.returns
returns c =
    let made = c.made_now-made.result in
    if_ok c.go_on_showing.result _ _
    (λ went. (Came (events.Commit c.args.device) made went.0 ∷ [], (made, went.0, c.made_now-made.ensures, refl), went.2))
    c.go_on_showing.ensures

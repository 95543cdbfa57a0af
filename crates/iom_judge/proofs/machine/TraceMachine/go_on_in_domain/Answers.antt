use Rattle.iom_judge.proofs.CertificateLemmas.{if_ok}
use Rattle.iom_judge.proofs.SharingLemmas.{comes_so}
use Rattle.iom_judge.proofs.machine.TraceMachine.go_on_in_domain.Goals as goal

pub returns : goal.returns
returns c =
    let went = c.in_ok-go_on_alone.ensures in
    if_ok c.change_sharers.result _ _
    (λ others. (
      went.0,
      went.1,
      comes_so c.args.self.now c.go_on_alone.new.self c.change_sharers.new.self c.args.reply.now.event.now c.args.reply.now.outcome.now went.0 went.2 others,
    ))
    c.change_sharers.ensures

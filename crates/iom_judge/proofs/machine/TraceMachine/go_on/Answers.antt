use Rattle.iom_judge.proofs.CertificateLemmas.{if_ok}
use Rattle.iom_judge.proofs.SharingLemmas.{comes_alone, nothing_changes}
use Rattle.iom_judge.proofs.machine.TraceMachine.go_on.Goals as goal

pub returns-in_default : goal.returns-in_default
returns-in_default c =
    let event = c.args.reply.now.event.now in
    let outcome = c.args.reply.now.outcome.now in
    let none = nothing_changes event outcome c.in_default.not-Grant c.in_default.not-Release in
    if_ok c.go_on_alone.result _ _
    (λ went. (went.0, went.1, comes_alone c.args.self.now c.go_on_alone.new.self event outcome went.0 none went.2))
    c.go_on_alone.ensures

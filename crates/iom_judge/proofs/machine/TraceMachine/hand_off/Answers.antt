use Rattle.iom_judge.proofs.CertificateLemmas.{given_away}
use Rattle.iom_judge.proofs.machine.TraceMachine.hand_off.Goals as goal

pub returns : goal.returns
returns c =
    let went = c.in_ok-go_on_showing.ensures in
    given_away c.args.self.now c.go_on_showing.new.self c.hand_off.new.self c.args.frame went.0 went.2 c.in_ok-hand_off.ensures.given c.in_ok-hand_off.ensures.takes

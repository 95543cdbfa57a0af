use Rattle.std.proofs.Common.{◌<◌, arith, length}
use Rattle.iom_judge.proofs.CertificateLemmas.{if_ok}
use Rattle.iom_judge.proofs.SharingLemmas.{first_item, changed_these}
use Rattle.iom_judge.proofs.machine.TraceMachine.+change_these.Goals as goal

pub returns-in_ok-go_on_showing-in-len1-up : goal.returns-in_ok-go_on_showing-in-len1-up
returns-in_ok-go_on_showing-in-len1-up t c =
    let devices = c.args.devices.now in
    let some : 0 < length devices = omega (arith, c.in-len1-up.len_at_least) in
    let went = c.in_ok-go_on_showing-in-len1-up.ensures in
    if_ok c.change_these.result _ _
    (λ rest. changed_these c.args.self.now c.go_on_showing.new.self c.change_these.new.self devices _ c.args.change c.event_of-event.result c.args.outcome.now went.0
    rest.0 (first_item devices some _) c.event_of-event.ensures went.1.0 went.2 rest.1 rest.2)
    c.change_these.ensures

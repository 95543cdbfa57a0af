use Rattle.std.proofs.Common.{Some, None, codes, ℕ}
use Rattle.iom_script.specs.Words.{IsDevice, IsNumber}
use Rattle.iom_script.proofs.FieldLemmas.{Followed, followed_by, followed_by_none, followed_none}
use Rattle.iom_hardware_script.proofs.HelpLemmas.{no_help, traffic_reads}
use Rattle.iom_hardware_script.proofs.help.traffic.Goals as goal

pub returns-in_err-arguments : goal.returns-in_err-arguments
returns-in_err-arguments c = rw c.from_residual.ensures (no_help (codes "traffic ") c.args.line.now c.in_err-arguments.ensures)

pub returns-in_err-device : goal.returns-in_err-device
returns-in_err-device c = rw c.from_residual-in_err-device.ensures (traffic_reads c.args.line.now c.in_ok-arguments.arguments.now c.in_ok-arguments.ensures None (followed_none IsDevice (Followed IsNumber IsNumber) c.in_ok-arguments.arguments.now c.in_err-device.ensures))

pub returns-in_err-first : goal.returns-in_err-first
returns-in_err-first c = rw c.from_residual-in_err-first.ensures (traffic_reads c.args.line.now c.in_ok-arguments.arguments.now c.in_ok-arguments.ensures None (followed_by_none IsDevice (Followed IsNumber IsNumber) c.in_ok-arguments.arguments.now c.in_ok-device.rest.now c.in_ok-device.device c.in_ok-device.ensures (followed_none IsNumber IsNumber c.in_ok-device.rest.now c.in_err-first.ensures)))

pub returns-in_err-last : goal.returns-in_err-last
returns-in_err-last c = rw c.from_residual-in_err-last.ensures (traffic_reads c.args.line.now c.in_ok-arguments.arguments.now c.in_ok-arguments.ensures None (followed_by_none IsDevice (Followed IsNumber IsNumber) c.in_ok-arguments.arguments.now c.in_ok-device.rest.now c.in_ok-device.device c.in_ok-device.ensures (followed_by_none IsNumber IsNumber c.in_ok-device.rest.now c.in_ok-first.rest.now c.in_ok-first.first c.in_ok-first.ensures c.in_err-last.ensures)))

pub returns : goal.returns
returns c =
    let from_first : ℕ × ℕ = (c.in_ok-first.first, c.in_ok-last.last) in
    let words : ℕ × (ℕ × ℕ) = (c.in_ok-device.device, from_first) in
    traffic_reads c.args.line.now c.in_ok-arguments.arguments.now c.in_ok-arguments.ensures (Some words) (followed_by IsDevice (Followed IsNumber IsNumber) c.in_ok-arguments.arguments.now c.in_ok-device.rest.now c.in_ok-device.device from_first c.in_ok-device.ensures (followed_by IsNumber IsNumber c.in_ok-device.rest.now c.in_ok-first.rest.now c.in_ok-first.first c.in_ok-last.last c.in_ok-first.ensures c.in_ok-last.ensures))

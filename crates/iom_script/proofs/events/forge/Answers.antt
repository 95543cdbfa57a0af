use Rattle.std.proofs.Common.{Some, None, codes, ℕ}
use Rattle.iom_script.specs.Words.{IsDevice, IsNumber}
use Rattle.iom_script.proofs.FieldLemmas.{followed_none, followed_by_none, followed_by}
use Rattle.iom_script.proofs.EventLemmas.{no_start}
use Rattle.iom_script.proofs.AtsEventLemmas.{forge_reads}
use Rattle.iom_script.proofs.events.forge.Goals as goal

pub returns-in_err-arguments : goal.returns-in_err-arguments
returns-in_err-arguments c = rw c.from_residual.ensures (no_start (codes "forge ") c.args.line.now c.in_err-arguments.ensures)

pub returns-in_err-device : goal.returns-in_err-device
returns-in_err-device c = rw c.from_residual-in_err-device.ensures (forge_reads c.args.line.now c.in_ok-arguments.arguments.now c.in_ok-arguments.ensures None (followed_none IsDevice IsNumber c.in_ok-arguments.arguments.now c.in_err-device.ensures))

pub returns-in_err-serial : goal.returns-in_err-serial
returns-in_err-serial c =
    rw c.from_residual-in_err-serial.ensures (forge_reads c.args.line.now c.in_ok-arguments.arguments.now c.in_ok-arguments.ensures None (followed_by_none IsDevice IsNumber c.in_ok-arguments.arguments.now c.in_ok-device.rest.now c.in_ok-device.device c.in_ok-device.ensures c.in_err-serial.ensures))

pub returns : goal.returns
returns c =
    let words : ℕ × ℕ = (c.in_ok-device.device, c.in_ok-serial.serial) in
    forge_reads c.args.line.now c.in_ok-arguments.arguments.now c.in_ok-arguments.ensures (Some words) (followed_by IsDevice IsNumber c.in_ok-arguments.arguments.now c.in_ok-device.rest.now c.in_ok-device.device c.in_ok-serial.serial c.in_ok-device.ensures c.in_ok-serial.ensures)

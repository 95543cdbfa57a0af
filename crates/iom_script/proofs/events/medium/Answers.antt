use Rattle.std.proofs.Common.{Some, None, codes, ℕ}
use Rattle.iom_script.specs.Words.{IsDevice, IsNumber}
use Rattle.iom_script.proofs.FieldLemmas.{followed_none, followed_by_none, followed_by}
use Rattle.iom_script.proofs.EventLemmas.{no_start}
use Rattle.iom_script.proofs.BlockEventLemmas.{medium_reads}
use Rattle.iom_script.proofs.events.medium.Goals as goal

pub returns-in_err-arguments : goal.returns-in_err-arguments
returns-in_err-arguments c = rw c.from_residual.ensures (no_start (codes "medium ") c.args.line.now c.in_err-arguments.ensures)

pub returns-in_err-device : goal.returns-in_err-device
returns-in_err-device c = rw c.from_residual-in_err-device.ensures (medium_reads c.args.line.now c.in_ok-arguments.arguments.now c.in_ok-arguments.ensures None (followed_none IsDevice IsNumber c.in_ok-arguments.arguments.now c.in_err-device.ensures))

pub returns-in_err-disk : goal.returns-in_err-disk
returns-in_err-disk c =
    rw c.from_residual-in_err-disk.ensures (medium_reads c.args.line.now c.in_ok-arguments.arguments.now c.in_ok-arguments.ensures None (followed_by_none IsDevice IsNumber c.in_ok-arguments.arguments.now c.in_ok-device.rest.now c.in_ok-device.device c.in_ok-device.ensures c.in_err-disk.ensures))

pub returns : goal.returns
returns c =
    let words : ℕ × ℕ = (c.in_ok-device.device, c.in_ok-disk.disk) in
    medium_reads c.args.line.now c.in_ok-arguments.arguments.now c.in_ok-arguments.ensures (Some words) (followed_by IsDevice IsNumber c.in_ok-arguments.arguments.now c.in_ok-device.rest.now c.in_ok-device.device c.in_ok-disk.disk c.in_ok-device.ensures c.in_ok-disk.ensures)

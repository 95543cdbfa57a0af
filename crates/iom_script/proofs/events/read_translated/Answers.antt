use Rattle.std.proofs.Common.{Some, None, codes, ℕ}
use Rattle.iom_script.specs.Words.{IsDevice, IsNumber, IsAddress}
use Rattle.iom_script.proofs.FieldLemmas.{Followed, followed_none, followed_by_none, followed_by}
use Rattle.iom_script.proofs.EventLemmas.{no_start}
use Rattle.iom_script.proofs.AtsEventLemmas.{tread_reads}
use Rattle.iom_script.proofs.events.read_translated.Goals as goal

pub returns-in_err-arguments : goal.returns-in_err-arguments
returns-in_err-arguments c = rw c.from_residual.ensures (no_start (codes "tread ") c.args.line.now c.in_err-arguments.ensures)

pub returns-in_err-device : goal.returns-in_err-device
returns-in_err-device c = rw c.from_residual-in_err-device.ensures (tread_reads c.args.line.now c.in_ok-arguments.arguments.now c.in_ok-arguments.ensures None (followed_none IsDevice (Followed IsAddress IsNumber) c.in_ok-arguments.arguments.now c.in_err-device.ensures))

pub returns-in_err-address : goal.returns-in_err-address
returns-in_err-address c =
    rw c.from_residual-in_err-address.ensures (tread_reads c.args.line.now c.in_ok-arguments.arguments.now c.in_ok-arguments.ensures None (followed_by_none IsDevice (Followed IsAddress IsNumber) c.in_ok-arguments.arguments.now c.in_ok-device.rest.now c.in_ok-device.device c.in_ok-device.ensures
    (followed_none IsAddress IsNumber c.in_ok-device.rest.now c.in_err-address.ensures)))

pub returns-in_err-len : goal.returns-in_err-len
returns-in_err-len c =
    rw c.from_residual-in_err-len.ensures (tread_reads c.args.line.now c.in_ok-arguments.arguments.now c.in_ok-arguments.ensures None (followed_by_none IsDevice (Followed IsAddress IsNumber) c.in_ok-arguments.arguments.now c.in_ok-device.rest.now c.in_ok-device.device c.in_ok-device.ensures
    (followed_by_none IsAddress IsNumber c.in_ok-device.rest.now c.in_ok-address.rest.now c.in_ok-address.address c.in_ok-address.ensures c.in_err-len.ensures)))

pub returns : goal.returns
returns c =
    let two : ℕ × ℕ = (c.in_ok-address.address, c.in_ok-len.len) in
    let words : ℕ × (ℕ × ℕ) = (c.in_ok-device.device, two) in
    tread_reads c.args.line.now c.in_ok-arguments.arguments.now c.in_ok-arguments.ensures (Some words) (followed_by IsDevice (Followed IsAddress IsNumber) c.in_ok-arguments.arguments.now c.in_ok-device.rest.now c.in_ok-device.device two c.in_ok-device.ensures
    (followed_by IsAddress IsNumber c.in_ok-device.rest.now c.in_ok-address.rest.now c.in_ok-address.address c.in_ok-len.len c.in_ok-address.ensures c.in_ok-len.ensures))

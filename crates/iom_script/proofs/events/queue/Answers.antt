use Rattle.std.proofs.Common.{Some, None, codes, ℕ}
use Rattle.iom_script.specs.Words.{IsDevice, IsNumber, IsAddress}
use Rattle.iom_script.proofs.FieldLemmas.{Followed, followed_none, followed_by_none, followed_by}
use Rattle.iom_script.proofs.EventLemmas.{no_start}
use Rattle.iom_script.proofs.BlockEventLemmas.{QueueValues, queue_reads}
use Rattle.iom_script.proofs.events.queue.Goals as goal

pub returns-in_err-arguments : goal.returns-in_err-arguments
returns-in_err-arguments c = rw c.from_residual.ensures (no_start (codes "queue ") c.args.line.now c.in_err-arguments.ensures)

pub returns-in_err-device : goal.returns-in_err-device
returns-in_err-device c =
    rw c.from_residual-in_err-device.ensures (queue_reads c.args.line.now c.in_ok-arguments.arguments.now c.in_ok-arguments.ensures None (followed_none IsDevice (Followed IsNumber (Followed IsAddress (Followed IsAddress IsAddress))) c.in_ok-arguments.arguments.now c.in_err-device.ensures))

pub returns-in_err-size : goal.returns-in_err-size
returns-in_err-size c =
    rw c.from_residual-in_err-size.ensures (queue_reads c.args.line.now c.in_ok-arguments.arguments.now c.in_ok-arguments.ensures None (followed_by_none IsDevice (Followed IsNumber (Followed IsAddress (Followed IsAddress IsAddress))) c.in_ok-arguments.arguments.now c.in_ok-device.rest.now c.in_ok-device.device c.in_ok-device.ensures
    (followed_none IsNumber (Followed IsAddress (Followed IsAddress IsAddress)) c.in_ok-device.rest.now c.in_err-size.ensures)))

pub returns-in_err-descriptors : goal.returns-in_err-descriptors
returns-in_err-descriptors c =
    rw c.from_residual-in_err-descriptors.ensures (queue_reads c.args.line.now c.in_ok-arguments.arguments.now c.in_ok-arguments.ensures None (followed_by_none IsDevice (Followed IsNumber (Followed IsAddress (Followed IsAddress IsAddress))) c.in_ok-arguments.arguments.now c.in_ok-device.rest.now c.in_ok-device.device c.in_ok-device.ensures
    (followed_by_none IsNumber (Followed IsAddress (Followed IsAddress IsAddress)) c.in_ok-device.rest.now c.in_ok-size.rest.now c.in_ok-size.size c.in_ok-size.ensures
    (followed_none IsAddress (Followed IsAddress IsAddress) c.in_ok-size.rest.now c.in_err-descriptors.ensures))))

pub returns-in_err-available : goal.returns-in_err-available
returns-in_err-available c =
    rw c.from_residual-in_err-available.ensures (queue_reads c.args.line.now c.in_ok-arguments.arguments.now c.in_ok-arguments.ensures None (followed_by_none IsDevice (Followed IsNumber (Followed IsAddress (Followed IsAddress IsAddress))) c.in_ok-arguments.arguments.now c.in_ok-device.rest.now c.in_ok-device.device c.in_ok-device.ensures
    (followed_by_none IsNumber (Followed IsAddress (Followed IsAddress IsAddress)) c.in_ok-device.rest.now c.in_ok-size.rest.now c.in_ok-size.size c.in_ok-size.ensures
    (followed_by_none IsAddress (Followed IsAddress IsAddress) c.in_ok-size.rest.now c.in_ok-descriptors.rest.now c.in_ok-descriptors.descriptors c.in_ok-descriptors.ensures
    (followed_none IsAddress IsAddress c.in_ok-descriptors.rest.now c.in_err-available.ensures)))))

pub returns-in_err-used : goal.returns-in_err-used
returns-in_err-used c =
    rw c.from_residual-in_err-used.ensures (queue_reads c.args.line.now c.in_ok-arguments.arguments.now c.in_ok-arguments.ensures None (followed_by_none IsDevice (Followed IsNumber (Followed IsAddress (Followed IsAddress IsAddress))) c.in_ok-arguments.arguments.now c.in_ok-device.rest.now c.in_ok-device.device c.in_ok-device.ensures
    (followed_by_none IsNumber (Followed IsAddress (Followed IsAddress IsAddress)) c.in_ok-device.rest.now c.in_ok-size.rest.now c.in_ok-size.size c.in_ok-size.ensures
    (followed_by_none IsAddress (Followed IsAddress IsAddress) c.in_ok-size.rest.now c.in_ok-descriptors.rest.now c.in_ok-descriptors.descriptors c.in_ok-descriptors.ensures
    (followed_by_none IsAddress IsAddress c.in_ok-descriptors.rest.now c.in_ok-available.rest.now c.in_ok-available.available c.in_ok-available.ensures
    c.in_err-used.ensures)))))

pub returns : goal.returns
returns c =
    let two : ℕ × ℕ = (c.in_ok-available.available, c.in_ok-used.used) in
    let three : ℕ × (ℕ × ℕ) = (c.in_ok-descriptors.descriptors, two) in
    let four : ℕ × (ℕ × (ℕ × ℕ)) = (c.in_ok-size.size, three) in
    let words : QueueValues = (c.in_ok-device.device, four) in
    queue_reads c.args.line.now c.in_ok-arguments.arguments.now c.in_ok-arguments.ensures (Some words)
    (followed_by IsDevice (Followed IsNumber (Followed IsAddress (Followed IsAddress IsAddress))) c.in_ok-arguments.arguments.now c.in_ok-device.rest.now c.in_ok-device.device four c.in_ok-device.ensures
    (followed_by IsNumber (Followed IsAddress (Followed IsAddress IsAddress)) c.in_ok-device.rest.now c.in_ok-size.rest.now c.in_ok-size.size three c.in_ok-size.ensures
    (followed_by IsAddress (Followed IsAddress IsAddress) c.in_ok-size.rest.now c.in_ok-descriptors.rest.now c.in_ok-descriptors.descriptors two c.in_ok-descriptors.ensures
    (followed_by IsAddress IsAddress c.in_ok-descriptors.rest.now c.in_ok-available.rest.now c.in_ok-available.available c.in_ok-used.used c.in_ok-available.ensures c.in_ok-used.ensures))))

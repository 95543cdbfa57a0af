use Rattle.std.proofs.Common.{Some, None, codes, ℕ}
use Rattle.iom_script.specs.Words.{IsAddress, IsNumber}
use Rattle.iom_script.proofs.FieldLemmas.{followed_none, followed_by_none, followed_by}
use Rattle.iom_script.proofs.EventLemmas.{no_start, peek_reads}
use Rattle.iom_script.proofs.events.peek.Goals as goal

pub returns-in_err-arguments : goal.returns-in_err-arguments
returns-in_err-arguments c = rw c.from_residual.ensures (no_start (codes "peek ") c.args.line.now c.in_err-arguments.ensures)

pub returns-in_err-address : goal.returns-in_err-address
returns-in_err-address c = rw c.from_residual-in_err-address.ensures (peek_reads c.args.line.now c.in_ok-arguments.arguments.now c.in_ok-arguments.ensures None (followed_none IsAddress IsNumber c.in_ok-arguments.arguments.now c.in_err-address.ensures))

pub returns-in_err-len : goal.returns-in_err-len
returns-in_err-len c =
    rw c.from_residual-in_err-len.ensures (peek_reads c.args.line.now c.in_ok-arguments.arguments.now c.in_ok-arguments.ensures None (followed_by_none IsAddress IsNumber c.in_ok-arguments.arguments.now c.in_ok-address.rest.now c.in_ok-address.address c.in_ok-address.ensures c.in_err-len.ensures))

pub returns : goal.returns
returns c =
    let words : ℕ × ℕ = (c.in_ok-address.address, c.in_ok-len.len) in
    peek_reads c.args.line.now c.in_ok-arguments.arguments.now c.in_ok-arguments.ensures (Some words) (followed_by IsAddress IsNumber c.in_ok-arguments.arguments.now c.in_ok-address.rest.now c.in_ok-address.address c.in_ok-len.len c.in_ok-address.ensures c.in_ok-len.ensures)

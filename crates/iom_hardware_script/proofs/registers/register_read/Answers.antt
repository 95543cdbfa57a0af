use Rattle.std.proofs.Common.{Some, None, ℕ}
use Rattle.iom_script.specs.Words.{IsNumber}
use Rattle.iom_script.proofs.FieldLemmas.{followed_by, followed_by_none, followed_none}
use Rattle.iom_hardware_script.proofs.HardwareLineLemmas.{no_register_read, register_read_reads}
use Rattle.iom_hardware_script.proofs.registers.register_read.Goals as goal

pub returns-in_err-arguments : goal.returns-in_err-arguments
returns-in_err-arguments c = rw c.from_residual.ensures (no_register_read c.args.line.now c.in_err-arguments.ensures)

pub returns-in_err-offset : goal.returns-in_err-offset
returns-in_err-offset c = rw c.from_residual-in_err-offset.ensures (register_read_reads c.args.line.now c.in_ok-arguments.arguments.now c.in_ok-arguments.ensures None (followed_none IsNumber IsNumber c.in_ok-arguments.arguments.now c.in_err-offset.ensures))

pub returns-in_err-width : goal.returns-in_err-width
returns-in_err-width c = rw c.from_residual-in_err-width.ensures (register_read_reads c.args.line.now c.in_ok-arguments.arguments.now c.in_ok-arguments.ensures None (followed_by_none IsNumber IsNumber c.in_ok-arguments.arguments.now c.in_ok-offset.rest.now c.in_ok-offset.offset c.in_ok-offset.ensures c.in_err-width.ensures))

pub returns : goal.returns
returns c =
    let words : ℕ × ℕ = (c.in_ok-offset.offset, c.in_ok-width.width) in
    register_read_reads c.args.line.now c.in_ok-arguments.arguments.now c.in_ok-arguments.ensures (Some words) (followed_by IsNumber IsNumber c.in_ok-arguments.arguments.now c.in_ok-offset.rest.now c.in_ok-offset.offset c.in_ok-width.width c.in_ok-offset.ensures c.in_ok-width.ensures)

use Rattle.std.proofs.Common.{Some, None, ℕ}
use Rattle.iom_script.specs.Words.{IsAddress, IsNumber}
use Rattle.iom_script.proofs.FieldLemmas.{Followed, followed_by, followed_by_none, followed_none}
use Rattle.iom_hardware_script.proofs.HardwareLineLemmas.{no_register_write, register_write_reads}
use Rattle.iom_hardware_script.proofs.registers.register_write.Goals as goal

pub returns-in_err-arguments : goal.returns-in_err-arguments
returns-in_err-arguments c = rw c.from_residual.ensures (no_register_write c.args.line.now c.in_err-arguments.ensures)

pub returns-in_err-offset : goal.returns-in_err-offset
returns-in_err-offset c = rw c.from_residual-in_err-offset.ensures (register_write_reads c.args.line.now c.in_ok-arguments.arguments.now c.in_ok-arguments.ensures None (followed_none IsNumber (Followed IsNumber IsAddress) c.in_ok-arguments.arguments.now c.in_err-offset.ensures))

pub returns-in_err-width : goal.returns-in_err-width
returns-in_err-width c = rw c.from_residual-in_err-width.ensures (register_write_reads c.args.line.now c.in_ok-arguments.arguments.now c.in_ok-arguments.ensures None (followed_by_none IsNumber (Followed IsNumber IsAddress) c.in_ok-arguments.arguments.now c.in_ok-offset.rest.now c.in_ok-offset.offset c.in_ok-offset.ensures (followed_none IsNumber IsAddress c.in_ok-offset.rest.now c.in_err-width.ensures)))

pub returns-in_err-value : goal.returns-in_err-value
returns-in_err-value c = rw c.from_residual-in_err-value.ensures (register_write_reads c.args.line.now c.in_ok-arguments.arguments.now c.in_ok-arguments.ensures None (followed_by_none IsNumber (Followed IsNumber IsAddress) c.in_ok-arguments.arguments.now c.in_ok-offset.rest.now c.in_ok-offset.offset c.in_ok-offset.ensures (followed_by_none IsNumber IsAddress c.in_ok-offset.rest.now c.in_ok-width.rest.now c.in_ok-width.width c.in_ok-width.ensures c.in_err-value.ensures)))

pub returns : goal.returns
returns c =
    let from_width : ℕ × ℕ = (c.in_ok-width.width, c.in_ok-value.value) in
    let words : ℕ × (ℕ × ℕ) = (c.in_ok-offset.offset, from_width) in
    register_write_reads c.args.line.now c.in_ok-arguments.arguments.now c.in_ok-arguments.ensures (Some words) (followed_by IsNumber (Followed IsNumber IsAddress) c.in_ok-arguments.arguments.now c.in_ok-offset.rest.now c.in_ok-offset.offset from_width c.in_ok-offset.ensures (followed_by IsNumber IsAddress c.in_ok-offset.rest.now c.in_ok-width.rest.now c.in_ok-width.width c.in_ok-value.value c.in_ok-width.ensures c.in_ok-value.ensures))

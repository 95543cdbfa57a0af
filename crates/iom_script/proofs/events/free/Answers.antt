use Rattle.std.proofs.Common.{Some, None, codes}
use Rattle.iom_script.proofs.EventLemmas.{no_start, free_reads}
use Rattle.iom_script.proofs.events.free.Goals as goal

pub returns-in_err-arguments : goal.returns-in_err-arguments
returns-in_err-arguments c = rw c.from_residual.ensures (no_start (codes "free ") c.args.line.now c.in_err-arguments.ensures)

pub returns : goal.returns
returns c = free_reads c.args.line.now c.in_ok-arguments.arguments.now c.in_ok-arguments.ensures (Some c.in_ok-frame.frame) c.in_ok-frame.ensures

pub returns-in_err-frame : goal.returns-in_err-frame
returns-in_err-frame c = rw c.from_residual-in_err-frame.ensures (free_reads c.args.line.now c.in_ok-arguments.arguments.now c.in_ok-arguments.ensures None c.in_err-frame.ensures)

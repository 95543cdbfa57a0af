use Rattle.std.proofs.Common.{Some, None, codes}
use Rattle.iom_script.proofs.EventLemmas.{no_start}
use Rattle.iom_script.proofs.BlockEventLemmas.{step_reads}
use Rattle.iom_script.proofs.events.step.Goals as goal

pub returns-in_err-arguments : goal.returns-in_err-arguments
returns-in_err-arguments c = rw c.from_residual.ensures (no_start (codes "step ") c.args.line.now c.in_err-arguments.ensures)

pub returns : goal.returns
returns c = step_reads c.args.line.now c.in_ok-arguments.arguments.now c.in_ok-arguments.ensures (Some c.in_ok-device.device) c.in_ok-device.ensures

pub returns-in_err-device : goal.returns-in_err-device
returns-in_err-device c = rw c.from_residual-in_err-device.ensures (step_reads c.args.line.now c.in_ok-arguments.arguments.now c.in_ok-arguments.ensures None c.in_err-device.ensures)

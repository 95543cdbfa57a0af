use Rattle.std.proofs.Common.{Some, None}
use Rattle.iom_hardware_script.proofs.HardwareLineLemmas.{no_load, load_reads}
use Rattle.iom_hardware_script.proofs.loads.load.Goals as goal

pub returns-in_err-arguments : goal.returns-in_err-arguments
returns-in_err-arguments c = rw c.from_residual.ensures (no_load c.args.line.now c.in_err-arguments.ensures)

pub returns-in_err-device : goal.returns-in_err-device
returns-in_err-device c = rw c.from_residual-in_err-device.ensures (load_reads c.args.line.now c.in_ok-arguments.arguments.now c.in_ok-arguments.ensures None c.in_err-device.ensures)

pub returns : goal.returns
returns c = load_reads c.args.line.now c.in_ok-arguments.arguments.now c.in_ok-arguments.ensures (Some c.in_ok-device.device) c.in_ok-device.ensures

use Rattle.std.proofs.Common.{Some, None, codes}
use Rattle.iom_hardware_script.proofs.ClaimLemmas.{no_claim, trust_reads}
use Rattle.iom_hardware_script.proofs.claims.trust.Goals as goal

pub returns-in_err-arguments : goal.returns-in_err-arguments
returns-in_err-arguments c = rw c.from_residual.ensures (no_claim (codes "trust ") c.args.text.now c.in_err-arguments.ensures)

pub returns-in_err-device : goal.returns-in_err-device
returns-in_err-device c = rw c.from_residual-in_err-device.ensures (trust_reads c.args.text.now c.in_ok-arguments.arguments.now c.in_ok-arguments.ensures None c.in_err-device.ensures)

pub returns : goal.returns
returns c = trust_reads c.args.text.now c.in_ok-arguments.arguments.now c.in_ok-arguments.ensures (Some c.in_ok-device.device) c.in_ok-device.ensures

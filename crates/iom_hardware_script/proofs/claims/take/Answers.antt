use Rattle.std.proofs.Common.{Some, None, codes}
use Rattle.iom_hardware_script.proofs.ClaimLemmas.{no_claim, take_reads}
use Rattle.iom_hardware_script.proofs.claims.take.Goals as goal

pub returns-in_err-arguments : goal.returns-in_err-arguments
returns-in_err-arguments c = rw c.from_residual.ensures (no_claim (codes "take ") c.args.text.now c.in_err-arguments.ensures)

pub returns-in_err-frame : goal.returns-in_err-frame
returns-in_err-frame c = rw c.from_residual-in_err-frame.ensures (take_reads c.args.text.now c.in_ok-arguments.arguments.now c.in_ok-arguments.ensures None c.in_err-frame.ensures)

pub returns : goal.returns
returns c = take_reads c.args.text.now c.in_ok-arguments.arguments.now c.in_ok-arguments.ensures (Some c.in_ok-frame.frame) c.in_ok-frame.ensures

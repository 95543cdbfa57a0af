use Rattle.std.proofs.Common.{Some, None, codes}
use Rattle.iom_hardware_script.proofs.ClaimLemmas.{no_claim, done_reads}
use Rattle.iom_hardware_script.proofs.claims.done.Goals as goal

pub returns-in_err-arguments : goal.returns-in_err-arguments
returns-in_err-arguments c = rw c.from_residual.ensures (no_claim (codes "done ") c.args.text.now c.in_err-arguments.ensures)

pub returns-in_err-number : goal.returns-in_err-number
returns-in_err-number c = rw c.from_residual-in_err-number.ensures (done_reads c.args.text.now c.in_ok-arguments.arguments.now c.in_ok-arguments.ensures None c.in_err-number.ensures)

pub returns : goal.returns
returns c = done_reads c.args.text.now c.in_ok-arguments.arguments.now c.in_ok-arguments.ensures (Some c.in_ok-number.number) c.in_ok-number.ensures

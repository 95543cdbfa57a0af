use Rattle.std.proofs.Common.{Some, None, codes}
use Rattle.iom_script.proofs.EventLemmas.{no_start}
use Rattle.iom_script.proofs.AtsEventLemmas.{deliver_reads}
use Rattle.iom_script.proofs.events.deliver.Goals as goal

pub returns-in_err-arguments : goal.returns-in_err-arguments
returns-in_err-arguments c = rw c.from_residual.ensures (no_start (codes "deliver ") c.args.line.now c.in_err-arguments.ensures)

pub returns : goal.returns
returns c = deliver_reads c.args.line.now c.in_ok-arguments.arguments.now c.in_ok-arguments.ensures (Some c.in_ok-place.place) c.in_ok-place.ensures

pub returns-in_err-place : goal.returns-in_err-place
returns-in_err-place c = rw c.from_residual-in_err-place.ensures (deliver_reads c.args.line.now c.in_ok-arguments.arguments.now c.in_ok-arguments.ensures None c.in_err-place.ensures)

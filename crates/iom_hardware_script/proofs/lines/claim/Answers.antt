use Rattle.std.proofs.Common.{Some, None}
use Rattle.iom_hardware_script.proofs.HardwareLineLemmas.{no_claim_line, claim_line_reads}
use Rattle.iom_hardware_script.proofs.lines.claim.Goals as goal

pub returns-in_err-text : goal.returns-in_err-text
returns-in_err-text c = rw c.from_residual.ensures (no_claim_line c.args.line.now c.in_err-text.ensures)

pub returns-in_err-claimed : goal.returns-in_err-claimed
returns-in_err-claimed c = rw c.from_residual-in_err-claimed.ensures (claim_line_reads c.args.line.now c.in_ok-text.text.now c.in_ok-text.ensures None c.in_err-claimed.ensures)

pub returns : goal.returns
returns c = claim_line_reads c.args.line.now c.in_ok-text.text.now c.in_ok-text.ensures (Some c.in_ok-claimed.claimed) c.in_ok-claimed.ensures

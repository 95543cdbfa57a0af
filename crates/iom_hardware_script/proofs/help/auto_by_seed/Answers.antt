use Rattle.std.proofs.Common.{Some, None, codes}
use Rattle.iom_hardware_script.proofs.HelpLemmas.{no_help, auto_reads}
use Rattle.iom_hardware_script.proofs.help.auto_by_seed.Goals as goal

pub returns-in_err-arguments : goal.returns-in_err-arguments
returns-in_err-arguments c = rw c.from_residual.ensures (no_help (codes "auto ") c.args.line.now c.in_err-arguments.ensures)

pub returns-in_err-seed : goal.returns-in_err-seed
returns-in_err-seed c = rw c.from_residual-in_err-seed.ensures (auto_reads c.args.line.now c.in_ok-arguments.arguments.now c.in_ok-arguments.ensures None c.in_err-seed.ensures)

pub returns : goal.returns
returns c = auto_reads c.args.line.now c.in_ok-arguments.arguments.now c.in_ok-arguments.ensures (Some c.in_ok-seed.seed) c.in_ok-seed.ensures

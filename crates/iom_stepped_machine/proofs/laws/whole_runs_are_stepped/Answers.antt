use Rattle.iom_stepped_machine.proofs.WholeLemmas.{whole_runs}
use Rattle.iom_stepped_machine.proofs.laws.whole_runs_are_stepped.Goals as goal

pub returns : goal.returns
returns c = whole_runs

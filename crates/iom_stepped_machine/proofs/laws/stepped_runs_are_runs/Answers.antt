use Rattle.iom_stepped_machine.proofs.PartLemmas.{runs_are_runs}
use Rattle.iom_stepped_machine.proofs.laws.stepped_runs_are_runs.Goals as goal

pub returns : goal.returns
returns c = runs_are_runs

use Rattle.iom_hardware_runner.proofs.RunLemmas.{comes_run}
use Rattle.iom_hardware_runner.proofs.laws.scripts_are_runs.Goals as goal

pub returns : goal.returns
returns c = comes_run

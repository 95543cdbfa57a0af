use Rattle.iom_walks.proofs.RunLemmas.{runs_are_whole, served_are_whole}
use Rattle.iom_walks.proofs.laws.run_law.Goals as goal

pub returns : goal.returns
returns c = record { whole = runs_are_whole; served = served_are_whole }

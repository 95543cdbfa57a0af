use Rattle.iom_stepped_machine.proofs.LoadLemmas.{few_loads}
use Rattle.iom_stepped_machine.proofs.laws.walks_make_few_loads.Goals as goal

pub returns : goal.returns
returns c = few_loads

use Rattle.iom_walks.proofs.FewLemmas.{few_go_on}
use Rattle.iom_walks.proofs.laws.bound_law.Goals as goal

pub returns : goal.returns
returns c = few_go_on

use Rattle.iom_way_survey.proofs.TreeLemmas.{levels_are_walks}
use Rattle.iom_way_survey.proofs.laws.level_law.Goals as goal

pub returns : goal.returns
returns c = levels_are_walks

use Rattle.iom_standing_walks.proofs.PositionLemmas.{positions_are_all}
use Rattle.iom_standing_walks.proofs.laws.position_law.Goals as goal

pub returns : goal.returns
returns c = positions_are_all

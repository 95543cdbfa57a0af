-- The paths of an address through both stages reach one leaf.
use Rattle.iom_stage_walk.proofs.OneBoth.{one_walked_both}
use Rattle.iom_stage_walk.proofs.laws.one_leaf_both.Goals as goal

pub returns : goal.returns
returns c = one_walked_both

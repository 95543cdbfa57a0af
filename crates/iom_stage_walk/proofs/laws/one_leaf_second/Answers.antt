-- The paths of an address in a second stage reach one leaf.
use Rattle.iom_stage_walk.proofs.OneSecond.{one_walked_second}
use Rattle.iom_stage_walk.proofs.laws.one_leaf_second.Goals as goal

pub returns : goal.returns
returns c = one_walked_second

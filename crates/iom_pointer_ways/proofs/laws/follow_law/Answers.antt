use Rattle.iom_pointer_ways.proofs.FollowLemmas.{followed_are_passed}
use Rattle.iom_pointer_ways.proofs.laws.follow_law.Goals as goal

pub returns : goal.returns
returns c = followed_are_passed

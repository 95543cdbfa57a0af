use Rattle.std.proofs.Common.{refl}
use Rattle.iom_litmus.proofs.ListedLemmas.{at_is_listed}
use Rattle.iom_litmus.proofs.listed.is_spot_among.Goals as goal

pub returns-then-is_same_spot : goal.returns-then-is_same_spot
returns-then-is_same_spot c _ = at_is_listed c.args.spots.now c.loop-other.other-index _ c.args.spot c.loop-other-test.true (c.if-is_same_spot.ensures refl)

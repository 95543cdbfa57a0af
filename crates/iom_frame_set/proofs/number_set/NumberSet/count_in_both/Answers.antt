use Rattle.std.proofs.Common.{refl, arith}
use Rattle.iom_frame_set.specs.Sets.{common_below}
use Rattle.iom_frame_set.proofs.number_set.NumberSet.count_in_both.Goals as goal

pub loop-index-init : goal.loop-index-init
unfolding common_below
loop-index-init c = (refl, omega arith)

use Rattle.std.proofs.Common.{◌≡◌, ◌*◌, ◌≤◌, length}
use Rattle.iom_frame_set.specs.Sets.{common_below}
use Rattle.iom_frame_set.proofs.number_set.NumberSet.count_in_both.Given as goal

-- the numbers of the words below the index are counted
abbrev pub invariant-loop-index : goal.invariant-loop-index
invariant-loop-index l = (l.count ≡ length (common_below l.self l.other (64 * l.index))) × (l.count ≤ 64 * l.index)

use Rattle.std.proofs.Common.{◌*◌}
use Rattle.iom_frame_set.specs.Spans.{NoneIsInBoth}
use Rattle.iom_frame_set.proofs.number_set.NumberSet.highest_in_both.Given as goal

-- no number of the words from the index on is in both sets
abbrev pub invariant-loop-index : goal.invariant-loop-index
invariant-loop-index l = NoneIsInBoth l.self l.other (64 * l.index) l.limit

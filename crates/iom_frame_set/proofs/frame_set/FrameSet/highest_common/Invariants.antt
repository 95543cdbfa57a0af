use Rattle.std.proofs.Common.{◌*◌, ◌≤◌}
use Rattle.iom_frame_set.specs.Spans.{NoneIsInBoth}
use Rattle.iom_frame_set.proofs.frame_set.FrameSet.highest_common.Given as goal

-- no number of the words from the place on is in both sets
abbrev pub invariant-loop-index : goal.invariant-loop-index
invariant-loop-index l = (64 * l.below ≤ l.limit) × NoneIsInBoth l.self-inside.frames l.other-inside.frames (64 * l.below) l.limit

abbrev pub decreases-loop-index : goal.decreases-loop-index
decreases-loop-index l = l.below

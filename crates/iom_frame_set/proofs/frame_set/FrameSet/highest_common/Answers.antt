use Rattle.std.proofs.Common.{arith}
use Rattle.iom_frame_set.specs.Spans.{NoneIsInBoth, IsHighestInBoth}
use Rattle.iom_frame_set.proofs.SearchLemmas.{none_from_word, none_at_all, highest_from_word, of_both}
use Rattle.iom_frame_set.proofs.frame_set.FrameSet.highest_common.Goals as goal

pub loop-index-preserved : goal.loop-index-preserved
loop-index-preserved c =
    let top = c.in-Some-highest_in_both.ensures in
    let lower = top.below in (
      omega arith,
      none_from_word c.self.inside.frames c.self.inside.filled c.other.inside.frames c.other.inside.filled c.self.invariant c.other.invariant
          c.in-Some-highest_in_both.index c.loop-index.below c.args.limit top c.in_default-highest_in_word.ensures c.loop-index.invariant.1,
    )

pub returns-in-Some-highest_in_word : goal.returns-in-Some-highest_in_word
returns-in-Some-highest_in_word c =
    of_both (λ x y. IsHighestInBoth x y 0 c.args.limit c.in-Some-highest_in_word.frame) _ _ _ _ c.self.view_is c.other.view_is
    (highest_from_word c.self.inside.frames c.self.inside.filled c.other.inside.frames c.other.inside.filled c.self.invariant c.other.invariant
    c.in-Some-highest_in_both.index c.loop-index.below c.args.limit c.in-Some-highest_in_word.frame c.loop-index.invariant.0 c.in-Some-highest_in_both.ensures c.in-Some-highest_in_word.ensures c.loop-index.invariant.1)

pub returns : goal.returns
returns c =
    of_both (λ x y. NoneIsInBoth x y 0 c.args.limit) _ _ _ _ c.self.view_is c.other.view_is
    (none_at_all c.self.inside.frames c.self.inside.filled c.other.inside.frames c.other.inside.filled c.self.invariant c.other.invariant
    c.loop-index.below c.args.limit c.in_default-highest_in_both.ensures c.loop-index.invariant.1)

use Rattle.std.proofs.Common.{arith}
use Rattle.iom_frame_set.proofs.SummaryLemmas.{IsSummary-left}
use Rattle.iom_frame_set.proofs.frame_set.FrameSet.remove.Goals as goal

pub invariant_of-self-else-word-eq0 : goal.invariant_of-self-else-word-eq0
invariant_of-self-else-word-eq0 c =
    IsSummary-left c.self.inside.frames c.remove.new.self c.self.inside.filled c.args.frame c.word.result c.remove.ensures.removed c.remove.ensures.others c.remove.ensures.length (omega arith) c.word.ensures c.if-word-eq0.false c.self.invariant

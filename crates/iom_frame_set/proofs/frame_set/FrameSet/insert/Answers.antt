use Rattle.iom_frame_set.proofs.SummaryLemmas.{IsSummary-inserted}
use Rattle.iom_frame_set.proofs.frame_set.FrameSet.insert.Goals as goal

pub invariant_of-self : goal.invariant_of-self
invariant_of-self c =
    IsSummary-inserted c.self.inside.frames c.insert.new.self c.self.inside.filled c.insert-2.new.self c.args.frame c.insert.ensures.inserted c.insert.ensures.others c.insert.ensures.length c.insert-2.ensures.inserted c.insert-2.ensures.length c.self.invariant

use Rattle.iom_litmus.proofs.CandidateLemmas.{once_next}
use Rattle.iom_litmus.proofs.candidates.each_once.Goals as goal

pub loop-step-preserved : goal.loop-step-preserved
loop-step-preserved c = once_next _ _ _ _ _ c.loop-step.invariant c.loop-step-test.true c.in_ok-put_once.ensures

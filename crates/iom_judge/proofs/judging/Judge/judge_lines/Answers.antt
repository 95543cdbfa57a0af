use Rattle.iom_judge.proofs.judging.Judge.judge_lines.Goals as goal

pub returns-in-Some : goal.returns-in-Some
returns-in-Some g c first judged = rw c.in-Some.is at (c.in_ok-verdict.ensures first (c.loop.invariant first judged))

pub loop-preserved : goal.loop-preserved
loop-preserved g c first judged = rw c.in_default.is at (c.in_ok-verdict.ensures first (c.loop.invariant first judged))

-- The loop of `judge_run`: the lines so far lead to what is kept.
use Rattle.iom_machine_judge.proofs.VerdictLemmas.{LeadsTo}
use Rattle.iom_machine_judge.proofs.decide.judge_run.Given as goal

abbrev pub invariant-loop-number : goal.invariant-loop-number
invariant-loop-number l = LeadsTo l.initial.kept l.lines l.number l.kept

use Rattle.std.proofs.Common.{ℕ, List, Option}
use Rattle.iom_judge.specs.Certified.{HasJudged}
use Rattle.iom_judge.proofs.judging.Judge.judge_lines.Given as goal

-- the judge has taken some lines
abbrev pub invariant-loop : goal.invariant-loop
invariant-loop g l =
    (first : Option (List ℕ)) → HasJudged l.fn.self first (g.R.Read.remaining l.fn.reader) → HasJudged l.self first (g.R.Read.remaining l.reader)

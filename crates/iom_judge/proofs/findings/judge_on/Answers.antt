use Rattle.std.proofs.Common.{subst, sym}
use Rattle.iom_judge.specs.Certified.{HasJudged}
use Rattle.iom_judge.specs.declared.judging.Judge.{Judge}
use Rattle.iom_judge.proofs.findings.judge_on.Goals as goal

pub returns : goal.returns
returns g c =
    let first = g.R.Read.remaining c.args.reader.now in
    c.in_ok-judge_lines.ensures first
    (subst (λ (judge : Judge). HasJudged judge first first) (sym c.deref_mut.ensures.value) (c.in_ok-judge.ensures first))

use Rattle.std.proofs.Common.{refl, subst, sym}
use Rattle.iom_judge.specs.Certified.{HasJudged}
use Rattle.iom_judge.specs.declared.judging.Judge.{Judge}
use Rattle.iom_judge.proofs.CertificateLemmas.{nothing_taken}
use Rattle.iom_judge.proofs.judging.Judge.new.Goals as goal

pub returns : goal.returns
returns c first =
    subst (λ (judge : Judge). HasJudged judge first first) (sym c.in_ok-new.ensures.ok) (nothing_taken _ first c.in_ok-lines.ensures refl refl)

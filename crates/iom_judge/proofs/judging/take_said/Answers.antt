use Rattle.iom_judge.proofs.CertificateLemmas.{begun, followed, if_ok}
use Rattle.iom_judge.proofs.judging.take_said.Goals as goal

pub returns-in-None : goal.returns-in-None
returns-in-None c text lines read before =
    if_ok c.begin.result _ _
    (λ begins. begun c.begin.new.found lines text c.args.tables.now _ read (rw c.in-None.is at begins) (rw c.in-None.is at before)) c.begin.ensures

pub returns-in-Some : goal.returns-in-Some
returns-in-Some c text lines read before =
    if_ok c.take_said.result _ _
    (λ follows. followed c.in-Some.machine c.take_said.new.self lines text c.args.tables.now _ read follows (rw c.in-Some.is at before))
    (c.take_said.ensures text read.0)

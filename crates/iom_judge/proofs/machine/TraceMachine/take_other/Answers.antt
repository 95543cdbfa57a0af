use Rattle.iom_judge.proofs.CertificateLemmas.{if_ok}
use Rattle.iom_judge.proofs.machine.TraceMachine.take_other.Goals as goal

pub returns-in-Made : goal.returns-in-Made
returns-in-Made c text says = rw c.in-Made.is c.make.ensures

pub returns-in-Grants : goal.returns-in-Grants
returns-in-Grants c text says =
    let granted = c.in-Grants.granted in
    let read = rw c.in-Grants.is at says in
    rw c.in-Grants.is (if_ok c.grant_each.result _ _ (λ went. (went.1, (went.0, went.2, went.3 read.1.5.4), went.4)) c.grant_each.ensures)

pub returns-in-Joins : goal.returns-in-Joins
returns-in-Joins c text says = rw c.in-Joins.is c.join.ensures

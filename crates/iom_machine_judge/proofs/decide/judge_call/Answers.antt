use Rattle.iom_machine_judge.proofs.decide.judge_call.Goals as goal

pub returns-in-Plug : goal.returns-in-Plug
returns-in-Plug c = rw c.in-Plug.is c.judge_plug.ensures

pub returns-in-Attach : goal.returns-in-Attach
returns-in-Attach c = rw c.in-Attach.is (rw (c.as_slice-pages.ensures, c.as_slice-taken.ensures) at c.judge_attach.ensures)

pub returns-in-Detach : goal.returns-in-Detach
returns-in-Detach c = rw c.in-Detach.is c.judge_detach.ensures

pub returns-in-Grant : goal.returns-in-Grant
returns-in-Grant c = rw c.in-Grant.is (rw c.as_slice-taken.ensures at c.judge_grant.ensures)

pub returns-in-Release : goal.returns-in-Release
returns-in-Release c = rw c.in-Release.is c.judge_release.ensures

pub returns-in-Quarantine : goal.returns-in-Quarantine
returns-in-Quarantine c = rw c.in-Quarantine.is c.judge_quarantine.ensures

pub returns-in-Revive : goal.returns-in-Revive
returns-in-Revive c = rw c.in-Revive.is c.judge_revive.ensures

use Rattle.iom_judge.proofs.machine.may_come.Goals as goal

pub returns-in-Some : goal.returns-in-Some
returns-in-Some c = rw c.in-Some.is c.judge.ensures

pub returns-in-None : goal.returns-in-None
returns-in-None c = rw c.in-None.is c.judge-in-None.ensures

use Rattle.iom_machine_judge.proofs.decide.judge_unchanged.Goals as goal

pub returns-in-Deliver : goal.returns-in-Deliver
returns-in-Deliver c = rw c.in-Deliver.is c.judge_deliver.ensures

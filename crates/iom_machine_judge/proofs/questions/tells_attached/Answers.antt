use Rattle.iom_machine_judge.proofs.questions.tells_attached.Goals as goal

pub returns-in-Both-mode : goal.returns-in-Both-mode
returns-in-Both-mode c = rw (c.in-Page.is, c.in-Both-mode.is) (rw c.from-in-Both-mode.ensures at c.may_each.ensures)

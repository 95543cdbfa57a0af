use Rattle.iom_machine_judge.proofs.questions.may_tell.Goals as goal

pub returns-in-Detached : goal.returns-in-Detached
returns-in-Detached c = rw c.in-Detached.is (λ h past. rw (c.cause_without_context.ensures h) at c.is_refused_with.ensures)

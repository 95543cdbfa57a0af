use Rattle.iom_machine_judge.proofs.calls.may_refuse_grant.Goals as goal

pub returns-in-NoFrames : goal.returns-in-NoFrames
returns-in-NoFrames c = rw c.in-NoFrames.is (λ h past. rw (rw (c.attachment.ensures h) at c.table_limit.ensures) at (c.are_fewer_free.ensures h past))

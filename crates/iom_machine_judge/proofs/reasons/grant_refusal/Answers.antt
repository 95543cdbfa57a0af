use Rattle.iom_machine_judge.proofs.reasons.grant_refusal.Goals as goal

pub returns-clause-first : goal.returns-clause-first
returns-clause-first c = λ h past.
    rw (c.plugged.ensures, c.not_attached.ensures, c.quarantined.ensures, c.page_limit-limit.ensures, c.attachment-attachment.ensures h, c.count.ensures.count, c.is_reserved.ensures, c.busy.ensures.busy h past) at c.first_that_applies.ensures

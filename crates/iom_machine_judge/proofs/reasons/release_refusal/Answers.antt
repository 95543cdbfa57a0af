use Rattle.iom_machine_judge.proofs.reasons.release_refusal.Goals as goal

pub returns-clause-first : goal.returns-clause-first
returns-clause-first c = λ h past.
    rw (c.plugged.ensures, c.not_attached.ensures, c.quarantined.ensures, c.attachment-attachment.ensures h, c.held.ensures.held h past, c.too_many_pending.ensures h past) at c.first_that_applies.ensures

use Rattle.iom_machine_judge.proofs.reasons.revive_refusal.Goals as goal

pub returns : goal.returns
returns c = λ h past.
    rw (c.plugged.ensures, c.not_attached.ensures, c.is_attached.ensures, c.may_still_reach.ensures h past, c.attachment-attachment.ensures h) at c.first_that_applies.ensures

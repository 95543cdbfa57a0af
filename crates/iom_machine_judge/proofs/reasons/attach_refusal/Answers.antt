use Rattle.iom_machine_judge.proofs.reasons.attach_refusal.Goals as goal

pub returns : goal.returns
returns c = λ h past.
    rw (c.plugged.ensures, c.detached.ensures, c.attachment.ensures h, c.too_wide.ensures, c.untrusted.ensures, c.device.ensures) at c.first_that_applies.ensures

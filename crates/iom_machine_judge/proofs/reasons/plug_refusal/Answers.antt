use Rattle.iom_machine_judge.proofs.reasons.plug_refusal.Goals as goal

pub returns : goal.returns
returns c = λ h past.
    rw (c.plugged.ensures, c.as_slice.ensures, c.is_missing-bad_medium.ensures, c.as_slice-2.ensures, c.disk.ensures) at c.first_that_applies.ensures

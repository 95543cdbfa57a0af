use Rattle.iom_kept_state.specs.States.{state_of}
use Rattle.iom_machine_judge.proofs.ReasonLemmas.{any_is_left}
use Rattle.iom_machine_judge.proofs.reasons.detach_refusal.Goals as goal

pub returns : goal.returns
returns c = λ h past.
    rw (c.plugged.ensures, c.not_attached.ensures, c.quarantined.ensures, c.attachment-attachment.ensures h, any_is_left (state_of c.args.kept.now h) c.args.id c.has_any.result (c.has_any.ensures h past), c.too_many_pending.ensures h past) at c.first_that_applies.ensures

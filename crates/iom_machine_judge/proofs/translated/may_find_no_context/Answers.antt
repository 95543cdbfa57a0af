use Rattle.std.proofs.Common.{◌≡◌, ◌∙◌, false, sym}
use Rattle.std.proofs.lemmas.Bool.{false≢true}
use Rattle.iom_machine.specs.declared.state.Attachment.{Attachment}
use Rattle.iom_machine.specs.declared.state.Attachment.TheVariants.{Detached, Attached, Quarantined, Leaving}
use Rattle.iom_machine.specs.Refusals.{is_attached}
use Rattle.iom_machine.specs.Translated.{MayLackContext}
use Rattle.iom_machine_judge.proofs.translated.may_find_no_context.Goals as goal

lacks : (attachment : Attachment) → is_attached attachment ≡ false → MayLackContext attachment
lacks Detached e = tt
lacks (Attached mode ats) e = absurd (false≢true (sym e))
lacks (Quarantined ticket mode ats) e = tt
lacks (Leaving ticket mode ats) e = tt

pub returns-then-not-is_attached : goal.returns-then-not-is_attached
returns-then-not-is_attached c = λ h. (
  (λ yes. (lacks c.args.device.now.attachment (sym c.is_attached.ensures ∙ c.if-not-is_attached.true), c.is_same_cause.ensures.0 yes ∙ c.cause_without_context.ensures h)),
  (λ both. c.is_same_cause.ensures.1 (both.1 ∙ sym (c.cause_without_context.ensures h))),
)

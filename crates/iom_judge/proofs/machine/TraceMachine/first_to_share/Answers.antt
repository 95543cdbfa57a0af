use Rattle.std.proofs.Common.{◌∙◌, ap, sym}
use Rattle.iom_machine.specs.Refusals.{is_attached}
use Rattle.iom_judge.proofs.machine.TraceMachine.first_to_share.Goals as goal

pub returns : goal.returns
returns c = λ h past. (
  c.first_of-first.ensures,
  c.may_share.ensures h past c.if-not-may_share.false,
  ap is_attached (sym (c.attachment.ensures h)) ∙ sym c.is_attached.ensures ∙ c.if-not-is_attached.false,
)

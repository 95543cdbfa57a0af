use Rattle.std.proofs.Common.{◌∙◌, ap, rules, sym}
use Rattle.iom_machine.specs.Refusals.{mode_at}
use Rattle.iom_judge.proofs.machine.TraceMachine.may_share.Goals as goal

pub returns : goal.returns
returns c = λ h past same.
    let settled = (c.device_may_give_back.ensures h past).0 c.if-not-device_may_give_back.false in record {
      unlimited = c.if-kept.false;
      another = c.if-device-first.false;
      first_itself = sym (rw c.in_default.is at c.first_with.ensures);
      attached = settled.0;
      mode = ap mode_at (sym (c.attachment.ensures h)) ∙ sym c.mode.ensures ∙ search (rules, c.ne.ensures, c.if-ne.false) ∙ c.mode-2.ensures ∙ ap mode_at (c.attachment-2.ensures h);
      same = (c.hold_the_same.ensures h past).0 same;
      settled = settled.1;
    }

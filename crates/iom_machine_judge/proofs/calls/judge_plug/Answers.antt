use Rattle.std.proofs.Common.{◌∙◌, refl, sym}
use Rattle.iom_machine.specs.Refusals.{plug_reasons, MayRefusePlug}
use Rattle.iom_machine.proofs.CallLemmas.{none_if_not_some}
use Rattle.iom_kept_state.specs.States.{state_of}
use Rattle.iom_machine_judge.proofs.LeftLemmas.{refused_by, some_applies}
use Rattle.iom_machine_judge.proofs.NextLemmas.{plugged_as}
use Rattle.iom_machine_judge.proofs.calls.judge_plug.Goals as goal

pub returns-then-is_some : goal.returns-then-is_some
returns-then-is_some c = rw c.in-Done.is (
  refl,
  λ h past after step. some_applies c.plug_refusal-first.result (plug_reasons (state_of c.args.kept.now h) c.args.id c.args.what) c.is_some.result
      (c.plug_refusal-first.ensures h past) c.is_some.ensures c.if-is_some.true step.0,
)

pub returns-in_ok-push-in-Done : goal.returns-in_ok-push-in-Done
returns-in_ok-push-in-Done c =
    let devices = rw (c.kind.ensures, c.is_some-in-Done.ensures, c.disk-in-Done.ensures, c.new.ensures) at c.in_ok-push-in-Done.ensures.ok in
    let disks = rw (c.disk.ensures, c.as_slice.ensures) at c.in_ok-left-in-Done.ensures in
    rw c.in-Done.is (λ h past. (
      h,
      past,
      plugged_as c.args.kept.now c.args.id c.args.what h _ _ (sym (c.plug_refusal-first.ensures h past) ∙ none_if_not_some _ (sym c.is_some.ensures ∙ c.if-is_some.false))
          devices disks,
    ))

pub returns-in-Refused : goal.returns-in-Refused
returns-in-Refused c = rw c.in-Refused.is
    (refused_by c.plug_refusal-first.result (λ before. plug_reasons before c.args.id c.args.what) c.may_refuse_plug.result c.refuses.result (λ before why. MayRefusePlug why) c.in-Refused.why c.args.kept.now
    c.plug_refusal-first.ensures (λ h past. c.may_refuse_plug.ensures) c.refuses.ensures)

use Rattle.std.proofs.Common.{◌≡◌, ◌↔◌, ◌∙◌, IsTrue, false, refl, sym}
use Rattle.iom_ledger.specs.History.{History}
use Rattle.iom_base.specs.Refusals.{NoneApplies}
use Rattle.iom_machine.specs.declared.outcome.Outcome.TheVariants.{Free}
use Rattle.iom_machine.specs.declared.state.State.{State}
use Rattle.iom_machine.specs.Frames.{IsFree}
use Rattle.iom_machine.specs.Machine.{TellsFree}
use Rattle.iom_machine.specs.Refusals.{NeverElse, frame_reasons}
use Rattle.iom_machine.proofs.CallLemmas.{none_if_not_some}
use Rattle.iom_kept_state.specs.States.{state_of}
use Rattle.iom_machine_judge.proofs.LeftLemmas.{stays_by, refused_by, some_applies, decides_alike, never_so, reply_is}
use Rattle.iom_machine_judge.proofs.processor.judge_free.Goals as goal

pub returns-then-is_some : goal.returns-then-is_some
returns-then-is_some c = rw c.in-Free.is (
  refl,
  λ h past after step. some_applies c.frame_refusal-first.result (frame_reasons (state_of c.args.kept.now h) c.args.frame) c.is_some.result
      (c.frame_refusal-first.ensures h) c.is_some.ensures c.if-is_some.true step.0,
)

pub returns-in-Refused : goal.returns-in-Refused
returns-in-Refused c = rw c.in-Refused.is
    (refused_by c.frame_refusal-first.result (λ before. frame_reasons before c.args.frame) false c.refuses.result (λ before why. NeverElse why) c.in-Refused.why c.args.kept.now
    (λ h past. c.frame_refusal-first.ensures h) (λ h past. never_so c.in-Refused.why) c.refuses.ensures)

pub returns-else-is_some : goal.returns-else-is_some
returns-else-is_some c =
    let none : (h : History) → NoneApplies (frame_reasons (state_of c.args.kept.now h) c.args.frame) =
    λ h. sym (c.frame_refusal-first.ensures h) ∙ none_if_not_some _ (sym c.is_some.ensures ∙ c.if-is_some.false) in
    rw c.in-Free.is
    (decides_alike c.are_same.result c.args.kept.now c.args.kept.now (λ (before after : State). (IsTrue c.in-Free.reply ↔ IsFree before c.args.frame) × (after ≡ before))
    (λ (before after : State). TellsFree before c.args.frame (Free c.in-Free.reply) after)
    (λ h after. ((λ step. (none h, step.0, step.1)), (λ step. (step.1, step.2))))
    (stays_by c.are_same.result (λ (before : State). IsTrue c.in-Free.reply ↔ IsFree before c.args.frame) c.args.kept.now
    (λ h past. reply_is c.in-Free.reply c.is_free.result c.are_same.result (IsFree (state_of c.args.kept.now h) c.args.frame) c.are_same.ensures (c.is_free.ensures h past))))

use Rattle.std.proofs.Common.{◌∙◌, false, refl, sym}
use Rattle.iom_machine.specs.declared.outcome.Outcome.TheVariants.{Done}
use Rattle.iom_machine.specs.Machine.{Revives}
use Rattle.iom_machine.specs.Refusals.{revive_reasons, NeverElse}
use Rattle.iom_machine.proofs.CallLemmas.{none_if_not_some, revived_as}
use Rattle.iom_machine.proofs.HeadlineLemmas.{element_at}
use Rattle.iom_kept_state.specs.Frames.{frames_in}
use Rattle.iom_kept_state.specs.States.{state_of}
use Rattle.iom_machine_judge.proofs.LeftLemmas.{refused_by, never_so, some_applies}
use Rattle.iom_machine_judge.proofs.NextLemmas.{given_as}
use Rattle.iom_machine_judge.proofs.calls.judge_revive.Goals as goal

pub returns-then-is_some : goal.returns-then-is_some
returns-then-is_some c = rw c.in-Done.is (
  refl,
  λ h past after step. some_applies c.revive_refusal-first.result (revive_reasons (state_of c.args.kept.now h) c.args.id) c.is_some.result
      (c.revive_refusal-first.ensures h past) c.is_some.ensures c.if-is_some.true step.0,
)

pub returns-in-Some : goal.returns-in-Some
returns-in-Some c =
    let place = rw c.as_slice.ensures at c.in-Some.ensures in
    let found = element_at c.args.kept.now.devices c.in-Some.place place.0 in
    rw c.in-Done.is (λ h past. (
      h,
      past,
      given_as c.args.kept.now (frames_in c.args.kept.now.frames) h c.args.kept.now.grants.given c.args.kept.now.grants.given _
          (λ after. Revives (state_of c.args.kept.now h) c.args.id Done after) refl
          (revived_as (state_of c.args.kept.now h) c.args.id c.in-Some.place found.0 _
          (sym (c.revive_refusal-first.ensures h past) ∙ none_if_not_some _ (sym c.is_some.ensures ∙ c.if-is_some.false))
          place found.1 (c.attach_again.ensures found.0 found.1)),
    ))

pub returns-in-Refused : goal.returns-in-Refused
returns-in-Refused c = rw c.in-Refused.is
    (refused_by c.revive_refusal-first.result (λ before. revive_reasons before c.args.id) false c.refuses.result (λ before why. NeverElse why) c.in-Refused.why c.args.kept.now
    c.revive_refusal-first.ensures (λ h past. never_so c.in-Refused.why) c.refuses.ensures)

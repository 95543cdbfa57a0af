use Rattle.std.proofs.Common.{◌∙◌, List, refl, sym, ap}
use Rattle.std.proofs.lemmas.Bool.{false≢true}
use Rattle.iom_base.specs.declared.owner.Owner.TheVariants.{OneDevice}
use Rattle.iom_machine.specs.declared.outcome.Outcome.TheVariants.{Done}
use Rattle.iom_machine.specs.declared.state.Frame.{Frame}
use Rattle.iom_machine.specs.Frames.{reserved_for}
use Rattle.iom_machine.specs.Machine.{Attaches}
use Rattle.iom_machine.specs.Refusals.{attach_reasons, MayRefuseAttach}
use Rattle.iom_machine.proofs.CallLemmas.{none_if_not_some, attached_as}
use Rattle.iom_machine.proofs.HeadlineLemmas.{element_at}
use Rattle.iom_kept_state.specs.States.{state_of}
use Rattle.iom_machine_judge.proofs.LeftLemmas.{refused_by, some_applies}
use Rattle.iom_machine_judge.proofs.NextLemmas.{given_as}
use Rattle.iom_machine_judge.proofs.calls.judge_attach.Goals as goal
use Rattle.iom_machine_judge.proofs.calls.judge_attach.Goals.{then-is_some-via-then-is_some, then-is_some-via-else-is_some+then-not-are_both_free}

pub returns-then-is_some : goal.returns-then-is_some
returns-then-is_some c = rw c.in-Done.is (
  refl,
  λ h past after step. elim c.then-is_some.branch [
    | then-is_some-via-then-is_some w ↦ some_applies c.attach_refusal-first.result (attach_reasons (state_of c.args.kept.now h) c.args.id c.args.ats) c.is_some.result (c.attach_refusal-first.ensures h past) c.is_some.ensures w.if-is_some.true step.0
    | then-is_some-via-else-is_some+then-not-are_both_free w ↦ false≢true (sym w.if-not-are_both_free.true ∙ (w.are_both_free.ensures h past).1 step.1)
  ],
)

pub returns-in_ok-reserve-in-Done-2 : goal.returns-in_ok-reserve-in-Done-2
returns-in_ok-reserve-in-Done-2 c =
    let place = rw c.as_slice.ensures at c.in-Some.ensures in
    let found = element_at c.args.kept.now.devices c.in-Some.place place.0 in
    rw c.in-Done.is (λ h past. (
      h,
      past,
      given_as c.args.kept.now _ h c.args.kept.now.grants.given c.args.kept.now.grants.given _
          (λ after. Attaches c.args.pages.now c.args.taken.now (state_of c.args.kept.now h) c.args.id c.args.mode c.args.ats Done after) refl
          (attached_as c.args.pages.now c.args.taken.now (state_of c.args.kept.now h) c.args.id c.args.mode c.args.ats c.in-Some.place found.0 _ _
          (sym (c.attach_refusal-first.ensures h past) ∙ none_if_not_some _ (sym c.is_some.ensures ∙ c.if-is_some.false))
          ((c.are_both_free.ensures h past).0 c.if-not-are_both_free.false)
          place found.1 (c.set_attachment.ensures found.0 found.1)
          (c.in_ok-reserve-in-Done-2.ensures ∙ ap (λ (frames : List Frame). reserved_for (OneDevice c.args.id) c.args.taken.now frames) c.in_ok-reserve-in-Done.ensures)),
    ))

pub returns-in-Refused : goal.returns-in-Refused
returns-in-Refused c = rw c.in-Refused.is
    (refused_by c.attach_refusal-first.result (λ before. attach_reasons before c.args.id c.args.ats) c.may_refuse_attach.result c.refuses.result (λ before why. MayRefuseAttach before c.args.mode why) c.in-Refused.why c.args.kept.now
    c.attach_refusal-first.ensures c.may_refuse_attach.ensures c.refuses.ensures)

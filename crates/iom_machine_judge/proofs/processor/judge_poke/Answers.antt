use Rattle.std.proofs.Common.{◌∙◌, ◌/◌, List, length, false, refl, sym, ap}
use Rattle.std.proofs.lemmas.Bool.{false≢true}
use Rattle.iom_base.specs.Spans.{FitsInPage}
use Rattle.iom_base.specs.Refusals.{IsRefusedBy}
use Rattle.iom_machine.specs.declared.state.Frame.{Frame}
use Rattle.iom_machine.specs.declared.state.State.{State}
use Rattle.iom_machine.specs.Refusals.{NeverElse, poke_reasons}
use Rattle.iom_machine.proofs.CallLemmas.{none_if_not_some}
use Rattle.iom_kept_state.specs.States.{state_of}
use Rattle.iom_machine_judge.proofs.LeftLemmas.{refused_by, some_applies, with_fact, never_so}
use Rattle.iom_machine_judge.proofs.NextLemmas.{next_state}
use Rattle.iom_machine_judge.proofs.processor.judge_poke.Goals as goal
use Rattle.iom_machine_judge.proofs.processor.judge_poke.Goals.{then-not-fits-via-then-not-fits, then-not-fits-via-else-not-fits+then-is_some}

pub returns-then-not-fits : goal.returns-then-not-fits
returns-then-not-fits c = rw c.in-Done.is (
  refl,
  λ h past after step. elim c.then-not-fits.branch [
    | then-not-fits-via-then-not-fits w ↦ false≢true (sym w.if-not-fits.true ∙ c.is_within_page-fits.ensures.1 step.0)
    | then-not-fits-via-else-not-fits+then-is_some w ↦ some_applies c.poke_refusal-first.result (poke_reasons (state_of c.args.kept.now h) (c.args.address / 4096)) w.is_some.result (c.poke_refusal-first.ensures h) w.is_some.ensures w.if-is_some.true step.1
  ],
)

pub returns-then-fits : goal.returns-then-fits
returns-then-fits c = rw c.in-Refused.is
    (with_fact (FitsInPage c.args.address (length c.args.bytes.now)) (λ (before : State). IsRefusedBy (poke_reasons before (c.args.address / 4096)) NeverElse c.in-Refused.why) c.refuses.result c.args.kept.now
    (c.is_within_page-fits.ensures.0 c.if-fits.true)
    (refused_by c.poke_refusal-first.result (λ before. poke_reasons before (c.args.address / 4096)) false c.refuses.result (λ before why. NeverElse why) c.in-Refused.why c.args.kept.now
    (λ h past. c.poke_refusal-first.ensures h) (λ h past. never_so c.in-Refused.why) c.refuses.ensures))

pub returns-in_ok-store-in-Done : goal.returns-in_ok-store-in-Done
returns-in_ok-store-in-Done c =
    let fits = c.is_within_page-fits.ensures.0 c.if-not-fits.false in
    rw c.in-Done.is (λ h past.
    let none = sym (c.poke_refusal-first.ensures h) ∙ none_if_not_some _ (sym c.is_some.ensures ∙ c.if-is_some.false) in
    let is = ap (λ (frames : List Frame). next_state c.args.kept.now frames h c.args.kept.now.grants.given c.args.kept.now.devices) c.in_ok-store-in-Done.ensures in
    (h, past, λ after. ((λ same. (fits, none, same ∙ is)), (λ step. step.2 ∙ sym is))))

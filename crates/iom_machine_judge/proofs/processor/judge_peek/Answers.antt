use Rattle.std.proofs.Common.{◌≡◌, ◌∙◌, ◌/◌, false, refl, sym}
use Rattle.std.proofs.lemmas.Bool.{false≢true}
use Rattle.iom_base.specs.Spans.{FitsInPage}
use Rattle.iom_ledger.specs.History.{History}
use Rattle.iom_base.specs.Refusals.{NoneApplies, IsRefusedBy}
use Rattle.iom_machine.specs.declared.outcome.Outcome.TheVariants.{Bytes}
use Rattle.iom_machine.specs.declared.state.State.{State}
use Rattle.iom_machine.specs.Machine.{Peeks, ShowsBytes}
use Rattle.iom_machine.specs.Refusals.{NeverElse, frame_reasons}
use Rattle.iom_machine.proofs.CallLemmas.{none_if_not_some}
use Rattle.iom_kept_state.specs.States.{state_of}
use Rattle.iom_machine_judge.proofs.LeftLemmas.{stays_by, refused_by, some_applies, decides_alike, with_fact, never_so}
use Rattle.iom_machine_judge.proofs.processor.judge_peek.Goals as goal
use Rattle.iom_machine_judge.proofs.processor.judge_peek.Goals.{then-not-fits-via-then-not-fits, then-not-fits-via-else-not-fits+then-is_some}

pub returns-then-not-fits : goal.returns-then-not-fits
returns-then-not-fits c = rw c.in-Bytes.is (
  refl,
  λ h past after step. elim c.then-not-fits.branch [
    | then-not-fits-via-then-not-fits w ↦ false≢true (sym w.if-not-fits.true ∙ c.is_within_page-fits.ensures.1 step.0)
    | then-not-fits-via-else-not-fits+then-is_some w ↦ some_applies c.frame_refusal-first.result (frame_reasons (state_of c.args.kept.now h) (c.args.address / 4096)) w.is_some.result (c.frame_refusal-first.ensures h) w.is_some.ensures w.if-is_some.true step.1
  ],
)

pub returns-then-fits : goal.returns-then-fits
returns-then-fits c = rw c.in-Refused.is
    (with_fact (FitsInPage c.args.address c.args.len) (λ (before : State). IsRefusedBy (frame_reasons before (c.args.address / 4096)) NeverElse c.in-Refused.why) c.refuses.result c.args.kept.now
    (c.is_within_page-fits.ensures.0 c.if-fits.true)
    (refused_by c.frame_refusal-first.result (λ before. frame_reasons before (c.args.address / 4096)) false c.refuses.result (λ before why. NeverElse why) c.in-Refused.why c.args.kept.now
    (λ h past. c.frame_refusal-first.ensures h) (λ h past. never_so c.in-Refused.why) c.refuses.ensures))

pub returns-else-is_some : goal.returns-else-is_some
returns-else-is_some c =
    let fits = c.is_within_page-fits.ensures.0 c.if-not-fits.false in
    let none : (h : History) → NoneApplies (frame_reasons (state_of c.args.kept.now h) (c.args.address / 4096)) =
    λ h. sym (c.frame_refusal-first.ensures h) ∙ none_if_not_some _ (sym c.is_some.ensures ∙ c.if-is_some.false) in
    rw c.in-Bytes.is
    (decides_alike c.shows.result c.args.kept.now c.args.kept.now (λ (before after : State). ShowsBytes before c.args.address c.args.len c.in-Bytes.bytes.items × (after ≡ before))
    (λ (before after : State). Peeks before c.args.address c.args.len (Bytes c.in-Bytes.bytes) after)
    (λ h after. ((λ step. (fits, none h, step.0, step.1)), (λ step. (step.2, step.3))))
    (stays_by c.shows.result (λ (before : State). ShowsBytes before c.args.address c.args.len c.in-Bytes.bytes.items) c.args.kept.now (λ h past. rw c.as_slice.ensures.value at (c.shows.ensures h))))

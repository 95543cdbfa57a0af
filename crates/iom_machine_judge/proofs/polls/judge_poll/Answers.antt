use Rattle.std.proofs.Common.{◌∙◌, All, refl, sym, subst}
use Rattle.std.proofs.lemmas.Bool.{false≢true}
use Rattle.iom_kept_state.specs.declared.grants.KeptGrants.{KeptGrants}
use Rattle.iom_kept_state.specs.Grants.{IsPastOf}
use Rattle.iom_machine.specs.Returning.{MayGiveBack, with_returned}
use Rattle.iom_machine_judge.proofs.DecidedLemmas.{comes, never_comes}
use Rattle.iom_machine_judge.proofs.NextLemmas.{history_once, polled_as, not_polled_as}
use Rattle.iom_machine_judge.proofs.polls.judge_poll.Goals as goal

pub returns-then-not-may_confirm : goal.returns-then-not-may_confirm
returns-then-not-may_confirm c = rw c.in-Confirmed.is
    (refl, λ h past after step. false≢true (sym c.if-not-may_confirm.true ∙ (c.may_confirm.ensures.may h past).1 (step.0)))

pub returns-then-not-all_may : goal.returns-then-not-all_may
returns-then-not-all_may c =
    let decides = rw c.as_slice.ensures at c.all_may.ensures in
    rw c.in-Confirmed.is (
      refl,
      λ h past after step.
          not_polled_as c.args.choice.now.returned c.args.kept.now c.in-Confirmed.first c.in-Confirmed.last c.in-Confirmed.timed_out h after
          (λ all. false≢true (sym c.if-not-all_may.true ∙ (decides h past).1 all)) step,
    )

pub returns-in_ok-take_leave-in-Confirmed : goal.returns-in_ok-take_leave-in-Confirmed
returns-in_ok-take_leave-in-Confirmed c =
    let decides = rw c.as_slice.ensures at c.all_may.ensures in
    rw c.in-Confirmed.is (λ h past.
    let now = history_once c.in-Confirmed.first c.in-Confirmed.last h in
    let confirmed = c.in_ok-confirm-in-Confirmed.ensures.past h past in (
      now,
      subst (λ (g : KeptGrants). IsPastOf g now) (sym c.in_ok-take_leave-in-Confirmed.ensures.grants) confirmed,
      polled_as c.args.choice.now.returned c.args.kept.now _ c.in-Confirmed.first c.in-Confirmed.last c.in-Confirmed.timed_out h _
          ((c.may_confirm.ensures.may h past).0 c.if-not-may_confirm.false) c.in_ok-confirm-in-Confirmed.ensures.tickets.0
          ((decides h past).0 c.if-not-all_may.false)
          (c.in_ok-take_leave-in-Confirmed.ensures.left now confirmed),
    ))

pub returns-then-not-may_give_back_all : goal.returns-then-not-may_give_back_all
returns-then-not-may_give_back_all c = rw c.in-NoneConfirmed.is
    (never_comes c.args.kept.now (λ before. All (MayGiveBack before) c.args.choice.now.returned) (with_returned c.args.choice.now.returned)
    (λ h past all. false≢true (sym c.if-not-may_give_back_all.true ∙ (rw c.as_slice-returned.ensures at (c.may_give_back_all.ensures h past)).1 all)))

pub returns-else-not-may_give_back_all : goal.returns-else-not-may_give_back_all
returns-else-not-may_give_back_all c = rw c.in-NoneConfirmed.is
    (comes c.args.kept.now c.give_back.new.self (λ before. All (MayGiveBack before) c.args.choice.now.returned) (with_returned c.args.choice.now.returned) c.give_back.ensures.grants
    (λ h past. (rw c.as_slice-returned.ensures at (c.may_give_back_all.ensures h past)).0 c.if-not-may_give_back_all.false)
    (λ h past. rw c.as_slice-returned.ensures at (c.give_back.ensures.returned h)))

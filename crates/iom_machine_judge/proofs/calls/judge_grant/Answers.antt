use Rattle.std.proofs.Common.{◌∷◌, ◌∙◌, refl, sym}
use Rattle.std.proofs.lemmas.Bool.{false≢true}
use Rattle.iom_base.specs.GrantRights.{rights_of}
use Rattle.iom_ledger.specs.declared.entry.HistoryEntry.TheVariants.{Granted}
use Rattle.iom_machine.specs.declared.outcome.Outcome.TheVariants.{Done}
use Rattle.iom_machine.specs.Machine.{Grants}
use Rattle.iom_machine.specs.Refusals.{grant_reasons, MayRefuseGrant}
use Rattle.iom_machine.proofs.CallLemmas.{none_if_not_some, granted_as}
use Rattle.iom_kept_state.specs.States.{state_of}
use Rattle.iom_machine_judge.proofs.LeftLemmas.{refused_by, some_applies}
use Rattle.iom_machine_judge.proofs.NextLemmas.{given_as}
use Rattle.iom_machine_judge.proofs.calls.judge_grant.Goals as goal
use Rattle.iom_machine_judge.proofs.calls.judge_grant.Goals.{then-is_some-via-then-is_some, then-is_some-via-else-is_some+then-not-are_free_besides}

pub returns-then-is_some : goal.returns-then-is_some
returns-then-is_some c = rw c.in-Done.is (
  refl,
  λ h past after step. elim c.then-is_some.branch [
    | then-is_some-via-then-is_some w ↦ some_applies c.grant_refusal-first.result (grant_reasons (state_of c.args.kept.now h) c.args.id c.args.page c.args.frame) c.is_some.result (c.grant_refusal-first.ensures.first h past) c.is_some.ensures w.if-is_some.true step.0
    | then-is_some-via-else-is_some+then-not-are_free_besides w ↦ false≢true (sym w.if-not-are_free_besides.true ∙ (w.are_free_besides.ensures h past).1 step.1)
  ],
)

pub returns-in_ok-reserve-in-Done : goal.returns-in_ok-reserve-in-Done
returns-in_ok-reserve-in-Done c = rw c.in-Done.is (λ h past. (
  Granted c.args.id c.args.page c.args.frame (rights_of c.args.rights) ∷ h,
  rw c.rights.ensures.value at (c.in_ok-grant-in-Done.ensures.past h past),
  given_as c.args.kept.now _ (Granted c.args.id c.args.page c.args.frame (rights_of c.args.rights) ∷ h) c.args.kept.now.grants.given _ c.args.kept.now.devices
      (λ after. Grants c.args.taken.now (state_of c.args.kept.now h) c.args.id c.args.page c.args.frame c.args.rights Done after)
      c.in_ok-grant-in-Done.ensures.tickets.0
      (granted_as c.args.taken.now (state_of c.args.kept.now h) c.args.id c.args.page c.args.frame c.args.rights _ _
      (sym (c.grant_refusal-first.ensures.first h past) ∙ none_if_not_some _ (sym c.is_some.ensures ∙ c.if-is_some.false))
      ((c.are_free_besides.ensures h past).0 c.if-not-are_free_besides.false)
      refl c.in_ok-reserve-in-Done.ensures),
))

pub returns-in-Refused : goal.returns-in-Refused
returns-in-Refused c = rw c.in-Refused.is
    (refused_by c.grant_refusal-first.result (λ before. grant_reasons before c.args.id c.args.page c.args.frame) c.may_refuse_grant.result c.refuses.result (λ before why. MayRefuseGrant before c.args.id c.args.frame why) c.in-Refused.why c.args.kept.now
    c.grant_refusal-first.ensures.first c.may_refuse_grant.ensures c.refuses.ensures)

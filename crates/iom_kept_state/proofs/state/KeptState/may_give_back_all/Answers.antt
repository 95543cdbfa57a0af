use Rattle.std.proofs.Common.{◌≡◌, ◌∙◌, All, take, refl, sym, subst, arith}
use Rattle.std.proofs.lemmas.Bool.{false≢true}
use Rattle.std.proofs.lemmas.Grind.{common_steps}
use Rattle.std.proofs.lemmas.List.Elements.{All-more}
use Rattle.iom_machine.specs.Returning.{MayGiveBack}
use Rattle.iom_kept_state.specs.States.{state_of}
use Rattle.iom_kept_state.proofs.state.KeptState.may_give_back_all.Goals as goal

pub loop-number-preserved : goal.loop-number-preserved
loop-number-preserved c h past =
    All-more (MayGiveBack (state_of c.args.self.now h)) c.args.returned.now c.loop-number.number-index 0 c.loop-number-test.true (c.loop-number.invariant h past)
    ((c.may_give_back.ensures h past).0 c.if-not-may_give_back.false)

pub returns : goal.returns
returns c h past =
    let whole : take c.loop-number.number-index c.args.returned.now ≡ c.args.returned.now = grind (arith, common_steps) in
    let all = subst (λ l. All (MayGiveBack (state_of c.args.self.now h)) l) whole (c.loop-number.invariant h past) in
    ((λ yes. all), (λ each. refl))

pub returns-then-not-may_give_back : goal.returns-then-not-may_give_back
returns-then-not-may_give_back c h past = (
  (λ yes. absurd (false≢true yes)),
  (λ all. absurd (false≢true (sym c.if-not-may_give_back.true ∙ (c.may_give_back.ensures h past).1
      (all c.loop-number.number-index 0 c.loop-number-test.true)))),
)

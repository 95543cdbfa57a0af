use Rattle.std.proofs.Common.{◌≡◌, ◌∙◌, All, take, refl, sym, subst, arith}
use Rattle.std.proofs.lemmas.Bool.{false≢true}
use Rattle.std.proofs.lemmas.Grind.{common_steps}
use Rattle.std.proofs.lemmas.List.Elements.{All-more}
use Rattle.iom_machine.specs.Frames.{IsFreeBesides}
use Rattle.iom_kept_state.specs.States.{state_of}
use Rattle.iom_kept_state.proofs.state.KeptState.are_free_besides.Goals as goal

pub loop-number-preserved : goal.loop-number-preserved
loop-number-preserved c h past =
    All-more (IsFreeBesides (state_of c.args.self.now h) c.args.named) c.args.taken.now c.loop-number.number-index 0 c.loop-number-test.true (c.loop-number.invariant h past)
    ((c.is_free_besides.ensures h past).0 c.if-not-is_free_besides.false)

pub returns : goal.returns
returns c h past =
    let whole : take c.loop-number.number-index c.args.taken.now ≡ c.args.taken.now = grind (arith, common_steps) in
    let all = subst (λ l. All (IsFreeBesides (state_of c.args.self.now h) c.args.named) l) whole (c.loop-number.invariant h past) in
    ((λ yes. all), (λ each. refl))

pub returns-then-not-is_free_besides : goal.returns-then-not-is_free_besides
returns-then-not-is_free_besides c h past = (
  (λ yes. absurd (false≢true yes)),
  (λ all. absurd (false≢true (sym c.if-not-is_free_besides.true ∙ (c.is_free_besides.ensures h past).1
      (all c.loop-number.number-index 0 c.loop-number-test.true)))),
)

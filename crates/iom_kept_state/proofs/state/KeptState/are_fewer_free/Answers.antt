use Rattle.std.proofs.Common.{◌≡◌, ◌∙◌, ◌<◌, ℕ, length, sym, subst, arith}
use Rattle.std.proofs.lemmas.Bool.{false≢true}
use Rattle.std.proofs.lemmas.Bool.Decides.{nat_tests}
use Rattle.iom_machine.specs.Frames.{IsFreeBesides}
use Rattle.iom_machine.specs.Judging.{CountsAll}
use Rattle.iom_machine.proofs.FrameLemmas.{CountsAll-none, CountsAll-more, CountsAll-same, fewer_free}
use Rattle.iom_kept_state.specs.Frames.{frames_in}
use Rattle.iom_kept_state.specs.States.{state_of}
use Rattle.iom_kept_state.proofs.FreeLemmas.{enough_found}
use Rattle.iom_kept_state.proofs.state.KeptState.are_fewer_free.Goals as goal
use Rattle.iom_kept_state.proofs.state.KeptState.are_fewer_free.Goals.{then-is_free_besides, else-is_free_besides}

pub loop-number-init : goal.loop-number-init
loop-number-init c = record { counted = λ h past. CountsAll-none (IsFreeBesides (state_of c.args.self.now h) c.args.named); few = omega arith }

pub loop-number-preserved : goal.loop-number-preserved
loop-number-preserved c = elim c.if-is_free_besides.branch [
  | then-is_free_besides w ↦
      rw w.found-is (record {
        counted = λ h past. CountsAll-more (IsFreeBesides (state_of c.args.self.now h) c.args.named) c.loop-number.found c.loop-number.number (c.loop-number.invariant.counted h past)
            ((c.is_free_besides.ensures h past).0 w.if-is_free_besides.true);
        few = omega (arith, c.loop-number.invariant.few, c.if-found-count.false);
      })
  | else-is_free_besides w ↦
      rw w.found-is (record {
        counted = λ h past. CountsAll-same (IsFreeBesides (state_of c.args.self.now h) c.args.named) c.loop-number.found c.loop-number.number (c.loop-number.invariant.counted h past)
            (λ free. false≢true (sym w.if-is_free_besides.false ∙ (c.is_free_besides.ensures h past).1 free));
        few = c.loop-number.invariant.few;
      })
]

pub returns-then-found-count : goal.returns-then-found-count
returns-then-found-count c h past = (
  (λ yes. absurd (false≢true yes)),
  (λ fewer. absurd (enough_found (IsFreeBesides (state_of c.args.self.now h) c.args.named) c.args.count c.loop-number.number
      (subst (λ (n : ℕ). CountsAll n c.loop-number.number (IsFreeBesides (state_of c.args.self.now h) c.args.named)) c.if-found-count.true (c.loop-number.invariant.counted h past)) fewer)),
)

pub returns : goal.returns
returns c h past =
    let frames = c.count-number-end.ensures.count in
    let end : c.loop-number.number ≡ length (frames_in c.args.self.now.frames) = omega (arith, frames) in
    let counted = subst (λ (n : ℕ). CountsAll c.loop-number.found n (IsFreeBesides (state_of c.args.self.now h) c.args.named)) end (c.loop-number.invariant.counted h past) in
    let both = fewer_free (state_of c.args.self.now h) c.args.named c.loop-number.found c.args.count counted in (
      (λ yes. both.0 (grind (arith, nat_tests, yes))),
      (λ fewer. let short : c.loop-number.found < c.args.count = both.1 fewer in grind (arith, nat_tests)),
    )

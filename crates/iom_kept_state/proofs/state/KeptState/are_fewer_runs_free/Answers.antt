use Rattle.std.proofs.Common.{◌≡◌, ◌∙◌, ◌<◌, ◌/◌, ℕ, length, sym, subst, arith}
use Rattle.std.proofs.lemmas.Bool.{false≢true}
use Rattle.std.proofs.lemmas.Bool.Decides.{nat_tests}
use Rattle.iom_machine.specs.Frames.{IsFreeRun}
use Rattle.iom_machine.specs.Judging.{CountsAll}
use Rattle.iom_machine.proofs.FrameLemmas.{CountsAll-none, CountsAll-more, CountsAll-same, fewer_runs_free}
use Rattle.iom_kept_state.specs.Frames.{frames_in}
use Rattle.iom_kept_state.specs.States.{state_of}
use Rattle.iom_kept_state.proofs.FreeLemmas.{enough_found}
use Rattle.iom_kept_state.proofs.state.KeptState.are_fewer_runs_free.Goals as goal
use Rattle.iom_kept_state.proofs.state.KeptState.are_fewer_runs_free.Goals.{then-is_free_run, else-is_free_run}

pub loop-run-init : goal.loop-run-init
loop-run-init c = record { counted = λ h past. CountsAll-none (IsFreeRun (state_of c.args.self.now h)); few = omega arith }

pub loop-run-preserved : goal.loop-run-preserved
loop-run-preserved c = elim c.if-is_free_run.branch [
  | then-is_free_run w ↦
      rw w.found-is (record {
        counted = λ h past. CountsAll-more (IsFreeRun (state_of c.args.self.now h)) c.loop-run.found c.loop-run.run (c.loop-run.invariant.counted h past)
            ((c.is_free_run.ensures h past).0 w.if-is_free_run.true);
        few = omega (arith, c.loop-run.invariant.few, c.if-found-count.false);
      })
  | else-is_free_run w ↦
      rw w.found-is (record {
        counted = λ h past. CountsAll-same (IsFreeRun (state_of c.args.self.now h)) c.loop-run.found c.loop-run.run (c.loop-run.invariant.counted h past)
            (λ free. false≢true (sym w.if-is_free_run.false ∙ (c.is_free_run.ensures h past).1 free));
        few = c.loop-run.invariant.few;
      })
]

pub returns-then-found-count : goal.returns-then-found-count
returns-then-found-count c h past = (
  (λ yes. absurd (false≢true yes)),
  (λ fewer. absurd (enough_found (IsFreeRun (state_of c.args.self.now h)) c.args.count c.loop-run.run
      (subst (λ (n : ℕ). CountsAll n c.loop-run.run (IsFreeRun (state_of c.args.self.now h))) c.if-found-count.true (c.loop-run.invariant.counted h past)) fewer)),
)

pub returns : goal.returns
returns c h past =
    let frames = c.count-run-end.ensures.count in
    let end : c.loop-run.run ≡ length (frames_in c.args.self.now.frames) / 4 = omega (arith, frames) in
    let counted = subst (λ (n : ℕ). CountsAll c.loop-run.found n (IsFreeRun (state_of c.args.self.now h))) end (c.loop-run.invariant.counted h past) in
    let both = fewer_runs_free (state_of c.args.self.now h) c.loop-run.found c.args.count counted in (
      (λ yes. both.0 (grind (arith, nat_tests, yes))),
      (λ fewer. let short : c.loop-run.found < c.args.count = both.1 fewer in grind (arith, nat_tests)),
    )

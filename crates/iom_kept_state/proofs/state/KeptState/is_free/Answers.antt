use Rattle.std.proofs.Common.{◌<◌, ◌∙◌, length, sym, arith}
use Rattle.std.proofs.lemmas.Bool.{ltb-true, not-true}
use Rattle.iom_kept_state.specs.Frames.{frames_in}
use Rattle.iom_kept_state.proofs.state.KeptState.is_free.Goals as goal
use Rattle.iom_kept_state.proofs.state.KeptState.is_free.Goals.{then-number-count, else-number-count}

pub returns-then-not-is_reserved : goal.returns-then-not-is_reserved
returns-then-not-is_reserved c = λ h past. elim c.if-number-count.branch [
  | then-number-count w ↦
      let below : c.args.number < length (frames_in c.args.self.now.frames) = omega (arith, c.count.ensures.count, w.if-number-count.true) in (
        (λ yes. (below, sym w.is_reserved.ensures ∙ not-true _ (sym w.value-is ∙ c.if-not-is_reserved.true), (c.is_out_of_reach.ensures h past).0 yes)),
        (λ free. (c.is_out_of_reach.ensures h past).1 free.2),
      )
  | else-number-count w ↦
      let below = ltb-true c.args.number c.count.result (sym w.value-is ∙ c.if-not-is_reserved.true) in
      let beyond = w.if-number-count.false in
      absurd (omega (arith, below, beyond))
]

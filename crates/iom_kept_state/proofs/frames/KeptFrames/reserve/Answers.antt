use Rattle.std.proofs.Common.{◌∙◌, ◌+◌, ℕ, List, drop, ap, sym, arith}
use Rattle.std.proofs.lemmas.List.{at_drop_more, at_drop_all}
use Rattle.iom_machine.specs.declared.state.Frame.{Frame}
use Rattle.iom_machine.specs.Frames.{reserved_for}
use Rattle.iom_kept_state.specs.Frames.{frames_in}
use Rattle.iom_kept_state.proofs.frames.KeptFrames.reserve.Goals as goal

pub loop-number-preserved : goal.loop-number-preserved
loop-number-preserved c =
    ap (λ (frames : List Frame). reserved_for c.args.owner (drop (c.loop-number.number-index + 1) c.args.taken.now) frames) c.in_ok-reserve_one.ensures
    ∙ sym (at_drop_more (λ (numbers : List ℕ). reserved_for c.args.owner numbers (frames_in c.loop-number.self)) c.args.taken.now c.loop-number.number-index 0 c.loop-number-test.true)
    ∙ c.loop-number.invariant

pub returns : goal.returns
returns c =
    sym (at_drop_all (λ (numbers : List ℕ). reserved_for c.args.owner numbers (frames_in c.loop-number.self)) c.args.taken.now c.loop-number.number-index (omega arith))
    ∙ c.loop-number.invariant

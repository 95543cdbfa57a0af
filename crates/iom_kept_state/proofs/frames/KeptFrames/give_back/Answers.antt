use Rattle.std.proofs.Common.{◌∙◌, ◌+◌, ℕ, List, drop, ap, sym, arith}
use Rattle.std.proofs.lemmas.List.{at_drop_more, at_drop_all}
use Rattle.iom_machine.specs.declared.state.Frame.{Frame}
use Rattle.iom_machine.specs.PowerOn.{empty_frame}
use Rattle.iom_machine.specs.Returning.{frames_returned}
use Rattle.iom_kept_state.specs.Frames.{frames_in}
use Rattle.iom_kept_state.proofs.FrameLists.{changed}
use Rattle.iom_kept_state.proofs.frames.KeptFrames.give_back.Goals as goal

pub loop-number-preserved : goal.loop-number-preserved
loop-number-preserved c =
    ap (λ (frames : List Frame). frames_returned (drop (c.loop-number.number-index + 1) c.args.returned.now) frames)
    (changed c.loop-number.self c.forget.new.self _ (λ frame. empty_frame) c.forget.ensures)
    ∙ sym (at_drop_more (λ (numbers : List ℕ). frames_returned numbers (frames_in c.loop-number.self)) c.args.returned.now c.loop-number.number-index 0 c.loop-number-test.true)
    ∙ c.loop-number.invariant

pub returns : goal.returns
returns c =
    sym (at_drop_all (λ (numbers : List ℕ). frames_returned numbers (frames_in c.loop-number.self)) c.args.returned.now c.loop-number.number-index (omega arith))
    ∙ c.loop-number.invariant

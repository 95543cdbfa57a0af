-- What the frames are once the rest is given back too.
use Rattle.std.proofs.Common.{◌≡◌, drop}
use Rattle.iom_machine.specs.Returning.{frames_returned}
use Rattle.iom_kept_state.specs.Frames.{frames_in}
use Rattle.iom_kept_state.proofs.frames.KeptFrames.give_back.Given as goal

abbrev pub invariant-loop-number : goal.invariant-loop-number
invariant-loop-number l = frames_returned (drop l.number-index l.returned) (frames_in l.self) ≡ frames_returned l.returned (frames_in l.initial.self)

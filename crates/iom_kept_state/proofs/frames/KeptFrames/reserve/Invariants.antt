-- What the frames are once the rest is reserved too.
use Rattle.std.proofs.Common.{◌≡◌, drop}
use Rattle.iom_machine.specs.Frames.{reserved_for}
use Rattle.iom_kept_state.specs.Frames.{frames_in}
use Rattle.iom_kept_state.proofs.frames.KeptFrames.reserve.Given as goal

abbrev pub invariant-loop-number : goal.invariant-loop-number
invariant-loop-number l = reserved_for l.owner (drop l.number-index l.taken) (frames_in l.self) ≡ reserved_for l.owner l.taken (frames_in l.initial.self)

use Rattle.std.proofs.Common.{sym}
use Rattle.iom_kept_state.specs.Frames.{frame_of}
use Rattle.iom_kept_state.proofs.FrameLists.{length-frames_below}
use Rattle.iom_kept_state.proofs.frames.KeptFrames.count.Goals as goal

pub returns-clause-count : goal.returns-clause-count
returns-clause-count c = sym (length-frames_below (frame_of c.args.self.now) c.args.self.now.count)

use Rattle.std.proofs.Common.{None, Some, sym}
use Rattle.iom_kept_state.proofs.FrameLists.{owner_kept}
use Rattle.iom_kept_state.proofs.frames.KeptFrames.owner.Goals as goal

pub returns-in-None : goal.returns-in-None
returns-in-None c = sym (owner_kept c.args.self.now c.args.number None c.in-None.ensures)

pub returns-in-Some : goal.returns-in-Some
returns-in-Some c = sym (owner_kept c.args.self.now c.args.number (Some c.in-Some.frame.now) c.in-Some.ensures)

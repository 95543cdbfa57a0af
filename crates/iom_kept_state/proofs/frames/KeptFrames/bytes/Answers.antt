use Rattle.std.proofs.Common.{None, Some, sym, ◌∙◌}
use Rattle.iom_kept_state.proofs.FrameLists.{bytes_there, bytes_beyond}
use Rattle.iom_kept_state.proofs.frames.KeptFrames.bytes.Goals as goal

pub returns-then-number-self : goal.returns-then-number-self
returns-then-number-self c = sym (bytes_beyond c.args.self.now c.args.number c.if-number-self.true)

pub returns-in-None : goal.returns-in-None
returns-in-None c = c.zeros_lent.ensures ∙ sym (bytes_there c.args.self.now c.args.number None c.if-number-self.false c.in-None.ensures)

pub returns-in-Some : goal.returns-in-Some
returns-in-Some c = c.bytes.ensures ∙ sym (bytes_there c.args.self.now c.args.number (Some c.in-Some.frame.now) c.if-number-self.false c.in-Some.ensures)

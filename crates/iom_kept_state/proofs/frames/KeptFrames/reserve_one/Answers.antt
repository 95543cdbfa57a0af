use Rattle.std.proofs.Common.{Some}
use Rattle.iom_machine.specs.declared.state.Frame.{Frame}
use Rattle.iom_kept_state.proofs.FrameLists.{changed, unchanged_beyond}
use Rattle.iom_kept_state.proofs.frames.KeptFrames.reserve_one.Goals as goal

pub returns-in_ok-own : goal.returns-in_ok-own
returns-in_ok-own c = changed c.args.self.now c.own.new.self c.args.number (λ (frame : Frame). record frame { owner = Some c.args.owner }) c.in_ok-own.ensures

pub returns-else-number-self : goal.returns-else-number-self
returns-else-number-self c =
    unchanged_beyond c.args.self.now c.args.number (λ (frame : Frame). record frame { owner = Some c.args.owner }) c.if-number-self.false

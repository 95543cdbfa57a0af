use Rattle.iom_base.specs.Bytes.{with_bytes}
use Rattle.iom_machine.specs.declared.state.Frame.{Frame}
use Rattle.iom_kept_state.proofs.FrameLists.{changed, unchanged_beyond}
use Rattle.iom_kept_state.proofs.frames.KeptFrames.store.Goals as goal

pub returns-in_ok-store_in : goal.returns-in_ok-store_in
returns-in_ok-store_in c =
    changed c.args.self.now c.store_in.new.self c.args.number (λ (frame : Frame). record frame { bytes = with_bytes frame.bytes c.args.offset c.args.bytes.now }) c.in_ok-store_in.ensures

pub returns-else-number-self : goal.returns-else-number-self
returns-else-number-self c =
    unchanged_beyond c.args.self.now c.args.number (λ (frame : Frame). record frame { bytes = with_bytes frame.bytes c.args.offset c.args.bytes.now }) c.if-number-self.false

use Rattle.std.proofs.Common.{◌≡◌, ◌∙◌, false, List, map, ap, sym, subst}
use Rattle.std.specs.List.{list_any}
use Rattle.iom_machine.specs.declared.state.Device.{Device}
use Rattle.iom_machine.specs.declared.state.Frame.{Frame}
use Rattle.iom_machine.specs.Judging.{is_of_left_in}
use Rattle.iom_machine.specs.Leaving.{has_left, given_back}
use Rattle.iom_kept_state.specs.Frames.{frames_in}
use Rattle.iom_kept_state.specs.States.{state_of}
use Rattle.iom_kept_state.proofs.LeavingLemmas.{devices_stay, frames_stay, without_left}
use Rattle.iom_kept_state.proofs.state.KeptState.take_leave.Goals as goal

pub returns-then-not-has_any_left-clause-left : goal.returns-then-not-has_any_left-clause-left
returns-then-not-has_any_left-clause-left c h past =
    let none : list_any (λ (device : Device). has_left h device.attachment) c.args.self.now.devices ≡ false =
    ap (λ (l : List Device). list_any (λ (device : Device). has_left h device.attachment) l) (sym c.as_slice.ensures)
    ∙ sym (c.has_any_left.ensures h past) ∙ c.if-not-has_any_left.true in
    without_left (state_of c.args.self.now h) (frames_in c.args.self.now.frames) c.args.self.now.devices
    (frames_stay h c.args.self.now.devices (frames_in c.args.self.now.frames) none) (devices_stay h c.args.self.now.devices none)

pub returns-clause-left : goal.returns-clause-left
returns-clause-left c h past =
    without_left (state_of c.args.self.now h) (frames_in c.give_back.new.frames) c.detach_all.new.devices
    (subst (λ (l : List Device). frames_in c.give_back.new.frames ≡ map (λ (frame : Frame). given_back (is_of_left_in h l frame.owner) frame) (frames_in c.args.self.now.frames)) c.as_slice-2.ensures
    (c.give_back.ensures h past))
    (c.detach_all.ensures h past)

use Rattle.std.proofs.Common.{◌≡◌, ◌<◌, ℕ, Some, slice_get}
use Rattle.iom_base.specs.declared.access.AccessKind.{AccessKind}
use Rattle.iom_device.specs.declared.device.Device.{Device}
use Rattle.iom_reach.specs.Ways.{Way}
use Rattle.iom_hardware_session.specs.Good.{scene_in}
use Rattle.iom_hardware_session.proofs.state.Session.first_way_to.Given as goal

-- the devices so far have no way
abbrev pub invariant-loop-place : goal.invariant-loop-place
invariant-loop-place l = (k : ℕ) (own : Device) (kind : AccessKind) → k < l.place → slice_get l.self.hardware.board.devices.items k ≡ Some own → ¬ Way (scene_in l.self) own.id l.frame kind

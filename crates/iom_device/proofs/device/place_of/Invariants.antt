use Rattle.std.proofs.Common.{◌≡◌, ◌≢◌, ℕ, ◌<◌, Some, slice_get}
use Rattle.iom_device.specs.declared.device.Device.{Device}
use Rattle.iom_device.proofs.device.place_of.Given as goal

-- none of the devices so far has the id
abbrev pub invariant-loop-place : goal.invariant-loop-place
invariant-loop-place l = (j : ℕ) (other : Device) → j < l.place → slice_get l.devices j ≡ Some other → other.id ≢ l.id

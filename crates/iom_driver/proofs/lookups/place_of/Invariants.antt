use Rattle.std.proofs.Common.{◌≡◌, ◌≢◌, ℕ, ◌<◌, Some, slice_get}
use Rattle.iom_driver.specs.declared.device.Device.{Device}
use Rattle.iom_driver.proofs.lookups.place_of.Given as goal

-- none of the devices so far has the id
abbrev pub invariant-loop-k : goal.invariant-loop-k
invariant-loop-k l = (j : ℕ) (other : Device) → j < l.k → slice_get l.devices j ≡ Some other → other.id ≢ l.id

use Rattle.std.proofs.Common.{◌≡◌, ◌≢◌, ℕ, ◌<◌, Some, slice_get}
use Rattle.iom_ledger.specs.declared.device_list.DevicePages.{DevicePages}
use Rattle.iom_ledger.proofs.device_list.Devices.place_of.Given as goal

-- none of those so far is the device
abbrev pub invariant-loop-k : goal.invariant-loop-k
invariant-loop-k l = (j : ℕ) (other : DevicePages) → j < l.k → slice_get l.self.list.items j ≡ Some other → other.device ≢ l.device

use Rattle.std.proofs.Common.{◌≡◌, ℕ, ◌<◌, Some, slice_get}
use Rattle.iom_ledger.specs.declared.device_list.DevicePages.{DevicePages}
use Rattle.iom_ledger.specs.Same.{rows_of_device}
use Rattle.iom_ledger.proofs.device_list.Devices.is_same.Given as goal

-- those so far are the same, each with the same rows
abbrev pub invariant-loop-k : goal.invariant-loop-k
invariant-loop-k l =
    (j : ℕ) (one other : DevicePages) → j < l.k → slice_get l.self.list.items j ≡ Some one → slice_get l.other.list.items j ≡ Some other
    → rows_of_device one ≡ rows_of_device other

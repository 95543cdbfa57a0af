-- Whether any of the rest has left.
use Rattle.std.proofs.Common.{◌≡◌, drop}
use Rattle.std.specs.List.{list_any}
use Rattle.iom_ledger.specs.History.{History}
use Rattle.iom_machine.specs.Leaving.{has_left}
use Rattle.iom_kept_state.specs.Grants.{IsPastOf}
use Rattle.iom_kept_state.proofs.leaving.has_any_left.Given as goal

abbrev pub invariant-loop-device : goal.invariant-loop-device
invariant-loop-device l =
    (h : History) → IsPastOf l.grants h
    → list_any (λ device. has_left h device.attachment) (drop l.device-index l.devices) ≡ list_any (λ device. has_left h device.attachment) l.devices

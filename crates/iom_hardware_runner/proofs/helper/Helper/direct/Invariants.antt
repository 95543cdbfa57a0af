use Rattle.std.proofs.Common.{◌≡◌, ◌++◌, take, drop}
use Rattle.iom_hardware_runner.specs.Traffic.{with_traffic}
use Rattle.iom_hardware_runner.proofs.helper.Helper.direct.Given as goal

-- nothing changed so far, and the device has no row among those that were seen
abbrev pub invariant-loop-known : goal.invariant-loop-known
invariant-loop-known l =
    (l.known-items ≡ l.fn.self.traffic.items) × (with_traffic l.row l.known-items ≡ take l.known-index l.known-items ++ with_traffic l.row (drop l.known-index l.known-items))

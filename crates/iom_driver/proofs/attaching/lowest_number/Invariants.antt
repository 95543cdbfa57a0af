use Rattle.std.proofs.Common.{◌≡◌, ℕ, ◌<◌, ◌≤◌, true}
use Rattle.iom_driver.specs.Devices.{is_used}
use Rattle.iom_driver.proofs.attaching.lowest_number.Given as goal

-- each number before this one is used
abbrev pub invariant-loop-number : goal.invariant-loop-number
invariant-loop-number l = (n : ℕ) → 1 ≤ n → n < l.number → is_used l.devices n ≡ true

-- The devices before this one are detached, where they have left.
use Rattle.std.proofs.Common.{◌≡◌, ◌++◌, map, take, drop, length}
use Rattle.iom_ledger.specs.History.{History}
use Rattle.iom_machine.specs.Leaving.{device_once_confirmed}
use Rattle.iom_kept_state.specs.Grants.{IsPastOf}
use Rattle.iom_kept_state.proofs.leaving.detach_all.Given as goal

abbrev pub invariant-loop-place : goal.invariant-loop-place
invariant-loop-place l = record {
  so_far : (h : History) → IsPastOf l.grants h → l.devices ≡ map (device_once_confirmed h) (take l.place l.initial.devices) ++ drop l.place l.initial.devices;
  size : length l.devices ≡ length l.initial.devices;
}

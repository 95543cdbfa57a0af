-- The ids so far and those of the other devices are all.
use Rattle.std.proofs.Common.{◌≡◌, ◌++◌, drop}
use Rattle.iom_litmus_looks.specs.Places.{ids_of}
use Rattle.iom_litmus_looks.proofs.looks.ids_of.Given as goal

abbrev pub invariant-loop-device : goal.invariant-loop-device
invariant-loop-device l = l.ids ++ ids_of (drop l.device-index l.devices) ≡ ids_of l.devices

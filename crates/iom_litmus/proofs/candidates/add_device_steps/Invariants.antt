use Rattle.std.proofs.Common.{take}
use Rattle.iom_litmus.specs.Candidates.{ListsDeviceSteps}
use Rattle.iom_litmus.specs.Listed.{KeepsListed}
use Rattle.iom_litmus.proofs.candidates.add_device_steps.Given as goal

abbrev pub invariant-loop-device : goal.invariant-loop-device
invariant-loop-device l = KeepsListed l.initial.steps l.steps × ListsDeviceSteps (take l.device-index l.devices) l.steps

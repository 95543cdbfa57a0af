use Rattle.std.proofs.Common.{◌≡◌}
use Rattle.std.specs.List.{AllPass}
use Rattle.iom_hardware_runner.specs.Parts.{Does}
use Rattle.iom_hardware_runner.specs.Runs.{brings_to_rest, is_stepped}
use Rattle.iom_hardware_runner.proofs.machine.Machine.settle.Given as goal

-- hardware came closer to rest so far, and drew nothing
abbrev pub invariant-loop-steps : goal.invariant-loop-steps
invariant-loop-steps l = Does (AllPass (brings_to_rest (is_stepped l.fn.self.teller.session))) l.fn.self.teller l.self.teller × (l.self.helper ≡ l.fn.self.helper)

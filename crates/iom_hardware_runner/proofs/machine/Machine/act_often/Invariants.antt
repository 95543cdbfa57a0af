use Rattle.iom_hardware_runner.specs.Parts.{Does, AreFew, does_itself, KeepsTraffic}
use Rattle.iom_hardware_runner.proofs.machine.Machine.act_often.Given as goal

-- hardware did so many things by itself so far
abbrev pub invariant-loop-taken : goal.invariant-loop-taken
invariant-loop-taken l = Does (AreFew (does_itself l.fn.self.teller l.fn.self.helper) l._taken) l.fn.self.teller l.self.teller × KeepsTraffic l.fn.self.helper l.self.helper

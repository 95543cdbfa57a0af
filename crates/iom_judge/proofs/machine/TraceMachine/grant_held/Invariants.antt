use Rattle.iom_judge.specs.Certified.{ContinuesByHeld}
use Rattle.iom_judge.proofs.machine.TraceMachine.grant_held.Given as goal

-- those so far went on
abbrev pub invariant-loop-index : goal.invariant-loop-index
invariant-loop-index l = ContinuesByHeld l.initial.self l.fn.device l.self

use Rattle.std.proofs.Common.{take}
use Rattle.iom_litmus.specs.Candidates.{ListsOnce}
use Rattle.iom_litmus.proofs.candidates.each_once.Given as goal

abbrev pub invariant-loop-step : goal.invariant-loop-step
invariant-loop-step l = ListsOnce (take l.step-index l.steps) l.once

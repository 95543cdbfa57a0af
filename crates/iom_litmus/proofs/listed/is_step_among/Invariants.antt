use Rattle.std.proofs.Common.{take}
use Rattle.iom_litmus.specs.Listed.{IsListed}
use Rattle.iom_litmus.proofs.listed.is_step_among.Given as goal

abbrev pub invariant-loop-other : goal.invariant-loop-other
invariant-loop-other l = ¬ IsListed (take l.other-index l.steps) l.step

use Rattle.std.proofs.Common.{◌≡◌, take}
use Rattle.iom_litmus.proofs.graph.outcome_copied.Given as goal

abbrev pub invariant-loop-value : goal.invariant-loop-value
invariant-loop-value l = l.copy ≡ take l.value-index l.outcome

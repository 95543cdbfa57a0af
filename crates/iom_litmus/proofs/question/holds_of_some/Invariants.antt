use Rattle.std.proofs.Common.{take}
use Rattle.iom_litmus.specs.Questions.{HoldsOfSome}
use Rattle.iom_litmus.proofs.question.holds_of_some.Given as goal

abbrev pub invariant-loop-row : goal.invariant-loop-row
invariant-loop-row l = ¬ HoldsOfSome (take l.row-index l.rows) l.asked

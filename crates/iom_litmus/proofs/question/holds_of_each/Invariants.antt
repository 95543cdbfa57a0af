use Rattle.std.proofs.Common.{take}
use Rattle.iom_litmus.specs.Questions.{HoldsOfEach}
use Rattle.iom_litmus.proofs.question.holds_of_each.Given as goal

abbrev pub invariant-loop-row : goal.invariant-loop-row
invariant-loop-row l = HoldsOfEach (take l.row-index l.rows) l.asked

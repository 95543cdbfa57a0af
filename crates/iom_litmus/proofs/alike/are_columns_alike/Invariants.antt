use Rattle.std.proofs.Common.{ℕ, ◌<◌}
use Rattle.iom_litmus.specs.Alike.{AreAlikeIn}
use Rattle.iom_litmus.proofs.alike.are_columns_alike.Given as goal

abbrev pub invariant-loop-column : goal.invariant-loop-column
invariant-loop-column l = (k : ℕ) → k < l.column → AreAlikeIn l.test k l.one l.other

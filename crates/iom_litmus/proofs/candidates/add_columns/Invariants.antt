use Rattle.iom_litmus.specs.Candidates.{ListsColumns}
use Rattle.iom_litmus.specs.Listed.{KeepsListed}
use Rattle.iom_litmus.proofs.candidates.add_columns.Given as goal

abbrev pub invariant-loop-column : goal.invariant-loop-column
invariant-loop-column l = KeepsListed l.initial.steps l.steps × ListsColumns l.column l.steps

-- The line that tells an outcome, and behind that the line of its counts, where there are any.
use Rattle.std.specs.Prelude.{ℕ, List, ◌++◌, Option, None, Some, Result}
use Rattle.iom_base.specs.declared.refusal.Refusal.{Refusal}
use Rattle.iom_machine.specs.declared.outcome.Outcome.{Outcome}
use Rattle.iom_machine.specs.declared.outcome.Trace.{Trace}
use Rattle.iom_script.specs.Lines.{line_of, settled_line, trace_line}

abbrev pub outcome_lines : Outcome → Option Trace → List ℕ
outcome_lines outcome None = line_of outcome
outcome_lines outcome (Some trace) = line_of outcome ++ trace_line trace

-- and the line that tells what settling answers, with that of its counts
abbrev pub settled_lines : Result ℕ Refusal → Option Trace → List ℕ
settled_lines answer None = settled_line answer
settled_lines answer (Some trace) = settled_line answer ++ trace_line trace

use Rattle.std.proofs.Common.{ℕ, List, Option}
use Rattle.iom_trace_lines.specs.Taken.{HasTaken}
use Rattle.iom_trace_lines.proofs.reading.Lines.next_line.Given as goal

-- the same lines are taken
abbrev pub invariant-loop : goal.invariant-loop
invariant-loop g l =
    (lines : List (List ℕ)) (first : Option (List ℕ))
    → HasTaken lines l.fn.self.buffer.items l.fn.self.start l.fn.self.end first (g.R.Read.remaining l.fn.reader)
    → HasTaken lines l.self.buffer.items l.self.start l.self.end first (g.R.Read.remaining l.reader)

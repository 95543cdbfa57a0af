use Rattle.std.proofs.Common.{◌++◌, ◌∙◌, ℕ, List, ap}
use Rattle.std.specs.Prelude.{codes}
use Rattle.iom_trace_lines.proofs.others.read_done.Goals as goal

pub returns-then-branch : goal.returns-then-branch
returns-then-branch c =
    c.in-Some.ensures ∙ ap (λ (l : List ℕ). codes "ok; tables" ++ l) (c.in_ok-read_frames.ensures c.if-branch.true).0

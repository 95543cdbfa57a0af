use Rattle.std.proofs.Common.{◌++◌, ◌∙◌, List, ℕ, ap, append-nil, append_assoc, sym}
use Rattle.std.specs.Prelude.{codes}
use Rattle.std.specs.Fmt.{decimal}
use Rattle.iom_trace_lines.proofs.line.read_answer.Goals as goal

pub returns-in-Some : goal.returns-in-Some
returns-in-Some c = (
  codes "accepted " ++ decimal c.in_ok-number.number,
  c.in_ok-accepted.ensures,
  c.in-Some.ensures ∙ ap (λ (l : List ℕ). codes "accepted " ++ l) c.in_ok-number.ensures ∙ sym (append_assoc (codes "accepted ") (decimal c.in_ok-number.number) c.in_ok-number.rest.now),
)

pub returns-in-Some-behind : goal.returns-in-Some-behind
returns-in-Some-behind c = (codes "ok", c.in_ok-done.ensures, c.in-Some-behind.ensures)

pub returns : goal.returns
returns c = (c.args.answered.now, c.in_ok-tell.ensures, sym (append-nil c.args.answered.now))

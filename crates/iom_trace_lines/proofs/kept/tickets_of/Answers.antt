use Rattle.std.proofs.Common.{◌++◌, ◌∙◌, List, ℕ, ap, append_assoc, sym}
use Rattle.std.specs.Prelude.{codes}
use Rattle.std.specs.Fmt.{decimal}
use Rattle.iom_script.specs.Lines.{timeout_text}
use Rattle.iom_trace_lines.proofs.kept.tickets_of.Goals as goal

pub returns : goal.returns
returns c =
    let first = decimal c.in_ok-first.first in
    let last = decimal c.in_ok-last.last in
    let behind = timeout_text c.in_ok-timed_out.timed_out in
    c.in_ok-first.ensures
    ∙ ap (λ (l : List ℕ). first ++ l) (c.in_ok-others.ensures ∙ ap (λ (l : List ℕ). codes "-" ++ l) (c.in_ok-last.ensures ∙ ap (λ (l : List ℕ). last ++ l) c.in_ok-timed_out.ensures))
    ∙ sym (append_assoc first (codes "-") (last ++ behind)) ∙ sym (append_assoc (first ++ codes "-") last behind)

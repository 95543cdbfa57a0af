use Rattle.std.proofs.Common.{◌++◌, ◌∙◌, List, ℕ, true, false, None, Some, ap, append_assoc, sym}
use Rattle.std.specs.Prelude.{codes}
use Rattle.std.proofs.lemmas.Bool.{false≢true}
use Rattle.iom_trace_lines.proofs.TraceLemmas.{step_behind, tables_behind, on_behind}
use Rattle.iom_trace_lines.proofs.line.read_shown.Goals as goal

pub returns-in-Some-behind : goal.returns-in-Some-behind
returns-in-Some-behind c said answered answer says tells is =
    let text = c.in-Some.text.now in
    let tables = c.read_frames.new.frames.items in
    step_behind said answered answer text c.args.event c.args.outcome.now true None tables says
    (λ shown. sym c.if-not-takes_frames.ensures, tt) tells
    (is ∙ ap (λ (l : List ℕ). answer ++ l) c.in-Some.ensures ∙ sym (append_assoc answer (codes "; ") text))
    (tables_behind text c.in-Some-behind.frames.now tables c.in-Some-behind.ensures (c.in_ok-read_frames.ensures c.if-not-branch.false).0)

pub returns-in_default-behind-2 : goal.returns-in_default-behind-2
returns-in_default-behind-2 c = c.read_began.ensures c.args.shown.now c.args.tables.now.items c.in-Some.ensures (sym c.if-not-is_accepted.ensures)

pub returns : goal.returns
returns c said answered answer says tells is =
    let text = c.in-Some.text.now in
    let frame = c.in-Some-long_number_of.frame in
    let tables = c.args.tables.now.items in
    step_behind said answered answer text c.args.event c.args.outcome.now false (Some frame) tables says
    (λ shown. absurd (false≢true shown), sym c.if-not-is_accepted.ensures) tells
    (is ∙ ap (λ (l : List ℕ). answer ++ l) c.in-Some.ensures ∙ sym (append_assoc answer (codes "; ") text))
    (on_behind text c.in-Some-behind-2.word.now tables frame c.in-Some-behind-2.ensures c.in-Some-long_number_of.ensures)

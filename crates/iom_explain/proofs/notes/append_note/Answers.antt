use Rattle.std.proofs.Common.{◌≡◌, ◌∙◌, ◌++◌, ◌∷◌, [], sym, ap, false}
use Rattle.iom_explain.proofs.NoteLemmas.{adds_none, adds_one, no_line_feed}
use Rattle.iom_explain.proofs.notes.append_note.Goals as goal

pub returns-then-contains-clause-notes : goal.returns-then-contains-clause-notes
returns-then-contains-clause-notes c = adds_none c.args.out.now

pub returns-clause-notes : goal.returns-clause-notes
returns-clause-notes c =
    let text = c.as_bytes-text.result.now in
    let none : c.contains.result ≡ false = cc in
    adds_one c.args.out.now c.append-3.new.self text (no_line_feed text (sym c.contains.ensures.value ∙ none))
    (c.append-3.ensures ∙ ap (λ l. l ++ 10 ∷ []) (c.append-2.ensures ∙ ap (λ l. l ++ text) c.append.ensures))

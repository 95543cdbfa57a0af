use Rattle.std.proofs.Common.{◌++◌, ◌∷◌, [], codes, ap, sym, ◌∙◌}
use Rattle.std.specs.Fmt.{decimal}
use Rattle.iom_script.specs.Lines.{answer_text}
use Rattle.iom_script.proofs.lines.put_answer.Goals as goal

pub returns-in-Refused-clause-text : goal.returns-in-Refused-clause-text
returns-in-Refused-clause-text c =
    c.put_numbered.ensures.text ∙ ap (λ number. c.args.out.now ++ ((codes "answer fault " ++ decimal number) ++ 10 ∷ [])) (c.from-in-Refused.ensures ∙ c.code.ensures)
    ∙ ap (λ reply. c.args.out.now ++ (answer_text reply ++ 10 ∷ [])) (sym c.in-Refused.is)

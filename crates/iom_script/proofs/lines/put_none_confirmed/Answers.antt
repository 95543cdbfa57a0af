-- The line of a poll that confirms no ticket, with a word behind it or not.
use Rattle.std.proofs.Common.{◌++◌, ◌∷◌, [], ap, sym, ◌∙◌}
use Rattle.iom_script.specs.Lines.{none_confirmed_text}
use Rattle.iom_script.proofs.lines.put_none_confirmed.Goals as goal

pub returns-then-timed_out-clause-text : goal.returns-then-timed_out-clause-text
returns-then-timed_out-clause-text c = c.put.ensures ∙ ap (λ timed_out. c.args.out.now ++ (none_confirmed_text timed_out ++ 10 ∷ [])) (sym c.if-timed_out.true)

pub returns-else-timed_out-clause-text : goal.returns-else-timed_out-clause-text
returns-else-timed_out-clause-text c =
    c.put-else-timed_out.ensures ∙ ap (λ timed_out. c.args.out.now ++ (none_confirmed_text timed_out ++ 10 ∷ [])) (sym c.if-timed_out.false)

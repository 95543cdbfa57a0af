use Rattle.iom_script.proofs.WordLemmas.{is_the_word}
use Rattle.iom_script.proofs.words.is_word.Goals as goal

pub returns-then-text-word : goal.returns-then-text-word
returns-then-text-word c = rw c.is_some.ensures (is_the_word c.args.text.now c.args.word.now c.after.result c.if-text-word.true c.after.ensures)

use Rattle.iom_script.proofs.ArgumentLemmas.{no_number}
use Rattle.iom_script.proofs.words.page_of.Goals as goal

pub returns-in_err-number : goal.returns-in_err-number
returns-in_err-number c = rw c.from_residual.ensures (no_number c.args.text.now c.in_err-number.ensures)

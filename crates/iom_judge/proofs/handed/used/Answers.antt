use Rattle.iom_judge.proofs.HandedLemmas.{is_in_both}
use Rattle.iom_judge.proofs.handed.used.Goals as goal

pub returns-in-Attach-Done : goal.returns-in-Attach-Done
returns-in-Attach-Done c frame =
    let choice = c.args.choice.now in
    rw (c.in-Attach-Done.is-0, c.in-Attach-Done.is-1, c.as_slice-in-Attach-Done.ensures, c.as_slice-in-Attach-Done-2.ensures)
    (is_in_both frame choice.taken choice.directory)

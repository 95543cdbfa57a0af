use Rattle.iom_machine.proofs.ReturningLemmas as returning
use Rattle.iom_machine.proofs.laws.returned_tables_are_free.Goals as goal

pub returns : goal.returns
returns c = returning.returned_tables_are_free

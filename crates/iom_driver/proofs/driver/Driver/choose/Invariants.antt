use Rattle.iom_driver.proofs.Chosen.{ChosenSoFar}
use Rattle.iom_driver.proofs.driver.Driver.choose.Given as goal

abbrev pub invariant-loop : goal.invariant-loop
invariant-loop l = record { so_far : ChosenSoFar l.self.owners l.self.ledger l.named l.self.frames l.limit l.count l.counter l.chosen.items }

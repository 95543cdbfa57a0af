use Rattle.std.proofs.Common.{get_or, ap}
use Rattle.iom_frame_set.proofs.SetLemmas.{IsEmpty-zero}
use Rattle.iom_frame_set.proofs.number_set.NumberSet.empty.Goals as goal

pub returns-clause-empty : goal.returns-clause-empty
returns-clause-empty c = IsEmpty-zero (record { kept = c.new.result.items; beyond = 0 }) (λ i. ap (λ words. get_or words i 0) c.new.ensures.items)

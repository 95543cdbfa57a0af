use Rattle.iom_iommu.proofs.ByAnswer.{by_answer}
use Rattle.iom_iommu.proofs.FetchLemmas.{leaves_fault_queue, leaves_setup}
use Rattle.iom_iommu.proofs.laws.leaves_setup.Goals as goal

pub returns-clause-commands : goal.returns-clause-commands
returns-clause-commands g c = λ m n i j answer f. leaves_setup m n i j answer (by_answer m n i j answer f)

pub returns-clause-faults : goal.returns-clause-faults
returns-clause-faults g c = λ m n i j answer f. leaves_fault_queue m n i j answer (by_answer m n i j answer f)

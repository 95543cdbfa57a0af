use Rattle.iom_iommu.proofs.ByAnswer.{by_answer}
use Rattle.iom_iommu.proofs.laws.by_answer.Goals as goal

pub returns : goal.returns
returns g c = λ m n i j answer f. by_answer m n i j answer f

use Rattle.iom_iommu.proofs.ByAnswer.{by_answer}
use Rattle.iom_iommu.proofs.FetchLemmas.{opens_one}
use Rattle.iom_iommu.proofs.laws.opens_one.Goals as goal

pub returns : goal.returns
returns g c = λ m n i j answer f. opens_one m i j n answer (by_answer m n i j answer f)

use Rattle.iom_iommu.proofs.ByAnswer.{by_answer}
use Rattle.iom_iommu.proofs.FetchLemmas.{empty_then, empty_where}
use Rattle.iom_iommu.proofs.laws.finds_empty.Goals as goal

pub returns : goal.returns
returns g c = λ m n i j answer f. let by = by_answer m n i j answer f in (empty_then m n i j answer by, empty_where m n i j answer by)

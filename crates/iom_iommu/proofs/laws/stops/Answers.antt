use Rattle.iom_iommu.proofs.ByAnswer.{by_answer}
use Rattle.iom_iommu.proofs.FetchLemmas.{stopped_then, stopped_where}
use Rattle.iom_iommu.proofs.laws.stops.Goals as goal

pub returns-clause-after : goal.returns-clause-after
returns-clause-after g c = λ m n i j answer f.
    let by = by_answer m n i j answer f in (stopped_then m n i j answer by, stopped_where m n i j answer by)

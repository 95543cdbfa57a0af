use Rattle.iom_iommu.proofs.ByAnswer.{by_answer}
use Rattle.iom_iommu.proofs.FetchLemmas.{leaves_memory, leaves_list}
use Rattle.iom_iommu.proofs.laws.leaves_list.Goals as goal

pub returns : goal.returns
returns g c = λ m n i j answer f not_done.
    let by = by_answer m n i j answer f in (leaves_memory m n i j answer by not_done, leaves_list m n i j answer by not_done)

use Rattle.iom_iommu.proofs.ByAnswer.{by_answer}
use Rattle.iom_iommu.proofs.OneFetch.{one_fetch}
use Rattle.iom_iommu.proofs.laws.one_fetch.Goals as goal

pub returns : goal.returns
returns g c = λ m n o i j k one other f g. one_fetch m i n o j k one other (by_answer m n i j one f) (by_answer m o i k other g)

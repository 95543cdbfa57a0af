use Rattle.iom_iommu.specs.declared.fetched.Fetched.TheVariants.{Did}
use Rattle.iom_iommu.proofs.ByAnswer.{by_answer}
use Rattle.iom_iommu.proofs.FetchLemmas.{takes_first}
use Rattle.iom_iommu.proofs.laws.takes_first.Goals as goal

pub returns : goal.returns
returns g c = λ m n i j command f. takes_first m n i j command (by_answer m n i j (Did command) f)

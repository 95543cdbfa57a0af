use Rattle.iom_iommu.specs.declared.fetched.Fetched.TheVariants.{Did}
use Rattle.iom_iommu.proofs.ByAnswer.{by_answer}
use Rattle.iom_iommu.proofs.FetchLemmas.{leaves_frames}
use Rattle.iom_iommu.proofs.laws.leaves_frames.Goals as goal

pub returns : goal.returns
returns g c = λ m n i j command f. leaves_frames m n i j command (by_answer m n i j (Did command) f)

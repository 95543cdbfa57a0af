-- Nothing else of the IOMMU changes.
use Rattle.std.proofs.Common.{refl}
use Rattle.iom_iommu.proofs.PartLemmas.{same_fence}
use Rattle.iom_iommu.proofs.iommu.Iommu.forget_fence.Goals as goal

pub returns : goal.returns
returns g c = same_fence c.args.self.now _ _ _ _ _ _ _ _ refl refl refl

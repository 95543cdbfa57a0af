-- The head goes on, and nothing is kept of a fence.
use Rattle.std.proofs.Common.{refl}
use Rattle.iom_iommu.proofs.PartLemmas.{same_fence}
use Rattle.iom_iommu.proofs.iommu.Iommu.go_on.Goals as goal

pub returns : goal.returns
returns g c = same_fence c.args.self.now _ _ _ _ _ _ _ _ c.advance.ensures.registers refl refl

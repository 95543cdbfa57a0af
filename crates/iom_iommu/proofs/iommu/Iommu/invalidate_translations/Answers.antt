-- The head goes on, and the cached translations that are covered go.
use Rattle.iom_iommu.proofs.PartLemmas.{cleared}
use Rattle.iom_iommu.proofs.iommu.Iommu.invalidate_translations.Goals as goal

pub returns : goal.returns
returns g c = cleared c.args.self.now _ c.go_on.new.self c.go_on.ensures c.invalidate.new.cache _ _ c.invalidate.ensures.dropped

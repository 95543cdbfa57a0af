-- Nothing but the open requests changes.
use Rattle.iom_iommu.proofs.PartLemmas.{same_slots}
use Rattle.iom_iommu.proofs.iommu.Iommu.done.Goals as goal

pub returns : goal.returns
returns g c = record { was_open = c.close.ensures.closed; left = same_slots c.args.self.now c.close.new.self _ _ _ c.close.ensures.left }

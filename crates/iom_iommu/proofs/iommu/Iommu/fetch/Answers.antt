-- In an empty queue a look is the whole fetch.
use Rattle.iom_iommu.proofs.LookLemmas.{looked_empty}
use Rattle.iom_iommu.proofs.iommu.Iommu.fetch.Goals as goal

pub returns-in-Empty : goal.returns-in-Empty
returns-in-Empty g c = looked_empty c.args.memory.now c.args.self.now c.look.new.self c.in-Empty.ensures

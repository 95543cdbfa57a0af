-- A device more: its row is empty.
use Rattle.iom_inflight.proofs.InMemory.{adds_in_memory}
use Rattle.iom_iommu.proofs.iommu.Iommu.add.Goals as goal

pub invariant_of-self : goal.invariant_of-self
invariant_of-self g c = record {
  inside = adds_in_memory c.args.self.now.frames c.args.self.now.in_flight c.args.device c.add.result c.add.new.self c.add.ensures c.args.self.now.inside;
  cached = c.args.self.now.cached;
}

-- The frame of the access that was accepted is one of memory, and what is cached stays.
use Rattle.std.proofs.Common.{◌<◌, subst}
use Rattle.iom_inflight.proofs.InMemory.{accepted_in_memory}
use Rattle.iom_iommu.proofs.iommu.Iommu.end.Goals as goal

pub invariant_of-self : goal.invariant_of-self
invariant_of-self g c = record {
  inside = accepted_in_memory c.args.self.now.frames c.args.self.now.in_flight c.args.request.device _ c.accept.result c.accept.new.in_flight c.accept.ensures
      (subst (λ n. c.in-Ok.translation.frame < n) c.requires.memory c.in-Ok.ensures.inside) c.args.self.now.inside;
  cached = c.args.self.now.cached;
}

-- Part by part.
use Rattle.std.proofs.Common.{rules, ap}
use Rattle.iom_iommu.specs.Parts.{registers_of}
use Rattle.iom_iommu.proofs.SameParts.{one_iommu}
use Rattle.iom_iommu.proofs.iommu.Iommu.is_same.Goals as goal

pub returns-then-self-other : goal.returns-then-self-other
returns-then-self-other g c =
    let fence = c.has_same_fence.ensures.0 (search rules) in
    let requests = c.has_same_requests.ensures.0 (search rules) in
    let caches = c.has_same_caches.ensures.0 (search rules) in (
      λ reply. one_iommu c.args.self.now c.args.other.now (record {
        registers = c.is_same.ensures.0 reply;
        contexts = caches.0;
        translations = caches.1;
        flights = requests.0;
        fence_snapshot = fence.0;
        waits = fence.1;
        slots = requests.1;
        frames = c.if-self-other.true;
      }),
      λ same. c.is_same.ensures.1 (ap registers_of same),
    )

-- The head goes on, and the cached contexts that are named go.
use Rattle.std.proofs.Common.{◌==◌, ◌≡◌, sym, subst}
use Rattle.iom_device_dir.specs.Cached.{cached_contexts}
use Rattle.iom_device_dir.specs.Contents.{DropsCovered}
use Rattle.iom_iommu.specs.Fetches.{covers_device}
use Rattle.iom_iommu.proofs.PartLemmas.{emptied}
use Rattle.iom_iommu.proofs.iommu.Iommu.invalidate_contexts.Goals as goal

pub returns-in-None : goal.returns-in-None
returns-in-None g c =
    emptied c.args.self.now c.args.device c.go_on.new.self c.go_on.ensures c.drop_all.new.self _ _
    (subst (λ d. DropsCovered (cached_contexts c.go_on.new.self.contexts) (covers_device d) (cached_contexts c.drop_all.new.self)) (sym c.in-None.is) c.drop_all.ensures.dropped)

pub returns-in-Some : goal.returns-in-Some
returns-in-Some g c =
    emptied c.args.self.now c.args.device c.go_on.new.self c.go_on.ensures c.drop_one.new.self _ _
    (subst (λ d. DropsCovered (cached_contexts c.go_on.new.self.contexts) (covers_device d) (cached_contexts c.drop_one.new.self)) (sym c.in-Some.is)
    (subst (λ n. DropsCovered (cached_contexts c.go_on.new.self.contexts) (λ key. key == n) (cached_contexts c.drop_one.new.self)) c.number.ensures.value c.drop_one.ensures.dropped))

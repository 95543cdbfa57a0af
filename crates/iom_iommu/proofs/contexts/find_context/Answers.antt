-- What is kept is what the directory has.
use Rattle.iom_device_dir.specs.Cached.{cached_contexts}
use Rattle.iom_iommu.proofs.ServiceLemmas.{kept_after_look}
use Rattle.iom_iommu.proofs.contexts.find_context.Goals as goal

pub returns-in-None-clause-kept : goal.returns-in-None-clause-kept
returns-in-None-clause-kept c =
    kept_after_look (cached_contexts c.args.contexts.now) (cached_contexts c.look.new.self) _ c.args.device c.look.result _ c.find_in_directory.result c.look.ensures.looked c.in-None.is
    c.find_in_directory.ensures.found c.find_in_directory.ensures.kept

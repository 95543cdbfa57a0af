-- An id that is too wide is refused.
use Rattle.iom_device_dir.specs.Cached.{cached_contexts}
use Rattle.iom_registers.specs.Queues.{directory_mode}
use Rattle.iom_iommu.proofs.ServiceLemmas.{too_wide, wide_refused, wide_keeps}
use Rattle.iom_iommu.proofs.service.serve.Goals as goal

pub returns-in_default : goal.returns-in_default
returns-in_default g c =
    let r = c.args.registers.now in
    let wide = too_wide (directory_mode r) c.directory_mode-mode.result c.args.device c.fits_directory.result c.directory_mode-mode.ensures c.fits_directory.ensures c.if-not-fits_directory.true in
    record {
      served = wide_refused c.args.memory.now r (cached_contexts c.args.contexts.now) c.args.device wide g.C.TransCache.SURE c.args.address c.args.kind
          (g.C.TransCache.content c.args.translations.now) c.plain-in_default.result c.plain-in_default.ensures;
      kept = wide_keeps c.args.memory.now r (cached_contexts c.args.contexts.now) c.args.device wide;
      inside = tt;
    }

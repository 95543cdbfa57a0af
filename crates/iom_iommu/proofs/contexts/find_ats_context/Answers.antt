-- An id that is too wide is refused.
use Rattle.std.proofs.Common.{sym}
use Rattle.iom_device_dir.specs.Cached.{cached_contexts}
use Rattle.iom_registers.specs.Queues.{directory_mode}
use Rattle.iom_iommu.proofs.ServiceLemmas.{too_wide, wide_disallowed, wide_keeps}
use Rattle.iom_iommu.proofs.contexts.find_ats_context.Goals as goal

pub returns-in_default : goal.returns-in_default
returns-in_default c =
    let r = c.args.registers.now in
    let wide = too_wide (directory_mode r) c.directory_mode-mode.result c.args.device c.fits_directory.result c.directory_mode-mode.ensures c.fits_directory.ensures c.if-not-fits_directory.true in
    record {
      found = sym (wide_disallowed c.args.memory.now r (cached_contexts c.args.contexts.now) c.args.device wide);
      kept = wide_keeps c.args.memory.now r (cached_contexts c.args.contexts.now) c.args.device wide;
    }

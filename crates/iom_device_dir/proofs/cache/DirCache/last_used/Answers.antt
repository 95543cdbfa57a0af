-- The first entry is that of the device.
use Rattle.iom_device_dir.specs.Cached.{cached_contexts, contexts_in_order}
use Rattle.iom_device_dir.proofs.CachedIds.{first_found}
use Rattle.iom_device_dir.proofs.cache.DirCache.last_used.Goals as goal

pub returns-then-last-id-clause-cached : goal.returns-then-last-id-clause-cached
unfolding cached_contexts contexts_in_order
returns-then-last-id-clause-cached c = first_found c.args.self.now.contexts.entries c.args.id c.in_ok-last.last.now c.in_ok-last.context.now c.in_ok-last.ensures c.if-last-id.true

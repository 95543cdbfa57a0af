-- What goes is all that there is at the id.
use Rattle.std.proofs.Common.{◌∙◌, ap}
use Rattle.lru.specs.LruCache.{LruCache}
use Rattle.iom_device_dir.specs.declared.context.Context.{Context}
use Rattle.iom_device_dir.specs.Cached.{contexts_in_order}
use Rattle.iom_device_dir.proofs.CachedIds.{removed_order}
use Rattle.iom_device_dir.proofs.cache.DirCache.drop_one.Goals as goal

pub returns-clause-order : goal.returns-clause-order
unfolding contexts_in_order
returns-clause-order c =
    ap (λ (cache : LruCache _ Context). cache.entries) c.pop.ensures.entries ∙ removed_order c.args.id c.args.self.now.contexts c.len.ensures.valid

-- What is found goes first.
use Rattle.std.proofs.Common.{◌∙◌, ap}
use Rattle.lru.specs.LruCache.{LruCache}
use Rattle.iom_device_dir.specs.declared.context.Context.{Context}
use Rattle.iom_device_dir.specs.Cached.{contexts_in_order}
use Rattle.iom_device_dir.proofs.CachedIds.{looked_order}
use Rattle.iom_device_dir.proofs.cache.DirCache.search.Goals as goal

pub returns-clause-order : goal.returns-clause-order
unfolding contexts_in_order
returns-clause-order c =
    ap (λ (cache : LruCache _ Context). cache.entries) c.promote.ensures.entries ∙ looked_order c.args.id c.args.self.now.contexts c.len.ensures.valid

-- The context is kept under its id, as the cache that it stands on keeps it.
use Rattle.iom_device_dir.specs.Cached.{cached_contexts, contexts_in_order}
use Rattle.iom_device_dir.proofs.CachedIds.{kept, kept_order}
use Rattle.iom_device_dir.proofs.cache.DirCache.keep.Goals as goal

pub returns : goal.returns
unfolding cached_contexts contexts_in_order
returns c = record {
  kept =
      kept c.args.id c.args.self.now.contexts c.len.ensures.valid c.put.result c.args.context c.put.new.self
      c.put.ensures.entries c.put.ensures.err c.put.ensures.succeeds;
  order =
      kept_order c.args.id c.args.self.now.contexts c.len.ensures.valid c.put.result c.args.context c.put.new.self c.args.self.now.room
      c.put.ensures.entries c.put.ensures.err c.put.ensures.succeeds;
}

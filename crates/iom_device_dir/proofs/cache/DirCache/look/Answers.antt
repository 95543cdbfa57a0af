-- What stood first stands first.
use Rattle.std.proofs.Common.{is_some, ap}
use Rattle.iom_device_dir.specs.Cached.{contexts_in_order, last_in}
use Rattle.iom_device_dir.proofs.CachedIds.{first_stays}
use Rattle.iom_device_dir.proofs.cache.DirCache.look.Goals as goal

pub returns-in-Some-clause-order : goal.returns-in-Some-clause-order
unfolding contexts_in_order last_in
returns-in-Some-clause-order c = first_stays c.args.id c.args.self.now.contexts.entries c.len.ensures.valid.0 (c.last_used.ensures.last.0 (ap is_some c.in-Some.is))

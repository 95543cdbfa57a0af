-- What the context cache holds, and what it answers at each device id.
use Rattle.std.specs.Prelude.{ℕ, nat_eq, List, Option, option_map, slice_get}
use Rattle.std.specs.Map.{lookup}
use Rattle.iom_device_dir.specs.declared.context.Context.{Context}
use Rattle.iom_device_dir.specs.declared.cache.DirCache.{DirCache}
use Rattle.iom_device_dir.specs.Contents.{Content}

-- the contexts with their ids, in the order of use: that which was looked at or kept last stands first
unfoldable pub contexts_in_order : DirCache → List (ℕ × Context)
contexts_in_order cache = cache.contexts.entries

-- the context at an id
unfoldable pub cached_contexts : DirCache → Content ℕ Context
cached_contexts cache id = lookup (nat_eq id) (contexts_in_order cache)

-- the id of the one that was looked at or kept last
unfoldable pub last_in : DirCache → Option ℕ
last_in cache = option_map (λ entry. entry.0) (slice_get (contexts_in_order cache) 0)

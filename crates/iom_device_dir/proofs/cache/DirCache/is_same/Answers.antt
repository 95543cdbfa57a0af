-- All that a cache is, beside what holds of each, is its entries.
use Rattle.std.proofs.Common.{◌≡◌, ◌∙◌, sym, ap}
use Rattle.std.proofs.Props.{props}
use mathlib.Core.HLevel.{is_prop→PathP}
use Rattle.lru.specs.LruCache.{lru_cache}
use Rattle.iom_device_dir.specs.declared.cache.DirCache.{DirCache}
use Rattle.iom_device_dir.proofs.cache.DirCache.is_same.Goals as goal

same_contexts : (one other : DirCache) → one.contexts.entries ≡ other.contexts.entries → one ≡ other
same_contexts one other same =
    let cap : one.contexts.cap ≡ other.contexts.cap = one.room ∙ sym other.room in
    let contexts : one.contexts ≡ other.contexts = λ i. lru_cache (same i) (cap i) in
    λ i. record {
      contexts = contexts i;
      room = is_prop→PathP (λ j. (contexts j).cap ≡ 16) (λ j. let p : IsProp ((contexts j).cap ≡ 16) = hlevel props in p) one.room other.room i;
    }

pub returns : goal.returns
returns c = (
  λ reply. same_contexts c.args.self.now c.args.other.now (c.have_same_entries.ensures.0 reply),
  λ same. c.have_same_entries.ensures.1 (ap (λ (cache : DirCache). cache.contexts.entries) same),
)

-- When entries are equal, and caches.
use Rattle.std.proofs.Common.{◌≡◌, ◌∙◌, List, ap, arith}
use Rattle.std.specs.Bool.{Decides}
use Rattle.std.proofs.lemmas.Grind.{common_steps}
use Rattle.iom_ats_cache.specs.contracts.entry.EntryPartialEq.TheImpl as entry
use Rattle.iom_ats_cache.specs.Cache.{Cache}
use Rattle.iom_ats_cache.specs.declared.entry.Entry.{Entry}

-- `==` of entries tells whether they are
pub entry_decides : (a b : Entry) → Decides (entry.ghosts.eq a b) (a ≡ b)
entry_decides a b = grind (arith, common_steps)

pub same_cache : (one other : Cache) → one.epoch ≡ other.epoch → one.entries ≡ other.entries → one ≡ other
same_cache one other epoch entries =
    ap (λ n. record { epoch = n; entries = one.entries }) epoch ∙ ap (λ (xs : List Entry). record { epoch = other.epoch; entries = xs }) entries

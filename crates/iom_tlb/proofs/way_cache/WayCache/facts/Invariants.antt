use Rattle.std.proofs.Common.{◌<◌, ℕ, get_or}
use Rattle.iom_tlb.specs.Places.{HasWays}
use Rattle.iom_tlb.specs.Ways.{no_ways}
use Rattle.iom_tlb.proofs.way_cache.WayCache.facts.Given as goal

-- the sets so far
abbrev pub invariant-loop-number : goal.invariant-loop-number
invariant-loop-number l = (number : ℕ) → number < l.number → HasWays (get_or l.self-inside.sets.items number no_ways)

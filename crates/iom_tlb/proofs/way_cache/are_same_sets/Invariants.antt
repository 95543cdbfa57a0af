-- The sets so far are the same.
use Rattle.std.proofs.Common.{◌≡◌, ◌<◌, ℕ, get_or}
use Rattle.iom_tlb.specs.Ways.{no_ways}
use Rattle.iom_tlb.proofs.way_cache.are_same_sets.Given as goal

abbrev pub invariant-loop-number : goal.invariant-loop-number
invariant-loop-number l = (number : ℕ) → number < l.number → get_or l.one number no_ways ≡ get_or l.other number no_ways

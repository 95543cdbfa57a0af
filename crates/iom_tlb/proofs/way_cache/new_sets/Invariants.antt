use Rattle.std.proofs.Common.{◌≡◌, ℕ, length, get_or}
use Rattle.iom_tlb.specs.Content.{HasNothing}
use Rattle.iom_tlb.specs.Ways.{in_set, no_ways}
use Rattle.iom_tlb.specs.WayCalls.{AreAtHome}
use Rattle.iom_tlb.proofs.way_cache.new_sets.Given as goal

-- the sets so far
abbrev pub invariant-loop-made : goal.invariant-loop-made
invariant-loop-made l = record {
  as_many : length l.sets.items ≡ l.made;
  nothing : (number : ℕ) → HasNothing (in_set (get_or l.sets.items number no_ways));
  home : (number : ℕ) → AreAtHome number (get_or l.sets.items number no_ways);
  counters : (number : ℕ) → (get_or l.sets.items number no_ways).next ≡ 0;
}

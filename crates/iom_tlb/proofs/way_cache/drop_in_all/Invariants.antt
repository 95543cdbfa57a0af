use Rattle.std.proofs.Common.{◌≡◌, ℕ, ◌<◌, ◌≤◌, get_or}
use Rattle.iom_tlb.specs.Content.{DropsWhere}
use Rattle.iom_tlb.specs.Covers.{covers}
use Rattle.iom_tlb.specs.Ways.{in_set, no_ways}
use Rattle.iom_tlb.specs.WayCalls.{AreAtHome, AreOnlyEmptied}
use Rattle.iom_tlb.proofs.way_cache.drop_in_all.Given as goal

-- the sets so far have lost what is covered, and the others are as they were
abbrev pub invariant-loop-number : goal.invariant-loop-number
invariant-loop-number l = record {
  dropped : (k : ℕ) → k < l.number → DropsWhere (covers l.cover) (in_set (get_or l.fn.sets k no_ways)) (in_set (get_or l.sets k no_ways));
  home : (k : ℕ) → AreAtHome k (get_or l.fn.sets k no_ways) → AreAtHome k (get_or l.sets k no_ways);
  emptied : AreOnlyEmptied l.fn.sets l.sets;
  rest : (k : ℕ) → l.number ≤ k → get_or l.sets k no_ways ≡ get_or l.fn.sets k no_ways;
}

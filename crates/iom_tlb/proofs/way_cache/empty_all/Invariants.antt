use Rattle.std.proofs.Common.{ℕ, ◌<◌, get_or}
use Rattle.iom_tlb.specs.Content.{HasNothing}
use Rattle.iom_tlb.specs.Ways.{in_set, no_ways}
use Rattle.iom_tlb.specs.WayCalls.{AreAtHome, AreOnlyEmptied}
use Rattle.iom_tlb.proofs.way_cache.empty_all.Given as goal

-- the sets so far have nothing, and none has what it hadn't
abbrev pub invariant-loop-number : goal.invariant-loop-number
invariant-loop-number l = record {
  nothing : (k : ℕ) → k < l.number → HasNothing (in_set (get_or l.sets k no_ways));
  home : (k : ℕ) → k < l.number → AreAtHome k (get_or l.sets k no_ways);
  emptied : AreOnlyEmptied l.fn.sets l.sets;
}

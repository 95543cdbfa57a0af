use Rattle.std.proofs.Common.{◌≡◌, length}
use Rattle.iom_tlb.specs.Covers.{covers}
use Rattle.iom_tlb.specs.Entries.{after_drop}
use Rattle.iom_tlb.proofs.entries.remove_covered.Given as goal

-- those that aren't covered are as they were, and the capacity is
abbrev pub invariant-loop-key : goal.invariant-loop-key
invariant-loop-key l = record {
  others : after_drop (covers l.cover) l.entries.entries ≡ after_drop (covers l.cover) l.fn.entries.entries;
  capacity : l.entries.cap ≡ l.fn.entries.cap;
}

abbrev pub decreases-loop-key : goal.decreases-loop-key
decreases-loop-key l = length l.entries.entries

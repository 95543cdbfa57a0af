-- What is left on both sides decides.
use Rattle.std.proofs.Common.{◌≡◌, ◌↔◌, length}
use Rattle.iom_tlb.proofs.entries.are_same.Given as goal

abbrev pub invariant-loop-key : goal.invariant-loop-key
invariant-loop-key l =
    record {
      can : (goal.iterator-loop-key).can_next l.key-iterator;
      ends : (goal.iterator-loop-key).is_finite l.key-iterator;
      as_many : length l.key-iterator ≡ length l.others;
      rest : (l.one.entries ≡ l.other.entries) ↔ (l.key-iterator ≡ l.others);
    }

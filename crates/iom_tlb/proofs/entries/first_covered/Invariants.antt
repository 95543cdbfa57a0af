use Rattle.std.proofs.Common.{◌≡◌}
use Rattle.std.specs.List.{find}
use Rattle.iom_tlb.specs.Covers.{covers}
use Rattle.iom_tlb.proofs.entries.first_covered.Given as goal

-- what is left decides
abbrev pub invariant-loop-key : goal.invariant-loop-key
invariant-loop-key l =
    record {
      can : (goal.iterator-loop-key).can_next l.key-iterator;
      ends : (goal.iterator-loop-key).is_finite l.key-iterator;
      rest : find (λ entry. covers l.cover entry.0 entry.1) l.entries.entries ≡ find (λ entry. covers l.cover entry.0 entry.1) l.key-iterator;
    }

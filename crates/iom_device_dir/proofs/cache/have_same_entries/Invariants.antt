-- What is left on both sides decides.
use Rattle.std.proofs.Common.{◌≡◌, ◌↔◌, length}
use Rattle.iom_device_dir.proofs.cache.have_same_entries.Given as goal

abbrev pub invariant-loop-id : goal.invariant-loop-id
invariant-loop-id l =
    record {
      can : (goal.iterator-loop-id).can_next l.id-iterator;
      ends : (goal.iterator-loop-id).is_finite l.id-iterator;
      as_many : length l.id-iterator ≡ length l.others;
      rest : (l.one.entries ≡ l.other.entries) ↔ (l.id-iterator ≡ l.others);
    }

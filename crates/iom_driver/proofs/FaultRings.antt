-- The registers go on to name the ring of the fault queue, and what waits in it stays.
use Rattle.std.proofs.Common.{◌≡◌, ◌+◌, ◌*◌, ◌/◌, ◌%◌, ◌<◌, ◌∙◌, ℕ, List, length, slice_get, refl, sym, ap, subst, arith, All}
use Rattle.iom_fault_queue.specs.declared.entry.Entry.{Entry}
use Rattle.iom_fault_queue.specs.Ring.{records_in, record_place}
use Rattle.iom_fault_queue.proofs.Lists.{unchanged}
use Rattle.iom_registers.specs.declared.registers.Registers.{Registers}
use Rattle.iom_registers.specs.Queues.{fault_entries}
use Rattle.iom_registers.specs.Fields.{entry_count, address}
use Rattle.iom_driver.specs.Layout.{fault_frame}
use Rattle.iom_driver.specs.Ready.{IsReport, IsFaultRing, KeepsFaults}

pub same_faults : (r : Registers) → KeepsFaults r r
same_faults r = record { on = refl; base = refl; head = refl; tail = refl }

-- a place of the ring lies in its frame
pub in_fault_ring : (memory : List (List ℕ)) (r : Registers) (j : ℕ) → IsFaultRing memory r → j < fault_entries r → record_place r j / 4096 ≡ fault_frame (length memory)
in_fault_ring memory r j ring lt =
    let small : j < 128 = subst (λ n. j < n) ring.entries lt in
    let at : record_place r j ≡ 4096 * fault_frame (length memory) + 32 * j = ap (λ b. b + 32 * j) ring.base in
    rw at (omega (arith, small))

-- where the ring's frame keeps its bytes, and the queue its indices, the same records wait
pub same_records : (memory memory' : List (List ℕ)) (r s : Registers) → slice_get memory' (fault_frame (length memory)) ≡ slice_get memory (fault_frame (length memory)) → KeepsFaults r s → IsFaultRing memory r
    → records_in memory' s ≡ records_in memory r
same_records memory memory' r s same keeps ring =
    let entries : fault_entries s ≡ fault_entries r = ap entry_count keeps.base in
    unchanged memory memory' r s keeps.base (by_entries s.fqh r.fqh (fault_entries s) (fault_entries r) keeps.head entries) (by_entries s.fqt r.fqt (fault_entries s) (fault_entries r) keeps.tail entries)
    (λ j lt. rw (in_fault_ring memory r j ring lt) same)
  where
    by_entries : (a b m n : ℕ) → a ≡ b → m ≡ n → a % m ≡ b % n
    by_entries a b m n index size = ap (λ k. k % m) index ∙ ap (λ k. b % k) size

pub fault_ring_stays : (memory memory' : List (List ℕ)) (r s : Registers) → length memory' ≡ length memory
    → slice_get memory' (fault_frame (length memory)) ≡ slice_get memory (fault_frame (length memory)) → KeepsFaults r s → IsFaultRing memory r → IsFaultRing memory' s
fault_ring_stays memory memory' r s size same keeps ring = record {
  on = keeps.on ∙ ring.on;
  base = ap address keeps.base ∙ ring.base ∙ ap (λ n. 4096 * fault_frame n) (sym size);
  entries = ap entry_count keeps.base ∙ ring.entries;
  reports = subst (λ (es : List Entry). All IsReport es) (sym (same_records memory memory' r s same keeps ring)) ring.reports;
}

-- What a call of the ring answers, and all that it leaves (IOMMU specification, section 3.2, "Fault/Event-Queue (FQ)").
use Rattle.std.specs.Prelude.{◌≡◌, ℕ, ◌==◌, true, false, List, [], ◌∷◌, ◌++◌, Option, Some, None, if◌then◌else◌}
use Rattle.iom_registers.specs.Queues.{fault_entries, fault_head, fault_tail, next_index, is_fault_queue_on, is_fault_queue_marked, with_record_written, with_fqmf, with_fqof}
use Rattle.iom_registers.specs.declared.register.Register.{Register}
use Rattle.iom_registers.specs.declared.register.Register.TheVariants.{Fqh}
use Rattle.iom_registers.specs.declared.registers.Registers.{Registers}
use Rattle.iom_fault_queue.specs.declared.entry.Entry.{Entry}
use Rattle.iom_fault_queue.specs.declared.entry.Entry.TheVariants as entry
use Rattle.iom_fault_queue.specs.declared.ring.Put.{Put}
use Rattle.iom_fault_queue.specs.declared.ring.Put.TheVariants.{Written, Overflow, Off}
use Rattle.iom_fault_queue.specs.Fields.{Fields}
use Rattle.iom_fault_queue.specs.Ring.{record_at, record_place, StoresRecord, is_full, is_tail_outside}

-- the registers after a record is dropped, by the first reason that applies: fqof or fqmf is 1 already, and nothing changes; the
-- queue is full, and fqof is set; the place isn't in memory, and fqmf is set. None where no reason applies
abbrev pub dropping : List (List ℕ) → Registers → Option Registers
dropping memory r =
    if is_fault_queue_marked r then Some r
    else if is_full r then Some (with_fqof r)
    else if is_tail_outside memory r then Some (with_fqmf r)
    else None

-- THE RELATION of a put, by its answer
abbrev pub PutsRecord : List (List ℕ) → Registers → Fields → Put → List (List ℕ) → Registers → Type 0
PutsRecord memory r f Written new s =
    (is_fault_queue_on r ≡ true) × (dropping memory r ≡ None)
    × StoresRecord memory (record_place r (fault_tail r)) f new × (s ≡ with_record_written r)
PutsRecord memory r f Overflow new s = (is_fault_queue_on r ≡ true) × (dropping memory r ≡ Some s) × (new ≡ memory)
PutsRecord memory r f Off new s = (is_fault_queue_on r ≡ false) × (new ≡ memory) × (s ≡ r)

-- the list after a put
abbrev pub after_put : Put → Fields → List Entry → List Entry
after_put Written f records = records ++ entry.Record f ∷ []
after_put Overflow f records = records
after_put Off f records = records

-- the entry at the head; none where head and tail meet
abbrev pub oldest : List (List ℕ) → Registers → Option Entry
oldest memory r = if fault_head r == fault_tail r then None else Some (record_at memory (record_place r (fault_head r)))

-- what is left of a value with registers, by what a write to a register leaves: the head moves on by one where something was taken
abbrev pub moved_on : {X : Type 0} → (Register → ℕ → X) → Registers → Option Entry → X → X
moved_on after r None old = old
moved_on after r (Some e) old = after Fqh (next_index (fault_entries r) (fault_head r))

-- THE RELATION of a take, for whatever has registers
abbrev pub TakesEntry : {X : Type 0} → (X → Registers) → (X → Register → ℕ → X) → List (List ℕ) → X → Option Entry → X → Type 0
TakesEntry registers after memory old found new =
    (found ≡ oldest memory (registers old)) × (new ≡ moved_on (after old) (registers old) found old)

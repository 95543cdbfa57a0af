-- Records come out in the order in which they went in.
use Rattle.std.specs.Prelude.{◌≡◌, ℕ, ◌/◌, ◌<◌, List, [], ◌∷◌, ◌++◌, slice_get, Option, Some, None}
use Rattle.iom_registers.specs.Queues.{fault_entries, fault_head, fault_tail}
use Rattle.iom_registers.specs.Table.{written}
use Rattle.iom_registers.specs.declared.registers.Registers.{Registers}
use Rattle.iom_fault_queue.specs.declared.entry.Entry.{Entry}
use Rattle.iom_fault_queue.specs.declared.entry.Entry.TheVariants as entry
use Rattle.iom_fault_queue.specs.declared.ring.Put.{Put}
use Rattle.iom_fault_queue.specs.declared.ring.Put.TheVariants.{Written, Overflow, Off}
use Rattle.iom_fault_queue.specs.Fields.{Fields}
use Rattle.iom_fault_queue.specs.Ring.{records_in, record_place}
use Rattle.iom_fault_queue.specs.Calls.{PutsRecord, TakesEntry}

-- what is done beside the queue: no frame of the ring changes, nor where the ring is, nor head and tail
pub record LeavesQueue (memory : List (List ℕ)) (r : Registers) (new : List (List ℕ)) (s : Registers) : Type 0 where
  pub frames : (index : ℕ) → index < fault_entries r → slice_get new (record_place r index / 4096) ≡ slice_get memory (record_place r index / 4096)
  pub base : s.fqb ≡ r.fqb
  pub head : fault_head s ≡ fault_head r
  pub tail : fault_tail s ≡ fault_tail r

-- one step: a put with its answer, a take with what it gave, or something beside the queue
pub data QueueStep : Type 0 where
  put : Fields → Put → QueueStep
  take : Option Entry → QueueStep
  beside : QueueStep

abbrev pub StepsQueue : List (List ℕ) → Registers → QueueStep → List (List ℕ) → Registers → Type 0
StepsQueue memory r (put f answer) new s = PutsRecord memory r f answer new s
StepsQueue memory r (take found) new s = (new ≡ memory) × TakesEntry {X = Registers} (λ x. x) written memory r found s
StepsQueue memory r beside new s = LeavesQueue memory r new s

-- steps one after the other
abbrev pub RunsQueue : List (List ℕ) → Registers → List QueueStep → List (List ℕ) → Registers → Type 0
RunsQueue memory r [] new s = (new ≡ memory) × (s ≡ r)
RunsQueue memory r (step ∷ steps) new s =
    (between : List (List ℕ)) × (q : Registers) × (StepsQueue memory r step between q × RunsQueue between q steps new s)

-- what the puts of these steps wrote, in their order
abbrev pub written_by : List QueueStep → List Entry
written_by [] = []
written_by (put f Written ∷ steps) = entry.Record f ∷ written_by steps
written_by (put f Overflow ∷ steps) = written_by steps
written_by (put f Off ∷ steps) = written_by steps
written_by (take found ∷ steps) = written_by steps
written_by (beside ∷ steps) = written_by steps

-- what the takes of these steps gave, in their order
abbrev pub taken_by : List QueueStep → List Entry
taken_by [] = []
taken_by (put f answer ∷ steps) = taken_by steps
taken_by (take (Some e) ∷ steps) = e ∷ taken_by steps
taken_by (take None ∷ steps) = taken_by steps
taken_by (beside ∷ steps) = taken_by steps

-- THE LAW: what was in the queue and what was written into it, in this order, is what was taken and what is in it now
abbrev pub ComeOutInOrder : Type 0
ComeOutInOrder =
    (steps : List QueueStep) (memory : List (List ℕ)) (r : Registers) (new : List (List ℕ)) (s : Registers)
    → RunsQueue memory r steps new s → records_in memory r ++ written_by steps ≡ taken_by steps ++ records_in new s

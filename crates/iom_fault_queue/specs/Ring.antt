-- The fault queue as a list: what stands between head and tail, read off memory and registers (IOMMU specification, section
-- 3.2, "Fault/Event-Queue (FQ)").
use Rattle.std.specs.Prelude.{◌≡◌, ℕ, zero, suc, ◌+◌, ◌-◌, ◌*◌, ◌/◌, ◌%◌, ◌==◌, Bool, nat_le, nat_lt, not, List, [], ◌∷◌, length, take, drop, slice_get, slice_set, Option, Some, None, if◌then◌else◌}
use Rattle.std.specs.Option.{option_map_or}
use Rattle.iom_base.specs.Bytes.{with_bytes}
use Rattle.iom_registers.specs.Queues.{fault_base, fault_entries, fault_head, fault_tail, next_index}
use Rattle.iom_registers.specs.declared.registers.Registers.{Registers}
use Rattle.iom_fault_queue.specs.declared.entry.Entry.{Entry}
use Rattle.iom_fault_queue.specs.declared.entry.Entry.TheVariants as entry
use Rattle.iom_fault_queue.specs.Fields.{Fields}
use Rattle.iom_fault_queue.specs.Grammar.{decoded_record, encoded_record}

-- where the place with an index is
abbrev pub record_place : Registers → ℕ → ℕ
record_place r index = fault_base r + 32 * index

-- what 32 bytes mean
abbrev pub meaning_of : Option Fields → Entry
meaning_of (Some f) = entry.Record f
meaning_of None = entry.Illegal

-- the record of what stands at a place, where it is one
abbrev pub record_of_entry : Entry → Option Fields
record_of_entry (entry.Record f) = Some f
record_of_entry entry.Illegal = None
record_of_entry entry.Outside = None

-- what stands in the 32 bytes at an address, a multiple of 32
unfoldable pub record_at : List (List ℕ) → ℕ → Entry
record_at memory address =
    option_map_or (λ frame. meaning_of (decoded_record (take 32 (drop (address % 4096) frame)))) (slice_get memory (address / 4096)) entry.Outside

-- so many entries from an index on, of a ring that begins at an address
abbrev pub records_from : List (List ℕ) → ℕ → ℕ → ℕ → ℕ → List Entry
records_from memory base size index zero = []
records_from memory base size index (suc more) = record_at memory (base + 32 * index) ∷ records_from memory base size (next_index size index) more

-- how many places there are from the head up to the tail
abbrev pub waiting : ℕ → ℕ → ℕ → ℕ
waiting size head tail = if nat_le head tail then tail - head else tail + size - head

-- THE LIST: what stands between head and tail, the oldest first
unfoldable pub records_in : List (List ℕ) → Registers → List Entry
records_in memory r =
    records_from memory (fault_base r) (fault_entries r) (fault_head r) (waiting (fault_entries r) (fault_head r) (fault_tail r))

-- a record's bytes are stored at an address, a multiple of 32: in the frame that is there, and they mean the record
pub record StoresRecord (memory : List (List ℕ)) (address : ℕ) (f : Fields) (new : List (List ℕ)) : Type 0 where
  pub frame : List ℕ
  pub found : slice_get memory (address / 4096) ≡ Some frame
  pub whole : length frame ≡ 4096
  pub stored : new ≡ slice_set memory (address / 4096) (with_bytes frame (address % 4096) (encoded_record f))
  pub meant : decoded_record (encoded_record f) ≡ Some f

-- the queue is full: the tail is one before the head
abbrev pub is_full : Registers → Bool
is_full r = next_index (fault_entries r) (fault_tail r) == fault_head r

-- the place at the tail isn't in memory
abbrev pub is_tail_outside : List (List ℕ) → Registers → Bool
is_tail_outside memory r = not (nat_lt (record_place r (fault_tail r) / 4096) (length memory))

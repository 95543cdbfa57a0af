-- The commands that wait between head and tail, read off memory and registers (IOMMU specification, section 3.1, "Command-Queue (CQ)").
use Rattle.std.specs.Prelude.{◌≡◌, ◌≢◌, ◌<◌, ◌⊎◌, ℕ, ◌+◌, ◌-◌, ◌*◌, ◌/◌, ◌%◌, zero, suc, nat_le, List, [], ◌∷◌, length, Option, Some, None, Result, Ok, Err, slice_get, if◌then◌else◌}
use Rattle.iom_phys_mem.specs.Words.{byte_at, word_at, with_word}
use Rattle.iom_registers.specs.declared.registers.Registers.{Registers}
use Rattle.iom_registers.specs.Queues.{command_base, command_entries, command_head, command_tail, next_index}
use Rattle.iom_command_queue.specs.declared.illegal.Illegal.{Illegal}
use Rattle.iom_command_queue.specs.declared.command.Command.{Command as Commanded}
use Rattle.iom_command_queue.specs.declared.entry.QueueEntry.{QueueEntry}
use Rattle.iom_command_queue.specs.declared.entry.QueueEntry.TheVariants.{Command, Illegal as IllegalBytes, Outside}
use Rattle.iom_command_queue.specs.Legal.{decoded}
use Rattle.iom_command_queue.specs.Encoded.{first_word, second_word}

abbrev pub decoded_entry : Result Commanded Illegal → QueueEntry
decoded_entry (Ok command) = Command command
decoded_entry (Err reason) = IllegalBytes reason

abbrev pub entry_by_words : Option ℕ → Option ℕ → QueueEntry
entry_by_words (Some first) (Some second) = decoded_entry (decoded first second)
entry_by_words (Some first) None = Outside
entry_by_words None second = Outside

-- what stands in the 16 bytes at the address
unfoldable pub entry_at : List (List ℕ) → ℕ → QueueEntry
entry_at memory address = entry_by_words (word_at 8 memory address) (word_at 8 memory (address + 8))

-- the address of the ring's entry with this index
abbrev pub place_of : Registers → ℕ → ℕ
place_of r index = command_base r + 16 * index

-- how many entries there are from an index up to another, over the ring's end
abbrev pub distance : ℕ → ℕ → ℕ → ℕ
distance size from to = if nat_le from to then to - from else to + size - from

-- how many commands wait
abbrev pub how_many : Registers → ℕ
how_many r = distance (command_entries r) (command_head r) (command_tail r)

-- so many entries from this index on, of a ring of this size at this address
abbrev pub entries_from : List (List ℕ) → ℕ → ℕ → ℕ → ℕ → List QueueEntry
entries_from memory base size index zero = []
entries_from memory base size index (suc more) = entry_at memory (base + 16 * index) ∷ entries_from memory base size (next_index size index) more

-- THE LIST: what stands between head and tail, the next one first
unfoldable pub commands_in : List (List ℕ) → Registers → List QueueEntry
commands_in memory r = entries_from memory (command_base r) (command_entries r) (command_head r) (how_many r)

-- what stands at the head
abbrev pub first_entry : List (List ℕ) → Registers → QueueEntry
first_entry memory r = entry_at memory (place_of r (command_head r))

-- this is the index of the entry at a place behind the head, over the ring's end
pub record IsIndexOf (r : Registers) (place index : ℕ) : Type 0 where
  pub within : index < command_entries r
  pub there : (command_head r + place ≡ index) ⊎ (command_head r + place ≡ index + command_entries r)

-- memory with the command's 16 bytes at the address
abbrev pub with_command : List (List ℕ) → ℕ → Commanded → List (List ℕ)
with_command memory address command = with_word 8 (with_word 8 memory address (first_word command)) (address + 8) (second_word command)

-- the command's 16 bytes are written at the address, and nothing else changes
pub record WritesCommand (old : List (List ℕ)) (address : ℕ) (command : Commanded) (new : List (List ℕ)) : Type 0 where
  pub there : entry_at new address ≡ Command command
  pub other_entries : (a : ℕ) → a % 16 ≡ 0 → a ≢ address → entry_at new a ≡ entry_at old a
  pub other_bytes : (a : ℕ) → a / 16 ≢ address / 16 → byte_at new a ≡ byte_at old a
  pub other_frames : (n : ℕ) → n ≢ address / 4096 → slice_get new n ≡ slice_get old n
  pub frames : length new ≡ length old
  pub whole : new ≡ with_command old address command

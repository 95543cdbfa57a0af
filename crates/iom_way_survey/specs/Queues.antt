-- The frames of the queues: those of commands that wait, of the words of fences among them, and of fault records.
use Rattle.std.specs.Prelude.{◌≡◌, ◌≤◌, ℕ, ◌+◌, ◌-◌, ◌*◌, ◌/◌, true, List, slice_get, Contains, Some}
use Rattle.iom_base.specs.Sizes.{page_size}
use Rattle.iom_command_queue.specs.declared.entry.QueueEntry.{QueueEntry}
use Rattle.iom_hardware_ways.specs.Formats.{command_in, stored_by}
use Rattle.iom_reach.specs.Scene.{Place}
use Rattle.iom_registers.specs.Queues.{fault_base, fault_entries, is_fault_queue_on}
use Rattle.iom_registers.specs.declared.registers.Registers.{Registers}

-- what stands there is a fence that stores its word in the frame
abbrev pub StoresWord : QueueEntry → ℕ → Type 0
StoresWord entry frame = stored_by entry ≡ Some frame

-- one of these places is in the frame
abbrev pub IsFrameAmong : List Place → ℕ → Type 0
IsFrameAmong places frame = (place : Place) × Contains places place × (frame ≡ place.frame)

-- at one of these places such a fence stands
abbrev pub IsWordAmong : List (List ℕ) → List Place → ℕ → Type 0
IsWordAmong memory places frame = (place : Place) × Contains places place × StoresWord (command_in (slice_get memory place.frame) place.offset) frame

-- the frame is one of the fault queue's, from that of its first place to that of its last
abbrev pub IsOfFaults : Registers → ℕ → Type 0
IsOfFaults r frame =
    (is_fault_queue_on r ≡ true) × ((fault_base r / page_size ≤ frame) × (frame ≤ (fault_base r + 32 * (fault_entries r - 1)) / page_size))

-- What can be foreseen of a fetch: whether it does something, or finds a command that waits as it did before (IOMMU specification, section 3.1,
-- "Command-Queue (CQ)").
use Rattle.std.specs.Prelude.{◌≡◌, ◌⊎◌, ℕ, Bool, true, false, not, ◌&&◌, List, Option, Some, None, is_some, if◌then◌else◌}
use Rattle.iom_registers.specs.Queues.{is_processing_commands}
use Rattle.iom_command_queue.specs.declared.command.Command.{Command}
use Rattle.iom_command_queue.specs.declared.command.Command.TheVariants.{IotinvalVma, IotinvalGvma, IofenceC, IodirInvalDdt, AtsInval}
use Rattle.iom_command_queue.specs.declared.entry.QueueEntry.{QueueEntry}
use Rattle.iom_command_queue.specs.declared.entry.QueueEntry.TheVariants as stands
use Rattle.iom_tlb.specs.declared.trans_cache.TransCache.{Ghosts as Cache}
use Rattle.iom_iommu.specs.declared.iommu.Iommu.{Iommu}
use Rattle.iom_iommu.specs.declared.fetched.Fetched.{Fetched}
use Rattle.iom_iommu.specs.declared.fetched.Fetched.TheVariants.{Empty}
use Rattle.iom_iommu.specs.Fetches.{FetchesCommand, head_entry, has_open, are_full, waits_with, counted_in, without_fence}
use Rattle.iom_iommu.specs.Parts.{registers_of, flights_of, fence_snapshot_of, waits_of, slots_of}

-- a fence waits as it did when it was fetched last: for requests, or for the accesses that it counted then
abbrev pub fence_waits_again : {C : Type 0} {c : Cache C} → Bool → Bool → Iommu C c → Bool
fence_waits_again pr pw iommu =
    if has_open (slots_of iommu) then waits_of iommu
    else (not (waits_of iommu) && (is_some (fence_snapshot_of iommu) && waits_with pr pw (flights_of iommu) (counted_in iommu)))

-- the command waits, and a fetch changes nothing
abbrev pub waits_again : {C : Type 0} {c : Cache C} → Command → Iommu C c → Bool
waits_again (IofenceC store wsi pr pw) iommu = fence_waits_again pr pw iommu
waits_again (AtsInval device range) iommu = not (waits_of iommu) && are_full (slots_of iommu)
waits_again (IotinvalVma gscid pscid page) iommu = false
waits_again (IotinvalGvma gscid page) iommu = false
waits_again (IodirInvalDdt device) iommu = false

-- by whether commands are processed, and what stands at the head
abbrev pub takes_effect : {C : Type 0} {c : Cache C} → Bool → Option QueueEntry → Iommu C c → Bool
takes_effect false entry iommu = false
takes_effect true None iommu = false
takes_effect true (Some stands.Outside) iommu = true
takes_effect true (Some (stands.Illegal reason)) iommu = true
takes_effect true (Some (stands.Command command)) iommu = not (waits_again command iommu)

-- A FETCH DOES SOMETHING: there is a command, and it is done, waits otherwise than before, or stops the processing
abbrev pub fetch_has_effect : {C : Type 0} {c : Cache C} → List (List ℕ) → Iommu C c → Bool
fetch_has_effect memory iommu = takes_effect (is_processing_commands (registers_of iommu)) (head_entry memory (registers_of iommu)) iommu

-- A fetch leaves memory as it is, and the IOMMU, but for a fence that is forgotten where no command waits.
abbrev pub FetchLeavesAll : {C : Type 0} {c : Cache C} → List (List ℕ) → Iommu C c → Type 0
FetchLeavesAll {C} {c} memory iommu =
    (answer : Fetched) (new_memory : List (List ℕ)) (new : Iommu C c) → FetchesCommand memory iommu answer new_memory new
    → (new_memory ≡ memory) × ((new ≡ iommu) ⊎ ((answer ≡ Empty) × (new ≡ without_fence iommu)))

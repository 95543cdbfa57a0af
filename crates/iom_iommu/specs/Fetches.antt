-- What a fetch does, by what stands at the head of the command queue, and a command by its own section (IOMMU specification, section 3.1, "Command-Queue (CQ)").
use Rattle.std.specs.Prelude.{◌≡◌, ◌≢◌, ◌⊎◌, ℕ, ◌==◌, Bool, true, false, not, ◌&&◌, ◌||◌, List, length, Option, Some, None, slice_get, if◌then◌else◌}
use Rattle.iom_base.specs.declared.access.AccessKind.{AccessKind}
use Rattle.iom_base.specs.declared.access.AccessKind.TheVariants.{Read, Write}
use Rattle.iom_phys_mem.specs.Words.{IsPlace, with_word}
use Rattle.iom_registers.specs.declared.registers.Registers.{Registers}
use Rattle.iom_registers.specs.Queues.{command_head, command_tail, is_processing_commands, with_command_done, with_fence_w_ip, with_cqmf, with_cmd_ill}
use Rattle.iom_command_queue.specs.declared.command.Command.{Command}
use Rattle.iom_command_queue.specs.declared.command.Command.TheVariants.{IotinvalVma, IotinvalGvma, IofenceC, IodirInvalDdt, AtsInval}
use Rattle.iom_command_queue.specs.declared.command.FenceStore.{FenceStore}
use Rattle.iom_command_queue.specs.declared.entry.QueueEntry.{QueueEntry}
use Rattle.iom_command_queue.specs.declared.entry.QueueEntry.TheVariants as stands
use Rattle.iom_command_queue.specs.OpenSlots.{OpenSlots, with_next}
use Rattle.iom_command_queue.specs.Waiting.{commands_in}
use Rattle.iom_device_dir.specs.Contents.{DropsCovered}
use Rattle.iom_inflight.specs.Flights.{Flights, are_drained}
use Rattle.iom_tlb.specs.declared.cover.Cover.{Cover}
use Rattle.iom_tlb.specs.declared.trans_cache.TransCache.{Ghosts as Cache}
use Rattle.iom_tlb.specs.Content.{DropsWhere}
use Rattle.iom_tlb.specs.Covers.{are_covering}
use Rattle.iom_tlb.specs.Invalidations.{vma_covers, gvma_covers}
use Rattle.iom_iommu.specs.declared.iommu.Iommu.{Iommu}
use Rattle.iom_iommu.specs.declared.fetched.Fetched.{Fetched}
use Rattle.iom_iommu.specs.declared.fetched.Fetched.TheVariants.{Did, Waiting, Empty, Stopped}
use Rattle.iom_iommu.specs.declared.front.Front.{Front}
use Rattle.iom_iommu.specs.declared.front.Front.TheVariants as front
use Rattle.iom_iommu.specs.Cached.{AreTranslationsIn}
use Rattle.iom_iommu.specs.Parts.{registers_of, contexts_of, translations_of, flights_of, fence_snapshot_of, slots_of}

-- what stands at the head: the first of the commands that wait, None where none waits
abbrev pub head_entry : List (List ℕ) → Registers → Option QueueEntry
head_entry memory r = slice_get (commands_in memory r) 0

-- nothing is kept of a fence that stood at the head
abbrev pub without_fence : {C : Type 0} {c : Cache C} → Iommu C c → Iommu C c
without_fence iommu = record iommu { fence_snapshot = None; fence_waits = false }

-- the command at the head is done: the head goes on to the next, which counts anew
abbrev pub after_command : {C : Type 0} {c : Cache C} → Iommu C c → Iommu C c
after_command iommu = record (without_fence iommu) { registers = with_command_done (registers_of iommu) }

-- IOTINVAL.VMA and IOTINVAL.GVMA (section 3.1.1, "IOMMU Page-Table cache invalidation commands"): the cached translations that it covers go, and no others
pub record InvalidatesTranslations {C : Type 0} {c : Cache C} (covers : List Cover) (old new : Iommu C c) : Type 0 where
  pub dropped : DropsWhere (are_covering covers) (translations_of old) (translations_of new)
  pub cached : AreTranslationsIn old.frames (translations_of new)
  pub rest : new ≡ record (after_command old) { translations = new.translations; cached = cached }

-- IODIR.INVAL_DDT (section 3.1.3, "IOMMU Directory cache invalidation commands"): which contexts it names, that of the device with DV, or all
abbrev pub covers_device : Option ℕ → ℕ → Bool
covers_device None id = true
covers_device (Some device) id = id == device

-- the cached contexts that it names go, and no others
pub record InvalidatesContexts {C : Type 0} {c : Cache C} (device : Option ℕ) (old new : Iommu C c) : Type 0 where
  pub dropped : DropsCovered (contexts_of old) (covers_device device) (contexts_of new)
  pub rest : new ≡ record (after_command old) { contexts = new.contexts }

-- IOFENCE.C (section 3.1.2, "IOMMU Command-queue Fence commands"): a fence waits until no invalidation request is open; then, with PR or PW,
-- until the accesses of that kind are made that were accepted before its first fetch that found none open.

-- how many accesses were accepted before: the fence counted them at that fetch, or it counts them now
abbrev pub accepted_before : Option ℕ → ℕ → ℕ
accepted_before None so_far = so_far
accepted_before (Some counted) so_far = counted

-- the same of the fence at the head
abbrev pub counted_in : {C : Type 0} {c : Cache C} → Iommu C c → ℕ
counted_in iommu = accepted_before (fence_snapshot_of iommu) (flights_of iommu).so_far

-- it has counted them
abbrev pub counting : {C : Type 0} {c : Cache C} → Iommu C c → Iommu C c
counting iommu = record iommu { fence_snapshot = Some (counted_in iommu); fence_waits = false }

-- whether an invalidation request is open
abbrev pub has_open : OpenSlots → Bool
has_open slots = not (length slots.open_slots == 0)

-- whether one of the first so many accesses, of the kind, isn't made
abbrev pub are_waited_for : Flights → ℕ → AccessKind → Bool
are_waited_for flights before kind = not (are_drained flights before kind)

-- whether a fence with PR and PW has to wait for accesses, where so many were accepted before it
abbrev pub waits_with : Bool → Bool → Flights → ℕ → Bool
waits_with pr pw flights before = (pr && are_waited_for flights before Read) || (pw && are_waited_for flights before Write)

-- there is a place in memory for what is to be stored
abbrev pub IsStorable : List (List ℕ) → Option FenceStore → Type 0
IsStorable memory None = Unit {0}
IsStorable memory (Some store) = IsPlace 4 memory store.address

-- memory with it: DATA as 4 bytes at ADDR
abbrev pub with_store : List (List ℕ) → Option FenceStore → List (List ℕ)
with_store memory None = memory
with_store memory (Some store) = with_word 4 memory store.address store.data

-- it is stored, or there is no place for it and nothing changes
abbrev pub Stores : List (List ℕ) → Option FenceStore → Bool → List (List ℕ) → Type 0
Stores old store true new = IsStorable old store × (new ≡ with_store old store)
Stores old store false new = (¬ IsStorable old store) × (new ≡ old)

-- with WSI an interrupt is asked for
abbrev pub with_interrupt : {C : Type 0} {c : Cache C} → Bool → Iommu C c → Iommu C c
with_interrupt wsi iommu = record iommu { registers = if wsi then with_fence_w_ip (registers_of iommu) else registers_of iommu }

-- a fence that waits no more stores its word and is done; where there is no place for the word, cqmf is set
abbrev pub EndsFence : {C : Type 0} {c : Cache C} → Option FenceStore → Bool → Bool → Bool → List (List ℕ) → Iommu C c → Fetched → List (List ℕ) → Iommu C c → Type 0
EndsFence store wsi pr pw memory old answer new_memory new =
    ((answer ≡ Did (IofenceC store wsi pr pw)) × Stores memory store true new_memory × (new ≡ with_interrupt wsi (after_command old)))
    ⊎ ((answer ≡ Stopped) × Stores memory store false new_memory × (new ≡ record (counting old) { registers = with_cqmf (registers_of old) }))

-- by whether it waits for requests, and for accesses
abbrev pub FencesBy : {C : Type 0} {c : Cache C} → Bool → Bool → Option FenceStore → Bool → Bool → Bool → List (List ℕ) → Iommu C c → Fetched → List (List ℕ) → Iommu C c → Type 0
FencesBy true accesses store wsi pr pw memory old answer new_memory new = (answer ≡ Waiting) × (new_memory ≡ memory) × (new ≡ record old { fence_waits = true })
FencesBy false true store wsi pr pw memory old answer new_memory new = (answer ≡ Waiting) × (new_memory ≡ memory) × (new ≡ counting old)
FencesBy false false store wsi pr pw memory old answer new_memory new = EndsFence store wsi pr pw memory old answer new_memory new

abbrev pub Fences : {C : Type 0} {c : Cache C} → Option FenceStore → Bool → Bool → Bool → List (List ℕ) → Iommu C c → Fetched → List (List ℕ) → Iommu C c → Type 0
Fences store wsi pr pw memory old answer new_memory new =
    FencesBy (has_open (slots_of old)) (waits_with pr pw (flights_of old) (counted_in old)) store wsi pr pw memory old answer new_memory new

-- ATS.INVAL (section 3.1.4, "IOMMU Address-translation services (ATS) commands"): it waits while 32 requests are open, and else opens one for its device,
-- with the number after the last
abbrev pub OpensRequest : {C : Type 0} {c : Cache C} → Bool → ℕ → Iommu C c → Bool → Iommu C c → Type 0
OpensRequest full device old true new = (full ≡ false) × (new ≡ record (after_command old) { slots = with_next (slots_of old) device })
OpensRequest full device old false new = (full ≡ true) × (new ≡ record old { fence_waits = false })

-- whether 32 are open
abbrev pub are_full : OpenSlots → Bool
are_full slots = length slots.open_slots == 32

-- A COMMAND is taken from the head: it is done, or waits, or stops the processing
abbrev pub ExecutesCommand : {C : Type 0} {c : Cache C} → Command → List (List ℕ) → Iommu C c → Fetched → List (List ℕ) → Iommu C c → Type 0
ExecutesCommand (IotinvalVma gscid pscid page) memory old answer new_memory new =
    (answer ≡ Did (IotinvalVma gscid pscid page)) × (new_memory ≡ memory) × InvalidatesTranslations (vma_covers gscid pscid page) old new
ExecutesCommand (IotinvalGvma gscid page) memory old answer new_memory new =
    (answer ≡ Did (IotinvalGvma gscid page)) × (new_memory ≡ memory) × InvalidatesTranslations (gvma_covers gscid page) old new
ExecutesCommand (IofenceC store wsi pr pw) memory old answer new_memory new = Fences store wsi pr pw memory old answer new_memory new
ExecutesCommand (IodirInvalDdt device) memory old answer new_memory new =
    (answer ≡ Did (IodirInvalDdt device)) × (new_memory ≡ memory) × InvalidatesContexts device old new
ExecutesCommand (AtsInval device range) memory old answer new_memory new =
    (opens : Bool) × (answer ≡ (if opens then Did (AtsInval device range) else Waiting)) × (new_memory ≡ memory) × OpensRequest (are_full (slots_of old)) device old opens new

-- by whether commands are processed, and what stands at the head. What can't be loaded sets cqmf, what is no command cmd_ill
abbrev pub FetchesFrom : {C : Type 0} {c : Cache C} → Bool → Option QueueEntry → List (List ℕ) → Iommu C c → Fetched → List (List ℕ) → Iommu C c → Type 0
FetchesFrom false entry memory old answer new_memory new = (answer ≡ Stopped) × (new_memory ≡ memory) × (new ≡ old)
FetchesFrom true None memory old answer new_memory new = (answer ≡ Empty) × (new_memory ≡ memory) × (new ≡ without_fence old)
FetchesFrom true (Some stands.Outside) memory old answer new_memory new =
    (answer ≡ Stopped) × (new_memory ≡ memory) × (new ≡ record (without_fence old) { registers = with_cqmf (registers_of old) })
FetchesFrom true (Some (stands.Illegal reason)) memory old answer new_memory new =
    (answer ≡ Stopped) × (new_memory ≡ memory) × (new ≡ record (without_fence old) { registers = with_cmd_ill (registers_of old) })
FetchesFrom true (Some (stands.Command command)) memory old answer new_memory new = ExecutesCommand command memory old answer new_memory new

-- THE RELATION of a fetch: memory and IOMMU before, the answer, memory and IOMMU after
abbrev pub FetchesCommand : {C : Type 0} {c : Cache C} → List (List ℕ) → Iommu C c → Fetched → List (List ℕ) → Iommu C c → Type 0
FetchesCommand memory old answer new_memory new =
    FetchesFrom (is_processing_commands (registers_of old)) (head_entry memory (registers_of old)) memory old answer new_memory new

-- commands are processed, and one waits
pub record IsAtCommand {C : Type 0} {c : Cache C} (iommu : Iommu C c) : Type 0 where
  pub processing : is_processing_commands (registers_of iommu) ≡ true
  pub waits : command_head (registers_of iommu) ≢ command_tail (registers_of iommu)

-- WHAT A LOOK AT THE FRONT finds and leaves: of a queue that is stopped or empty all that a fetch does, before a command nothing
abbrev pub LooksAhead : {C : Type 0} {c : Cache C} → Iommu C c → Front → Iommu C c → Type 0
LooksAhead old front.Stopped new = (is_processing_commands (registers_of old) ≡ false) × (new ≡ old)
LooksAhead old front.Empty new =
    (is_processing_commands (registers_of old) ≡ true) × (command_head (registers_of old) ≡ command_tail (registers_of old)) × (new ≡ without_fence old)
LooksAhead old front.Command new = IsAtCommand old × (new ≡ old)

-- The same of a fetch by what it answers, and of a command effect by effect: what it waits for, what it stores, and which contexts, translations and
-- requests change. What a fetch does is said by `Fetches`; that it is this too is a law (`by_answer`).
use Rattle.std.specs.Prelude.{◌≡◌, ℕ, ◌/◌, ◌<◌, Bool, true, false, ◌||◌, List, Option, Some, None, if◌then◌else◌}
use Rattle.iom_base.specs.Sizes.{page_size}
use Rattle.iom_registers.specs.declared.registers.Registers.{Registers}
use Rattle.iom_registers.specs.Queues.{command_entries, is_processing_commands, with_command_done, with_fence_w_ip, with_cqmf, with_cmd_ill}
use Rattle.iom_command_queue.specs.declared.command.Command.{Command}
use Rattle.iom_command_queue.specs.declared.command.Command.TheVariants.{IotinvalVma, IotinvalGvma, IofenceC, IodirInvalDdt, AtsInval}
use Rattle.iom_command_queue.specs.declared.command.FenceStore.{FenceStore}
use Rattle.iom_command_queue.specs.declared.entry.QueueEntry.{QueueEntry}
use Rattle.iom_command_queue.specs.declared.entry.QueueEntry.TheVariants as stands
use Rattle.iom_command_queue.specs.OpenSlots.{OpenSlots, with_next}
use Rattle.iom_command_queue.specs.Waiting.{place_of}
use Rattle.iom_iommu.specs.declared.iommu.Iommu.{Iommu}
use Rattle.iom_iommu.specs.declared.fetched.Fetched.{Fetched}
use Rattle.iom_iommu.specs.declared.fetched.Fetched.TheVariants.{Did, Waiting, Empty, Stopped}
use Rattle.iom_device_dir.specs.declared.context.Context.{Context}
use Rattle.iom_device_dir.specs.Contents.{Content, IsSameContent, DropsCovered}
use Rattle.iom_inflight.specs.Flights.{Flights}
use Rattle.iom_tlb.specs.declared.trans_cache.TransCache.{Ghosts as Cache}
use Rattle.iom_tlb.specs.Content.{Translations, TranslationsUnchanged, DropsWhere}
use Rattle.iom_tlb.specs.Covers.{are_covering}
use Rattle.iom_tlb.specs.Invalidations.{covers_of}
use Rattle.iom_iommu.specs.Parts.{registers_of, contexts_of, translations_of, flights_of, fence_snapshot_of, waits_of, slots_of, frames_of}
use Rattle.iom_iommu.specs.Fetches.{head_entry, counted_in, has_open, are_full, waits_with, IsStorable, with_store, covers_device}

-- whether the command has to wait for accesses, where so many were accepted before it
abbrev pub waits_for_accesses : Command → Flights → ℕ → Bool
waits_for_accesses (IotinvalVma gscid pscid page) flights before = false
waits_for_accesses (IotinvalGvma gscid page) flights before = false
waits_for_accesses (IofenceC store wsi pr pw) flights before = waits_with pr pw flights before
waits_for_accesses (IodirInvalDdt device) flights before = false
waits_for_accesses (AtsInval device range) flights before = false

-- whether it has to wait for invalidation requests: a fence for each that is open, ATS.INVAL for one of 32
abbrev pub waits_for_slots : Command → OpenSlots → Bool
waits_for_slots (IotinvalVma gscid pscid page) slots = false
waits_for_slots (IotinvalGvma gscid page) slots = false
waits_for_slots (IofenceC store wsi pr pw) slots = has_open slots
waits_for_slots (IodirInvalDdt device) slots = false
waits_for_slots (AtsInval device range) slots = are_full slots

-- whether it is a fence that has to wait for them: then a timeout may give it up
abbrev pub is_waiting_fence : Command → OpenSlots → Bool
is_waiting_fence (IotinvalVma gscid pscid page) slots = false
is_waiting_fence (IotinvalGvma gscid page) slots = false
is_waiting_fence (IofenceC store wsi pr pw) slots = has_open slots
is_waiting_fence (IodirInvalDdt device) slots = false
is_waiting_fence (AtsInval device range) slots = false

-- whether it has to wait
abbrev pub must_wait : Command → Flights → ℕ → OpenSlots → Bool
must_wait command flights before slots = waits_for_slots command slots || waits_for_accesses command flights before

-- the same of a command at the head
abbrev pub is_held_back : {C : Type 0} {c : Cache C} → Command → Iommu C c → Bool
is_held_back command iommu = must_wait command (flights_of iommu) (counted_in iommu) (slots_of iommu)

-- the word that a command stores: that of a fence with AV
abbrev pub store_of : Command → Option FenceStore
store_of (IotinvalVma gscid pscid page) = None
store_of (IotinvalGvma gscid page) = None
store_of (IofenceC store wsi pr pw) = store
store_of (IodirInvalDdt device) = None
store_of (AtsInval device range) = None

-- whether it sets fence_w_ip when it is done: a fence with WSI
abbrev pub asks_for_interrupt : Command → Bool
asks_for_interrupt (IotinvalVma gscid pscid page) = false
asks_for_interrupt (IotinvalGvma gscid page) = false
asks_for_interrupt (IofenceC store wsi pr pw) = wsi
asks_for_interrupt (IodirInvalDdt device) = false
asks_for_interrupt (AtsInval device range) = false

-- the frame in which it lies
abbrev pub IsStoredIn : Option FenceStore → ℕ → Type 0
IsStoredIn None n = ⊥
IsStoredIn (Some store) n = n ≡ store.address / page_size

-- the registers once the command at the head is done
abbrev pub with_done : Registers → Command → Registers
with_done r command = if asks_for_interrupt command then with_fence_w_ip (with_command_done r) else with_command_done r

-- what is stored lies in no frame of the ring
abbrev pub IsOffRing : Registers → Option FenceStore → Type 0
IsOffRing r store = (j : ℕ) → j < command_entries r → ¬ IsStoredIn store (place_of r j / page_size)

-- the IOMMU after a fetch that did no command: with these registers, and with this count of the fence at the head
abbrev pub after_none : {C : Type 0} {c : Cache C} → Iommu C c → Registers → Option ℕ → Iommu C c
after_none iommu registers fence_snapshot = record iommu { registers = registers; fence_snapshot = fence_snapshot }

-- a command stands at the head that has to wait
abbrev pub WaitsAt : {C : Type 0} {c : Cache C} → Option QueueEntry → Iommu C c → Type 0
WaitsAt None iommu = ⊥
WaitsAt (Some stands.Outside) iommu = ⊥
WaitsAt (Some (stands.Illegal reason)) iommu = ⊥
WaitsAt (Some (stands.Command command)) iommu = is_held_back command iommu ≡ true

-- what it counted once it waits: nothing yet where it waits for invalidation requests
abbrev pub fence_snapshot_at : {C : Type 0} {c : Cache C} → Option QueueEntry → Iommu C c → Option ℕ
fence_snapshot_at None iommu = fence_snapshot_of iommu
fence_snapshot_at (Some stands.Outside) iommu = fence_snapshot_of iommu
fence_snapshot_at (Some (stands.Illegal reason)) iommu = fence_snapshot_of iommu
fence_snapshot_at (Some (stands.Command command)) iommu = if waits_for_slots command (slots_of iommu) then fence_snapshot_of iommu else Some (counted_in iommu)

-- whether a fence that stands at the head waits for invalidation requests, once it was fetched
abbrev pub waits_at : {C : Type 0} {c : Cache C} → Option QueueEntry → Iommu C c → Bool
waits_at None iommu = waits_of iommu
waits_at (Some stands.Outside) iommu = waits_of iommu
waits_at (Some (stands.Illegal reason)) iommu = waits_of iommu
waits_at (Some (stands.Command command)) iommu = is_waiting_fence command (slots_of iommu)

-- the IOMMU after a fetch of a command that it didn't do: with these registers, and with this count of the fence at the head, which waits so
abbrev pub after_fetched : {C : Type 0} {c : Cache C} → Iommu C c → Registers → Option ℕ → Bool → Iommu C c
after_fetched iommu registers fence_snapshot waits = record (after_none iommu registers fence_snapshot) { fence_waits = waits }

-- the IOMMU after a fetch that found no command at the head: with these registers, and nothing is kept of a fence that stood there
abbrev pub after_nothing : {C : Type 0} {c : Cache C} → Iommu C c → Registers → Iommu C c
after_nothing iommu registers = after_fetched iommu registers None false

-- what stands at the head stops processing, and which bit says why: cqmf where it can't be loaded or its word not be stored,
-- cmd_ill where it is no command. A fence whose word can't be stored has been fetched
abbrev pub StopsAtEntry : {C : Type 0} {c : Cache C} → List (List ℕ) → Option QueueEntry → Iommu C c → Iommu C c → Type 0
StopsAtEntry memory None old new = ⊥
StopsAtEntry memory (Some stands.Outside) old new = new ≡ after_nothing old (with_cqmf (registers_of old))
StopsAtEntry memory (Some (stands.Illegal reason)) old new = new ≡ after_nothing old (with_cmd_ill (registers_of old))
StopsAtEntry memory (Some (stands.Command command)) old new =
    (is_held_back command old ≡ false) × (¬ IsStorable memory (store_of command))
    × (new ≡ after_fetched old (with_cqmf (registers_of old)) (Some (counted_in old)) (is_waiting_fence command (slots_of old)))

-- the cached contexts once the command is done: IODIR.INVAL_DDT drops those that it names, and no other command drops any
abbrev pub DropsContexts : Command → Content ℕ Context → Content ℕ Context → Type 0
DropsContexts (IotinvalVma gscid pscid page) old new = IsSameContent old new
DropsContexts (IotinvalGvma gscid page) old new = IsSameContent old new
DropsContexts (IofenceC store wsi pr pw) old new = IsSameContent old new
DropsContexts (IodirInvalDdt device) old new = DropsCovered old (covers_device device) new
DropsContexts (AtsInval device range) old new = IsSameContent old new

-- the cached translations once the command is done: those that IOTINVAL covers are gone, and no others
abbrev pub DropsTranslations : Command → Translations → Translations → Type 0
DropsTranslations command old new = DropsWhere (are_covering (covers_of command)) old new

-- the open requests once it is done: ATS.INVAL opens one
abbrev pub slots_by : Command → OpenSlots → OpenSlots
slots_by (IotinvalVma gscid pscid page) slots = slots
slots_by (IotinvalGvma gscid page) slots = slots
slots_by (IofenceC store wsi pr pw) slots = slots
slots_by (IodirInvalDdt device) slots = slots
slots_by (AtsInval device range) slots = with_next slots device

-- what is left once the command at the head is done: registers, caches, open requests, and all else as it was. The next command counts anew
pub record IsLeft {C : Type 0} {c : Cache C} (command : Command) (old new : Iommu C c) : Type 0 where
  pub registers : registers_of new ≡ with_done (registers_of old) command
  pub contexts : DropsContexts command (contexts_of old) (contexts_of new)
  pub translations : DropsTranslations command (translations_of old) (translations_of new)
  pub fence_snapshot : fence_snapshot_of new ≡ None
  pub waits : waits_of new ≡ false
  pub slots : slots_of new ≡ slots_by command (slots_of old)
  pub flights : flights_of new ≡ flights_of old
  pub frames : frames_of new ≡ frames_of old

-- processing had stopped before and stays so, or it stops at what stands at the head
abbrev pub StopsFetching : {C : Type 0} {c : Cache C} → Bool → List (List ℕ) → Iommu C c → Iommu C c → Type 0
StopsFetching false memory old new = new ≡ old
StopsFetching true memory old new = StopsAtEntry memory (head_entry memory (registers_of old)) old new

-- A FETCH, by its answer: memory and IOMMU before, the answer, memory and IOMMU after
abbrev pub FetchesByAnswer : {C : Type 0} {c : Cache C} → List (List ℕ) → Iommu C c → Fetched → List (List ℕ) → Iommu C c → Type 0
FetchesByAnswer memory iommu (Did command) new_memory new_iommu =
    (is_processing_commands (registers_of iommu) ≡ true)
    × (head_entry memory (registers_of iommu) ≡ Some (stands.Command command))
    × (is_held_back command iommu ≡ false)
    × IsStorable memory (store_of command)
    × (new_memory ≡ with_store memory (store_of command))
    × IsLeft command iommu new_iommu
FetchesByAnswer memory iommu Waiting new_memory new_iommu =
    (is_processing_commands (registers_of iommu) ≡ true)
    × WaitsAt (head_entry memory (registers_of iommu)) iommu
    × (new_memory ≡ memory)
    × (new_iommu ≡ after_fetched iommu (registers_of iommu) (fence_snapshot_at (head_entry memory (registers_of iommu)) iommu)
    (waits_at (head_entry memory (registers_of iommu)) iommu))
FetchesByAnswer memory iommu Empty new_memory new_iommu =
    (is_processing_commands (registers_of iommu) ≡ true)
    × (head_entry memory (registers_of iommu) ≡ None)
    × (new_memory ≡ memory) × (new_iommu ≡ after_nothing iommu (registers_of iommu))
FetchesByAnswer memory iommu Stopped new_memory new_iommu =
    StopsFetching (is_processing_commands (registers_of iommu)) memory iommu new_iommu
    × (new_memory ≡ memory)

-- two that have the same registers, the same contexts and translations cached, the same accesses in flight, of which the fence at the head
-- counted as many and waits so, the same open requests, and as many frames
pub record AreAlike {C : Type 0} {c : Cache C} (one other : Iommu C c) : Type 0 where
  pub registers : registers_of one ≡ registers_of other
  pub contexts : IsSameContent (contexts_of one) (contexts_of other)
  pub translations : TranslationsUnchanged (translations_of one) (translations_of other)
  pub fence_snapshot : fence_snapshot_of one ≡ fence_snapshot_of other
  pub waits : waits_of one ≡ waits_of other
  pub slots : slots_of one ≡ slots_of other
  pub flights : flights_of one ≡ flights_of other
  pub frames : frames_of one ≡ frames_of other

-- the registers of the fault queue are as they were
abbrev pub LeavesFaultQueue : Registers → Registers → Type 0
LeavesFaultQueue old new = (new.fqb ≡ old.fqb) × (new.fqh ≡ old.fqh) × (new.fqt ≡ old.fqt) × (new.fqcsr ≡ old.fqcsr)

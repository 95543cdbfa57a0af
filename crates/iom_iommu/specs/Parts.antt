-- The parts of the IOMMU, and what a write of software to its registers leaves of it (IOMMU specification, chapter 5).
use Rattle.std.specs.Prelude.{◌≡◌, ℕ, Bool, false, List, Option, None, [], if◌then◌else◌}
use Rattle.iom_registers.specs.declared.register.Register.{Register}
use Rattle.iom_registers.specs.declared.registers.Registers.{Registers}
use Rattle.iom_registers.specs.declared.mmio.Mmio.{Ghosts}
use Rattle.iom_registers.specs.Table.{written, at_power_on}
use Rattle.iom_registers.specs.Queues.{is_command_queue_on}
use Rattle.iom_command_queue.specs.OpenSlots.{OpenSlots, no_slots}
use Rattle.iom_device_dir.specs.declared.cache.DirCache.{DirCache}
use Rattle.iom_device_dir.specs.declared.context.Context.{Context}
use Rattle.iom_device_dir.specs.Cached.{cached_contexts, contexts_in_order}
use Rattle.iom_device_dir.specs.Contents.{Content, IsEmptyContent}
use Rattle.iom_inflight.specs.Flights.{Flights, no_flights, IsAddedTo}
use Rattle.iom_inflight.specs.Calls.{Adds}
use Rattle.iom_tlb.specs.declared.trans_cache.TransCache.{Ghosts as Cache}
use Rattle.iom_tlb.specs.Content.{Translations, HasNothing}
use Rattle.iom_iommu.specs.declared.iommu.Iommu.{Iommu}

abbrev pub registers_of : {C : Type 0} {c : Cache C} → Iommu C c → Registers
registers_of iommu = iommu.registers

-- the contexts that are cached, by device id
abbrev pub contexts_of : {C : Type 0} {c : Cache C} → Iommu C c → Content ℕ Context
contexts_of iommu = cached_contexts iommu.contexts

-- the same in the order of use: that which was looked at or kept last stands first
abbrev pub context_order_of : {C : Type 0} {c : Cache C} → Iommu C c → List (ℕ × Context)
context_order_of iommu = contexts_in_order iommu.contexts

-- the cache of translations, with all that it has beside its content
abbrev pub translation_cache_of : {C : Type 0} {c : Cache C} → Iommu C c → C
translation_cache_of iommu = iommu.translations

-- the translations that are cached, by page of an address space
abbrev pub translations_of : {C : Type 0} {c : Cache C} → Iommu C c → Translations
translations_of {c = c} iommu = c.content iommu.translations

-- the accesses in flight
abbrev pub flights_of : {C : Type 0} {c : Cache C} → Iommu C c → Flights
flights_of iommu = iommu.in_flight

-- how many accesses were accepted when the fence at the head was first fetched with no slot open, if it was
abbrev pub fence_snapshot_of : {C : Type 0} {c : Cache C} → Iommu C c → Option ℕ
fence_snapshot_of iommu = iommu.fence_snapshot

-- whether the fence at the head was fetched, and told to wait until no slot is open
abbrev pub waits_of : {C : Type 0} {c : Cache C} → Iommu C c → Bool
waits_of iommu = iommu.fence_waits

-- the invalidation requests that devices have still to complete, and the last number that one was given
abbrev pub slots_of : {C : Type 0} {c : Cache C} → Iommu C c → OpenSlots
slots_of iommu = iommu.slots

-- how many frames the memory has that its calls are lent
abbrev pub frames_of : {C : Type 0} {c : Cache C} → Iommu C c → ℕ
frames_of iommu = iommu.frames

-- the IOMMU without the facts that tie its parts to one another: by these it is said what a call leaves as it was
pub record IommuParts (C : Type 0) : Type 0 where
  pub registers : Registers
  pub contexts : DirCache
  pub translations : C
  pub flights : Flights
  pub fence_snapshot : Option ℕ
  pub waits : Bool
  pub slots : OpenSlots
  pub frames : ℕ

abbrev pub iommu_parts : {C : Type 0} {c : Cache C} → Iommu C c → IommuParts C
iommu_parts iommu = record {
  registers = iommu.registers;
  contexts = iommu.contexts;
  translations = iommu.translations;
  flights = iommu.in_flight;
  fence_snapshot = iommu.fence_snapshot;
  waits = iommu.fence_waits;
  slots = iommu.slots;
  frames = iommu.frames;
}

-- the device was added
abbrev pub IsAdded : {C : Type 0} {c : Cache C} → Iommu C c → ℕ → Type 0
IsAdded iommu id = IsAddedTo (flights_of iommu) id

-- at power-on, beside a memory of so many frames
pub record IsAtPowerOn {C : Type 0} {c : Cache C} (count : ℕ) (iommu : Iommu C c) : Type 0 where
  pub registers : registers_of iommu ≡ at_power_on
  pub contexts : IsEmptyContent (contexts_of iommu)
  pub context_order : context_order_of iommu ≡ []
  pub translations : HasNothing (translations_of iommu)
  pub flights : flights_of iommu ≡ no_flights
  pub fence_snapshot : fence_snapshot_of iommu ≡ None
  pub waits : waits_of iommu ≡ false
  pub slots : slots_of iommu ≡ no_slots
  pub frames : frames_of iommu ≡ count

-- a device is added, unless it is there or 16 are
pub record AddsDevice {C : Type 0} {c : Cache C} (old : Iommu C c) (id : ℕ) (added : Bool) (new : Iommu C c) : Type 0 where
  pub flights : Adds (flights_of old) id added (flights_of new)
  pub rest : iommu_parts new ≡ record (iommu_parts old) { flights = new.in_flight }

-- what the fence at the head counted is given up where the command queue is off
abbrev pub fence_snapshot_after : Registers → Option ℕ → Option ℕ
fence_snapshot_after registers fence_snapshot = if is_command_queue_on registers then fence_snapshot else None

-- and it waits for no request
abbrev pub waits_after : Registers → Bool → Bool
waits_after registers waits = if is_command_queue_on registers then waits else false

-- and no request is open any more; the numbers go on
abbrev pub slots_after : Registers → OpenSlots → OpenSlots
slots_after registers slots = if is_command_queue_on registers then slots else record slots { open_slots = [] }

-- the whole of it after a write of a register
abbrev pub after_write : {C : Type 0} {c : Cache C} → Iommu C c → Register → ℕ → Iommu C c
after_write iommu register value =
    let registers = written iommu.registers register value in
    record iommu {
      registers = registers;
      fence_snapshot = fence_snapshot_after registers iommu.fence_snapshot;
      fence_waits = waits_after registers iommu.fence_waits;
      slots = slots_after registers iommu.slots;
    }

-- the IOMMU as what has registers: what `impl Mmio for Iommu` says
abbrev pub mmio : {C : Type 0} {c : Cache C} → Ghosts (Iommu C c)
mmio = record { registers = registers_of; after = after_write }

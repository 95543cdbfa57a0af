-- What is reached along pointers to tables that hardware caches, and by leaves of 64 KiB where walks know them; and what a look at these adds to a survey.
use Rattle.std.specs.Prelude.{◌≡◌, ◌⊎◌, ℕ, ◌<◌, ◌≤◌, ◌==◌, suc, Bool, true, List, length, slice_get, Option, None, Some}
use Rattle.std.specs.List.{find}
use Rattle.iom_base.specs.declared.access.AccessKind.{AccessKind}
use Rattle.iom_base.specs.declared.device_kind.DeviceKind.{DeviceKind}
use Rattle.iom_board.specs.BoardParts.{BoardParts}
use Rattle.iom_device.specs.Caches.{kind_in}
use Rattle.iom_device.specs.declared.device.Device.{Device}
use Rattle.iom_device_dir.specs.declared.context.Context.{Context as DeviceContext}
use Rattle.iom_napot.specs.Entries.{entries_in}
use Rattle.iom_pointers.specs.declared.pointer.Pointer.{Pointer}
use Rattle.iom_reach.specs.Scene.{HardwareScene, HasDevice}
use Rattle.iom_table_survey.specs.Levels.{IsTableIn, IsMappedIn}
use Rattle.iom_table_survey.specs.Reaches.{AddsReach}
use Rattle.iom_table_survey.specs.Rows.{GrowsBy, IsInRun}
use Rattle.iom_tlb.specs.declared.space.Space.{Space}
use Rattle.iom_way_survey.specs.Found.{cached_found, stored_found, space_of_context, FoundTableIn, FoundLeafIn}
use Rattle.iom_way_survey.specs.declared.findings.DeviceReach.{DeviceReach}
use Rattle.iom_way_survey.specs.declared.findings.Survey.{Survey}

-- WHO REACHES BY A POINTER

-- the context that was found has this address space
abbrev pub HasSpace : Option DeviceContext → Space → Type 0
HasSpace None own = ⊥
HasSpace (Some context) own = space_of_context context ≡ Some own

-- a device is plugged in with the id
abbrev pub IsPlugged : BoardParts → ℕ → Type 0
IsPlugged parts id = (kind : DeviceKind) × (kind_in parts.devices id ≡ Some kind)

-- a request of it may find a context that has the space: one that is cached, or stored
abbrev pub SharesSpace : BoardParts → Space → ℕ → Type 0
SharesSpace parts own id = IsPlugged parts id × (HasSpace (cached_found parts id) own ⊎ HasSpace (stored_found parts id) own)

-- WHAT IS REACHED BY IT, where walks know leaves of 64 KiB, or don't

-- the frame is one of a table from the pointer's on
abbrev pub IsTableAlong : Bool → List (List ℕ) → Pointer → ℕ → Type 0
IsTableAlong napot memory pointer frame = IsTableIn (entries_in napot memory) (IsInRun pointer.table.number 1) (suc pointer.level) frame

-- such a table maps it, for this kind of access
abbrev pub IsMappedAlong : Bool → List (List ℕ) → Pointer → AccessKind → ℕ → Type 0
IsMappedAlong napot memory pointer kind frame = IsMappedIn (entries_in napot memory) (IsInRun pointer.table.number 1) (suc pointer.level) kind frame

-- so the device with the id reaches it
abbrev pub IsReachedAlong : Bool → BoardParts → Pointer → ℕ → AccessKind → ℕ → Type 0
IsReachedAlong napot parts pointer id kind frame = IsMappedAlong napot parts.memory pointer kind frame × SharesSpace parts pointer.space id

-- both of one of these pointers
abbrev pub IsTableAlongSome : Bool → List (List ℕ) → List Pointer → ℕ → Type 0
IsTableAlongSome napot memory pointers frame =
    (k : ℕ) × (k < length pointers) × ((pointer : Pointer) × (slice_get pointers k ≡ Some pointer) × IsTableAlong napot memory pointer frame)

abbrev pub IsReachedAlongSome : Bool → BoardParts → List Pointer → ℕ → AccessKind → ℕ → Type 0
IsReachedAlongSome napot parts pointers id kind frame =
    (k : ℕ) × (k < length pointers) × ((pointer : Pointer) × (slice_get pointers k ≡ Some pointer) × IsReachedAlong napot parts pointer id kind frame)

-- WHAT IS REACHED FROM CONTEXTS, where walks know leaves of 64 KiB

-- a context was found, and its tables have the frame
abbrev pub IsTableFound : List (List ℕ) → Option DeviceContext → ℕ → Type 0
IsTableFound memory found frame = (own : Space) × FoundTableIn true memory own found frame

-- they map it, and the device with the id shares the address space of the context: what a walk finds there is cached for all devices of the space
abbrev pub IsReachedFound : BoardParts → Option DeviceContext → ℕ → AccessKind → ℕ → Type 0
IsReachedFound parts found id kind frame = (own : Space) × FoundLeafIn true parts.memory own found kind frame × SharesSpace parts own id

-- both of a context that a request of this device may find
abbrev pub IsTableOf : BoardParts → Device → ℕ → Type 0
IsTableOf parts finder frame = IsTableFound parts.memory (cached_found parts finder.id) frame ⊎ IsTableFound parts.memory (stored_found parts finder.id) frame

abbrev pub IsReachedOf : BoardParts → Device → ℕ → AccessKind → ℕ → Type 0
IsReachedOf parts finder id kind frame =
    IsReachedFound parts (cached_found parts finder.id) id kind frame ⊎ IsReachedFound parts (stored_found parts finder.id) id kind frame

-- of some device that is plugged in
abbrev pub IsTableOfSome : BoardParts → ℕ → Type 0
IsTableOfSome parts frame = (k : ℕ) × (k < length parts.devices) × ((finder : Device) × (slice_get parts.devices k ≡ Some finder) × IsTableOf parts finder frame)

abbrev pub IsReachedOfSome : BoardParts → ℕ → AccessKind → ℕ → Type 0
IsReachedOfSome parts id kind frame =
    (k : ℕ) × (k < length parts.devices) × ((finder : Device) × (slice_get parts.devices k ≡ Some finder) × IsReachedOf parts finder id kind frame)

-- WHAT IS REACHED BY EITHER

abbrev pub IsTableBeside : Bool → BoardParts → List Pointer → ℕ → Type 0
IsTableBeside napot parts pointers frame = ((napot ≡ true) × IsTableOfSome parts frame) ⊎ IsTableAlongSome napot parts.memory pointers frame

abbrev pub IsReachedBeside : Bool → BoardParts → List Pointer → ℕ → AccessKind → ℕ → Type 0
IsReachedBeside napot parts pointers id kind frame = ((napot ≡ true) × IsReachedOfSome parts id kind frame) ⊎ IsReachedAlongSome napot parts pointers id kind frame

-- ROWS OF DEVICES

-- the row has these frames too, and no other; it is still the row of its device
pub record RowGrows (old new : DeviceReach) (IsNew : AccessKind → ℕ → Type 0) : Type 0 where
  pub id : new.id ≡ old.id
  pub is_trusted : new.is_trusted ≡ old.is_trusted
  pub reach : AddsReach old.reach new.reach IsNew

-- so does each row by what is new of its device
pub record RowsGrow (old new : List DeviceReach) (IsNew : ℕ → AccessKind → ℕ → Type 0) : Type 0 where
  pub long : length new ≡ length old
  pub each : (k : ℕ) (before after : DeviceReach) → slice_get old k ≡ Some before → slice_get new k ≡ Some after → RowGrows before after (IsNew before.id)

-- each row before this place has grown, and no other
pub record RowsGrowBefore (place : ℕ) (old new : List DeviceReach) (IsNew : ℕ → AccessKind → ℕ → Type 0) : Type 0 where
  pub long : length new ≡ length old
  pub each : (k : ℕ) (before after : DeviceReach) → k < place → slice_get old k ≡ Some before → slice_get new k ≡ Some after → RowGrows before after (IsNew before.id)
  pub rest : (k : ℕ) (before after : DeviceReach) → place ≤ k → slice_get old k ≡ Some before → slice_get new k ≡ Some after → after ≡ before

-- WHAT A LOOK ALONG POINTERS ADDS to a survey
pub record LooksAlong (napot : Bool) (parts : BoardParts) (pointers : List Pointer) (old new : Survey) : Type 0 where
  pub devices : RowsGrow old.devices.items new.devices.items (IsReachedBeside napot parts pointers)
  pub read : GrowsBy old.read new.read (IsTableBeside napot parts pointers)
  pub stored : new.stored ≡ old.stored

-- each device that is plugged in has a row
abbrev pub HasRowOfEach : HardwareScene → List DeviceReach → Type 0
HasRowOfEach scene rows = (id : ℕ) → HasDevice scene id → (row : DeviceReach) × (find (λ (own : DeviceReach). own.id == id) rows ≡ Some row)

-- What the survey looks for, read off the parts of a hardware.
use Rattle.std.specs.Prelude.{◌≡◌, ◌⊎◌, ℕ, Bool, true, false, ◌&&◌, List, ◌<◌, length, slice_get, Option, None, Some, ⊤, if◌then◌else◌}
use Rattle.iom_base.specs.Sizes.{levels_of}
use Rattle.iom_base.specs.Rights.{allows}
use Rattle.iom_base.specs.declared.access.AccessKind.{AccessKind}
use Rattle.iom_device_dir.specs.Located.{located_by_mode}
use Rattle.iom_device_dir.specs.Paths.{fits_directory}
use Rattle.iom_device_dir.specs.declared.context.Context.{Context as DeviceContext}
use Rattle.iom_device_dir.specs.declared.stages.FirstStage.{FirstStage as First}
use Rattle.iom_device_dir.specs.declared.stages.FirstStage.TheVariants as first
use Rattle.iom_device_dir.specs.declared.stages.SecondStage.{SecondStage as Second}
use Rattle.iom_device_dir.specs.declared.stages.SecondStage.TheVariants as second
use Rattle.iom_ats_cache.specs.Cache.{Cache}
use Rattle.iom_ats_cache.specs.declared.entry.Entry.{Entry}
use Rattle.iom_base.specs.declared.device_kind.DeviceKind.{DeviceKind}
use Rattle.iom_base.specs.declared.device_kind.DeviceKind.TheVariants as kinds
use Rattle.iom_device.specs.Caches.{epoch_of}
use Rattle.iom_device.specs.declared.device.Device.{Device}
use Rattle.iom_fabric.specs.declared.fabric.OnLink.{OnLink}
use Rattle.iom_fabric.specs.declared.message.Message.{Message as Sent}
use Rattle.iom_fabric.specs.declared.message.Message.TheVariants as sent
use Rattle.iom_fabric.specs.declared.message.Translation.TheVariants as reply
use Rattle.iom_board.specs.BoardParts.{BoardParts}
use Rattle.iom_iommu.specs.Parts.{registers_of, contexts_of, translation_cache_of, flights_of}
use Rattle.iom_iommu.specs.Stages.{space_through}
use Rattle.iom_inflight.specs.Flights.{waiting_at, row_of}
use Rattle.iom_inflight.specs.declared.made.MadeAt.{MadeAt}
use Rattle.iom_registers.specs.declared.directory.DirectoryMode.{DirectoryMode}
use Rattle.iom_registers.specs.declared.directory.DirectoryMode.TheVariants as mode
use Rattle.iom_registers.specs.Queues.{directory_mode, directory_root}
use Rattle.iom_napot.specs.Entries.{entries_in}
use Rattle.iom_table_survey.specs.Levels.{IsTableIn, IsMappedIn}
use Rattle.iom_table_survey.specs.Rows.{IsInRun}
use Rattle.iom_tlb.specs.declared.space.Space.{Space}
use Rattle.iom_tlb.specs.declared.cached_page.CachedPage.{CachedPage}
use Rattle.iom_tlb.specs.Places.{IsCached}
use Rattle.iom_tlb.specs.Ways.{Ways}
use Rattle.iom_stepped_requests.specs.declared.walk.Serving.{Serving}
use Rattle.iom_walks.specs.Walks.{WalkRow, under_way_of}
use Rattle.iom_way_survey.specs.Walking.{found_of, serving_of, sought_by, RequestReads, RequestLeads, SpaceReads, SpaceLeads, IsLetThrough}

-- ddtp names a directory
abbrev pub has_directory : DirectoryMode → Bool
has_directory mode.Off = false
has_directory mode.Bare = false
has_directory mode.OneLevel = true
has_directory mode.TwoLevels = true
has_directory mode.ThreeLevels = true

abbrev pub mode_in : BoardParts → DirectoryMode
mode_in parts = directory_mode (registers_of parts.iommu)

-- the context that is cached for the id, where a request finds it
abbrev pub cached_found : BoardParts → ℕ → Option DeviceContext
cached_found parts id = if has_directory (mode_in parts) && fits_directory (mode_in parts) id then contexts_of parts.iommu id else None

-- the context that the directory has for the id
abbrev pub stored_found : BoardParts → ℕ → Option DeviceContext
stored_found parts id = found_of (located_by_mode (mode_in parts) parts.memory (directory_root (registers_of parts.iommu)) id)

-- the context to which the device's request comes that is on its way through the directory
abbrev pub sought_found : BoardParts → List WalkRow → ℕ → Option DeviceContext
sought_found parts rows id = sought_by parts.memory (serving_of rows id)

-- a request of a device with the id may find this context
abbrev pub Finds : BoardParts → List WalkRow → ℕ → DeviceContext → Type 0
Finds parts rows id context = ((cached_found parts id ≡ Some context) ⊎ (stored_found parts id ≡ Some context)) ⊎ (sought_found parts rows id ≡ Some context)

-- what is looked at beside the cached context: the stored one, or nothing where that is the same
abbrev pub IsBeside : Option DeviceContext → Option DeviceContext → Option DeviceContext → Type 0
IsBeside cached stored beside = (beside ≡ stored) ⊎ ((beside ≡ None) × (stored ≡ cached))

-- the address space of its stages
abbrev pub space_of_context : DeviceContext → Option Space
space_of_context context = space_through context.first_stage context.second_stage context

-- the tables of these stages that decide, of which the root of a second stage has four frames, have the frame; where walks know leaves of 64 KiB, or don't
abbrev pub HaveTableIn : Bool → List (List ℕ) → First → Second → ℕ → Type 0
HaveTableIn napot memory first.Bare second.Bare frame = ⊥
HaveTableIn napot memory (first.Tables size root) second.Bare frame = IsTableIn (entries_in napot memory) (IsInRun root.number 1) (levels_of size) frame
HaveTableIn napot memory one (second.Tables size root) frame = IsTableIn (entries_in napot memory) (IsInRun root.number 4) (levels_of size) frame

-- they map it, for this kind of access
abbrev pub HaveLeafIn : Bool → List (List ℕ) → First → Second → AccessKind → ℕ → Type 0
HaveLeafIn napot memory first.Bare second.Bare kind frame = ⊥
HaveLeafIn napot memory (first.Tables size root) second.Bare kind frame = IsMappedIn (entries_in napot memory) (IsInRun root.number 1) (levels_of size) kind frame
HaveLeafIn napot memory one (second.Tables size root) kind frame = IsMappedIn (entries_in napot memory) (IsInRun root.number 4) (levels_of size) kind frame

-- CONTEXTS THAT ARE FOUND

-- a context was found, it has this address space, and its tables have the frame
abbrev pub FoundTableIn : Bool → List (List ℕ) → Space → Option DeviceContext → ℕ → Type 0
FoundTableIn napot memory own None frame = ⊥
FoundTableIn napot memory own (Some context) frame = (space_of_context context ≡ Some own) × HaveTableIn napot memory context.first_stage context.second_stage frame

-- they map it
abbrev pub FoundLeafIn : Bool → List (List ℕ) → Space → Option DeviceContext → AccessKind → ℕ → Type 0
FoundLeafIn napot memory own None kind frame = ⊥
FoundLeafIn napot memory own (Some context) kind frame = (space_of_context context ≡ Some own) × HaveLeafIn napot memory context.first_stage context.second_stage kind frame

-- the same where walks don't know leaves of 64 KiB
abbrev pub HaveTable : List (List ℕ) → First → Second → ℕ → Type 0
HaveTable = HaveTableIn false

abbrev pub HaveLeaf : List (List ℕ) → First → Second → AccessKind → ℕ → Type 0
HaveLeaf = HaveLeafIn false

abbrev pub FoundTable : List (List ℕ) → Space → Option DeviceContext → ℕ → Type 0
FoundTable = FoundTableIn false

abbrev pub FoundLeaf : List (List ℕ) → Space → Option DeviceContext → AccessKind → ℕ → Type 0
FoundLeaf = FoundLeafIn false

-- so of one of the contexts that are looked up for the device
abbrev pub LookedUpTable : BoardParts → Space → ℕ → ℕ → Type 0
LookedUpTable parts own id frame = FoundTable parts.memory own (cached_found parts id) frame ⊎ FoundTable parts.memory own (stored_found parts id) frame

abbrev pub LookedUpLeaf : BoardParts → Space → ℕ → AccessKind → ℕ → Type 0
LookedUpLeaf parts own id kind frame = FoundLeaf parts.memory own (cached_found parts id) kind frame ⊎ FoundLeaf parts.memory own (stored_found parts id) kind frame

-- of the context to which its request comes, or of the walk of tables that its request makes
abbrev pub RequestTable : List (List ℕ) → Space → Option Serving → ℕ → Type 0
RequestTable memory own serving frame = FoundTable memory own (sought_by memory serving) frame ⊎ SpaceReads memory own serving frame

abbrev pub RequestLeaf : List (List ℕ) → Space → Option Serving → AccessKind → ℕ → Type 0
RequestLeaf memory own serving kind frame = FoundLeaf memory own (sought_by memory serving) kind frame ⊎ SpaceLeads memory own serving kind frame

-- of any of these
abbrev pub DeviceTable : BoardParts → List WalkRow → Space → ℕ → ℕ → Type 0
DeviceTable parts rows own id frame = LookedUpTable parts own id frame ⊎ RequestTable parts.memory own (serving_of rows id) frame

abbrev pub DeviceLeaf : BoardParts → List WalkRow → Space → ℕ → AccessKind → ℕ → Type 0
DeviceLeaf parts rows own id kind frame = LookedUpLeaf parts own id kind frame ⊎ RequestLeaf parts.memory own (serving_of rows id) kind frame

-- of any device's
abbrev pub SpaceTable : BoardParts → List WalkRow → Space → ℕ → Type 0
SpaceTable parts rows own frame = (k : ℕ) × (k < length parts.devices) × ((device : Device) × (slice_get parts.devices k ≡ Some device) × DeviceTable parts rows own device.id frame)

abbrev pub SpaceLeaf : BoardParts → List WalkRow → Space → AccessKind → ℕ → Type 0
SpaceLeaf parts rows own kind frame = (k : ℕ) × (k < length parts.devices) × ((device : Device) × (slice_get parts.devices k ≡ Some device) × DeviceLeaf parts rows own device.id kind frame)

-- ADDRESS SPACES

-- what is cached of a page of the space leads to the frame
abbrev pub CachedLeadsTo : Space → CachedPage → AccessKind → ℕ → Type 0
CachedLeadsTo own cached kind frame = (cached.space ≡ own) × ((cached.translation.frame ≡ frame) × (allows cached.translation.rights kind ≡ true))

abbrev pub IsCachedIn : List Ways → Space → AccessKind → ℕ → Type 0
IsCachedIn sets own kind frame = (cached : CachedPage) × IsCached sets cached × CachedLeadsTo own cached kind frame

-- what is reached in the space
abbrev pub InSpace : BoardParts → List WalkRow → Space → AccessKind → ℕ → Type 0
InSpace parts rows own kind frame = IsCachedIn (translation_cache_of parts.iommu) own kind frame ⊎ SpaceLeaf parts rows own kind frame

-- EN_ATS

abbrev pub IsKeptAmong : List Entry → AccessKind → ℕ → Type 0
IsKeptAmong entries kind frame = (k : ℕ) × (k < length entries) × ((entry : Entry) × (slice_get entries k ≡ Some entry) × ((entry.frame ≡ frame) × (allows entry.rights kind ≡ true)))

-- the message is an answer to a question of the device, of this epoch, and maps the frame
abbrev pub AnswersSo : ℕ → Sent → AccessKind → ℕ → Type 0
AnswersSo epoch (sent.Ask asked page) kind frame = ⊥
AnswersSo epoch (sent.Answer asked page (reply.Page own rights)) kind frame = (asked ≡ epoch) × ((own ≡ frame) × (allows rights kind ≡ true))
AnswersSo epoch (sent.Answer asked page (reply.Refused cause)) kind frame = ⊥
AnswersSo epoch (sent.InvReq serial range) kind frame = ⊥
AnswersSo epoch (sent.InvDone serial) kind frame = ⊥

abbrev pub AnswersWith : ℕ → ℕ → OnLink → AccessKind → ℕ → Type 0
AnswersWith id epoch on kind frame = (on.device ≡ id) × AnswersSo epoch on.message kind frame

abbrev pub IsAnsweredAmong : ℕ → ℕ → List OnLink → AccessKind → ℕ → Type 0
IsAnsweredAmong id epoch fabric kind frame = (k : ℕ) × (k < length fabric) × ((on : OnLink) × (slice_get fabric k ≡ Some on) × AnswersWith id epoch on kind frame)

abbrev pub IsInCache : Option Cache → AccessKind → ℕ → Type 0
IsInCache None kind frame = ⊥
IsInCache (Some cache) kind frame = IsKeptAmong cache.entries kind frame

-- what a context with EN_ATS lets through of a device of this kind
abbrev pub LetsKind : DeviceKind → List OnLink → Device → AccessKind → ℕ → Type 0
LetsKind kinds.Raw fabric device kind frame = ⊤
LetsKind kinds.Ats fabric device kind frame = IsInCache device.cache kind frame ⊎ IsAnsweredAmong device.id (epoch_of device.cache) fabric kind frame
LetsKind kinds.CachedBlock fabric device kind frame = IsInCache device.cache kind frame ⊎ IsAnsweredAmong device.id (epoch_of device.cache) fabric kind frame
LetsKind kinds.Block fabric device kind frame = ⊥

abbrev pub LetsDevice : List OnLink → Device → AccessKind → ℕ → Type 0
LetsDevice fabric device kind frame = LetsKind device.kind fabric device kind frame

abbrev pub ByAts : List OnLink → Device → Bool → AccessKind → ℕ → Type 0
ByAts fabric device lets kind frame = LetsDevice fabric device kind frame × (lets ≡ true)

-- CONTEXTS

-- through a context with this address space; where it has none nothing is translated
abbrev pub ThroughSpace : BoardParts → List WalkRow → Option Space → AccessKind → ℕ → Type 0
ThroughSpace parts rows None kind frame = ⊤
ThroughSpace parts rows (Some own) kind frame = InSpace parts rows own kind frame

abbrev pub TablesThrough : BoardParts → List WalkRow → Option Space → ℕ → Type 0
TablesThrough parts rows None frame = ⊥
TablesThrough parts rows (Some own) frame = SpaceTable parts rows own frame

-- through a context that was found
abbrev pub ThroughFound : BoardParts → List WalkRow → Device → Option DeviceContext → AccessKind → ℕ → Type 0
ThroughFound parts rows device None kind frame = ⊥
ThroughFound parts rows device (Some context) kind frame =
    ByAts parts.fabric device context.en_ats kind frame ⊎ ThroughSpace parts rows (space_of_context context) kind frame

abbrev pub TablesFound : BoardParts → List WalkRow → Option DeviceContext → ℕ → Type 0
TablesFound parts rows None frame = ⊥
TablesFound parts rows (Some context) frame = TablesThrough parts rows (space_of_context context) frame

-- DEVICES

abbrev pub IsThatAccess : Option MadeAt → AccessKind → ℕ → Type 0
IsThatAccess None kind frame = ⊥
IsThatAccess (Some made) kind frame = (frame ≡ made.frame) × (kind ≡ made.kind)

-- an access in flight is of this kind, and on the frame
abbrev pub IsInFlight : BoardParts → ℕ → AccessKind → ℕ → Type 0
IsInFlight parts id kind frame = (k : ℕ) × (k < 8) × IsThatAccess (waiting_at (row_of (flights_of parts.iommu).rows id) k) kind frame

-- or one is that has its answer, and is let through at a load to come
abbrev pub IsAccepted : BoardParts → List WalkRow → ℕ → AccessKind → ℕ → Type 0
IsAccepted parts rows id kind frame = IsInFlight parts id kind frame ⊎ IsLetThrough (under_way_of rows id) kind frame

abbrev pub IsModeBare : BoardParts → Type 0
IsModeBare parts = mode_in parts ≡ mode.Bare

-- by accesses that are accepted, by ddtp, and by the contexts that are looked up
abbrev pub LookedUpWay : BoardParts → List WalkRow → Device → AccessKind → ℕ → Type 0
LookedUpWay parts rows device kind frame =
    ((IsAccepted parts rows device.id kind frame ⊎ IsModeBare parts) ⊎ ThroughFound parts rows device (cached_found parts device.id) kind frame)
    ⊎ ThroughFound parts rows device (stored_found parts device.id) kind frame

-- by the context to which the device's request comes, and by the walk of tables that it makes
abbrev pub RequestWay : BoardParts → List WalkRow → Device → AccessKind → ℕ → Type 0
RequestWay parts rows device kind frame =
    ThroughFound parts rows device (sought_found parts rows device.id) kind frame ⊎ RequestLeads parts.memory (serving_of rows device.id) kind frame

-- all ways of a device that is plugged in
abbrev pub WayOf : BoardParts → List WalkRow → Device → AccessKind → ℕ → Type 0
WayOf parts rows device kind frame = LookedUpWay parts rows device kind frame ⊎ RequestWay parts rows device kind frame

-- the tables of the address spaces of its contexts
abbrev pub TablesLookedUp : BoardParts → List WalkRow → ℕ → ℕ → Type 0
TablesLookedUp parts rows id frame = TablesFound parts rows (cached_found parts id) frame ⊎ TablesFound parts rows (stored_found parts id) frame

-- of that to which its request comes, and those that its request walks
abbrev pub TablesOfRequest : BoardParts → List WalkRow → ℕ → ℕ → Type 0
TablesOfRequest parts rows id frame = TablesFound parts rows (sought_found parts rows id) frame ⊎ RequestReads parts.memory (serving_of rows id) frame

abbrev pub TablesOfDevice : BoardParts → List WalkRow → ℕ → ℕ → Type 0
TablesOfDevice parts rows id frame = TablesLookedUp parts rows id frame ⊎ TablesOfRequest parts rows id frame

-- of some device that is plugged in
abbrev pub SomeTable : BoardParts → List WalkRow → ℕ → Type 0
SomeTable parts rows frame = (k : ℕ) × (k < length parts.devices) × ((device : Device) × (slice_get parts.devices k ≡ Some device) × TablesOfDevice parts rows device.id frame)

-- What is proved of tables: looked at level by level they are what walks read, and lead to what walks lead to.
use Rattle.std.specs.Prelude.{◌≡◌, ◌↔◌, ◌*◌, ◌≤◌, ℕ, Bool, List, ◌∷◌, length, replicate, slice_get, Contains, suc, Some}
use Rattle.iom_base.specs.declared.access.AccessKind.{AccessKind}
use Rattle.iom_base.specs.Tables.{table_entries}
use Rattle.iom_napot.specs.Entries.{entries_in}
use Rattle.iom_reach.specs.Memory.{ReadsFrame}
use Rattle.iom_reach.specs.Safe.{IsOfTables, IsOfDirectory}
use Rattle.iom_reach.specs.Scene.{Mapping, Formats}
use Rattle.iom_reach.specs.Ways.{LeadsToMapping, ServesKind, Way}
use Rattle.iom_device.specs.Caches.{device_with}
use Rattle.iom_device.specs.declared.device.Device.{Device}
use Rattle.iom_board.specs.BoardParts.{BoardParts}
use Rattle.iom_inflight.specs.Flights.{FlightRow, row_of}
use Rattle.iom_iommu.specs.Parts.{registers_of, flights_of}
use Rattle.iom_walks.specs.Invariant.{AreWalks}
use Rattle.iom_walks.specs.Walks.{UnderWay, WalkRow, under_way_of}
use Rattle.iom_stepped_ways.specs.Scenes.{stepped_scene}
use Rattle.iom_way_survey.specs.Directories.{DirectoryReads}
use Rattle.iom_way_survey.specs.Found.{WayOf, SomeTable}
use Rattle.iom_way_survey.specs.Queues.{IsOfFaults}
use Rattle.iom_hardware_ways.specs.Formats.{format_of, steps_along, formats}
use Rattle.iom_hardware_ways.specs.Laws.{PagesAreIndices}
use Rattle.iom_table_survey.specs.Levels.{IsTableIn, IsMappedIn}
use Rattle.iom_table_survey.specs.Rows.{IsInRun}

-- a root of so many frames, and below it tables of one frame each
abbrev pub widths_from : ℕ → ℕ → List ℕ
widths_from frames below = (table_entries * frames) ∷ replicate below table_entries

-- memory as hardware reads it whose walks know leaves of 64 KiB, or don't
abbrev pub formats_of : Bool → Formats
formats_of napot = record formats { entry = format_of napot }

-- some walk from the root leads to the frame, for this kind of access
abbrev pub IsLedTo : Bool → List (List ℕ) → ℕ → List ℕ → AccessKind → ℕ → Type 0
IsLedTo napot memory root widths kind frame =
    (mapping : Mapping) × LeadsToMapping (formats_of napot) (slice_get memory) root (steps_along widths) mapping × ServesKind mapping frame kind

-- some walk from the root reads the frame
abbrev pub IsReadBelow : Bool → List (List ℕ) → ℕ → List ℕ → ℕ → Type 0
IsReadBelow napot memory root widths frame = (page : ℕ) × ReadsFrame (format_of napot) (slice_get memory) root (steps_along widths page) frame

abbrev pub LevelsAreWalks : Type 0
LevelsAreWalks = (napot : Bool) (memory : List (List ℕ)) (root frames below : ℕ) → PagesAreIndices (widths_from frames below)
    → ((frame : ℕ) → IsTableIn (entries_in napot memory) (IsInRun root frames) (suc below) frame ↔ IsReadBelow napot memory root (widths_from frames below) frame)
    × ((kind : AccessKind) (frame : ℕ) → IsMappedIn (entries_in napot memory) (IsInRun root frames) (suc below) kind frame
    ↔ IsLedTo napot memory root (widths_from frames below) kind frame)

-- each device of which a request is under way is plugged in
abbrev pub ArePlugged : BoardParts → List WalkRow → Type 0
ArePlugged parts rows = (id : ℕ) (own : UnderWay) → under_way_of rows id ≡ Some own → (device : Device) × (device_with parts.devices id ≡ Some device)

-- each way of a device that is plugged in, of whose accesses at most eight are in flight, is one of those that are looked for, where so is each device of which a
-- request is under way
abbrev pub WaysAreLookedFor : Type 0
WaysAreLookedFor = (trusted : ℕ → Bool) (parts : BoardParts) (rows : List WalkRow) (device : Device) (frame : ℕ) (kind : AccessKind) → AreWalks rows → ArePlugged parts rows
    → device_with parts.devices device.id ≡ Some device → ((own : FlightRow) → row_of (flights_of parts.iommu).rows device.id ≡ Some own → length own.waiting ≤ 8)
    → Way (stepped_scene trusted parts rows) device.id frame kind → WayOf parts rows device kind frame

-- and each of these is one
abbrev pub LooksFindWays : Type 0
LooksFindWays = (trusted : ℕ → Bool) (parts : BoardParts) (rows : List WalkRow) (device : Device) (frame : ℕ) (kind : AccessKind) → AreWalks rows
    → device_with parts.devices device.id ≡ Some device → WayOf parts rows device kind frame → Way (stepped_scene trusted parts rows) device.id frame kind

-- the frames of tables that hardware reads are looked for
abbrev pub TablesAreLookedFor : Type 0
TablesAreLookedFor = (trusted : ℕ → Bool) (parts : BoardParts) (rows : List WalkRow) (frame : ℕ) → AreWalks rows → ArePlugged parts rows
    → IsOfTables (stepped_scene trusted parts rows) frame → SomeTable parts rows frame

-- and each of these is read
abbrev pub LooksFindTables : Type 0
LooksFindTables = (trusted : ℕ → Bool) (parts : BoardParts) (rows : List WalkRow) (frame : ℕ) → AreWalks rows
    → SomeTable parts rows frame → IsOfTables (stepped_scene trusted parts rows) frame

-- so are those of the directory
abbrev pub DirectoryIsLookedFor : Type 0
DirectoryIsLookedFor = (trusted : ℕ → Bool) (parts : BoardParts) (rows : List WalkRow) (frame : ℕ) → AreWalks rows → ArePlugged parts rows
    → IsOfDirectory (stepped_scene trusted parts rows) frame → DirectoryReads parts rows frame

-- so are those of the fault queue, into which the IOMMU stores records
abbrev pub FaultsAreLookedFor : Type 0
FaultsAreLookedFor = (trusted : ℕ → Bool) (parts : BoardParts) (rows : List WalkRow) (frame : ℕ) → Contains (stepped_scene trusted parts rows).fault_frames frame
    → IsOfFaults (registers_of parts.iommu) frame

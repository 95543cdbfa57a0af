-- What a survey says of a scene.
use Rattle.std.specs.Prelude.{◌≡◌, ◌⊎◌, ◌<◌, ℕ, ◌==◌, Bool, true, false, List, [], length, slice_get, Contains, Option, None, Some}
use Rattle.std.specs.List.{find, list_any}
use Rattle.iom_base.specs.declared.access.AccessKind.{AccessKind}
use Rattle.iom_device.specs.declared.device.Device.{Device}
use Rattle.iom_board.specs.BoardParts.{BoardParts}
use Rattle.iom_walks.specs.Walks.{WalkRow}
use Rattle.iom_reach.specs.Safe.{IsRead, HasWord, IsWritable}
use Rattle.iom_reach.specs.Scene.{HardwareScene}
use Rattle.iom_reach.specs.Ways.{Way}
use Rattle.iom_hardware_ways.specs.Scenes.{scene_of}
use Rattle.iom_stepped_ways.specs.Scenes.{stepped_scene}
use Rattle.iom_table_survey.specs.Reaches.{frames_by, IsReachOf}
use Rattle.iom_table_survey.specs.Rows.{row_has, frame_place, StandInBoth}
use Rattle.iom_way_survey.specs.Along.{HasRowOfEach}
use Rattle.iom_way_survey.specs.Found.{WayOf}
use Rattle.iom_way_survey.specs.declared.findings.Conflict.{Conflict}
use Rattle.iom_way_survey.specs.declared.findings.DeviceReach.{DeviceReach}
use Rattle.iom_way_survey.specs.declared.findings.Survey.{Survey}

-- the requests that are under way: none of hardware whose walks are whole
abbrev pub rows_in : Option (List WalkRow) → List WalkRow
rows_in None = []
rows_in (Some rows) = rows

-- the scene of hardware, and of what is under way beside it where its walks make one load an event
abbrev pub scene_beside : (ℕ → Bool) → BoardParts → Option (List WalkRow) → HardwareScene
scene_beside trusted parts None = scene_of trusted parts
scene_beside trusted parts (Some rows) = stepped_scene trusted parts rows

-- whether the number is one of these
abbrev pub is_id_among : List ℕ → ℕ → Bool
is_id_among ids id = list_any (λ own. own == id) ids

-- what a survey finds of a device: nothing, where it has no row of it
abbrev pub reach_in : Option DeviceReach → AccessKind → ℕ → Bool
reach_in None kind frame = false
reach_in (Some row) kind frame = row_has (frames_by row.reach kind) frame

abbrev pub reaches_in_rows : List DeviceReach → ℕ → AccessKind → ℕ → Bool
reaches_in_rows rows id kind frame = reach_in (find (λ (row : DeviceReach). row.id == id) rows) kind frame

-- the row is the device's: what it reaches is all that is looked for
pub record IsReachRow (parts : BoardParts) (walks : List WalkRow) (trusted : List ℕ) (row : DeviceReach) (device : Device) : Type 0 where
  pub id : row.id ≡ device.id
  pub is_trusted : row.is_trusted ≡ is_id_among trusted device.id
  pub reach : IsReachOf row.reach (WayOf parts walks device)

-- so many devices have their rows, in their order
pub record HaveRows (parts : BoardParts) (walks : List WalkRow) (trusted : List ℕ) (rows : List DeviceReach) (count : ℕ) : Type 0 where
  pub long : length rows ≡ count
  pub each : (k : ℕ) (row : DeviceReach) (device : Device) → slice_get rows k ≡ Some row → slice_get parts.devices k ≡ Some device → IsReachRow parts walks trusted row device

-- each device has its own
abbrev pub AreRowsOf : BoardParts → List WalkRow → List ℕ → List DeviceReach → Type 0
AreRowsOf parts walks trusted rows = HaveRows parts walks trusted rows (length parts.devices)

-- nothing was found
pub record IsOfNothing (survey : Survey) : Type 0 where
  pub devices : survey.devices.items ≡ []
  pub read : (frame : ℕ) → row_has survey.read frame ≡ false
  pub stored : (frame : ℕ) → row_has survey.stored frame ≡ false

-- rows of untrusted devices, of those that a scene has
abbrev pub TellsTrust : HardwareScene → List DeviceReach → Type 0
TellsTrust scene rows = (k : ℕ) (row : DeviceReach) → slice_get rows k ≡ Some row → row.is_trusted ≡ scene.is_trusted row.id

-- some frame that shares the place of this one: this one itself, where a memory can have it
abbrev pub SomeAtPlace : (ℕ → Type 0) → ℕ → Type 0
SomeAtPlace IsSo frame = (other : ℕ) × IsSo other × (frame_place other ≡ frame_place frame)

-- the device has a way there
abbrev pub IsReachedAs : HardwareScene → (device frame : ℕ) → AccessKind → Type 0
IsReachedAs scene device frame kind = SomeAtPlace (λ other. Way scene device other kind) frame

-- hardware reads it
abbrev pub IsReadAs : HardwareScene → ℕ → Type 0
IsReadAs scene frame = SomeAtPlace (IsRead scene) frame

-- the IOMMU stores a fault record there, or a fence's word
abbrev pub IsStoredAs : HardwareScene → ℕ → Type 0
IsStoredAs scene frame = SomeAtPlace (λ other. Contains scene.fault_frames other ⊎ HasWord scene other) frame

-- somebody who isn't software writes what hardware reads
abbrev pub IsClash : HardwareScene → Type 0
IsClash scene = (frame : ℕ) × IsReadAs scene frame × SomeAtPlace (IsWritable scene) frame

-- THE SURVEY misses no way of the scene, no frame that hardware reads, and none into which the IOMMU stores; and each device that is plugged in has its row
pub record Surveys (survey : Survey) (scene : HardwareScene) : Type 0 where
  pub reached : (device frame : ℕ) (kind : AccessKind) → Way scene device frame kind → reaches_in_rows survey.devices.items device kind frame ≡ true
  pub read : (frame : ℕ) → IsRead scene frame → row_has survey.read frame ≡ true
  pub stored : (frame : ℕ) → Contains scene.fault_frames frame ⊎ HasWord scene frame → row_has survey.stored frame ≡ true
  pub trusted : TellsTrust scene survey.devices.items
  pub rows : HasRowOfEach scene survey.devices.items

-- THE SURVEY INVENTS nothing: each way of a row is one of its device, each frame that is read is one that hardware reads, and into each that is stored the
-- IOMMU stores. Frames from 4,096 on, where no memory has any, share one place: there this is said of some such frame.
pub record InventsNone (survey : Survey) (scene : HardwareScene) : Type 0 where
  pub reached : (k : ℕ) (row : DeviceReach) (frame : ℕ) (kind : AccessKind) → slice_get survey.devices.items k ≡ Some row → row_has (frames_by row.reach kind) frame ≡ true
      → IsReachedAs scene row.id frame kind
  pub read : (frame : ℕ) → row_has survey.read frame ≡ true → IsReadAs scene frame
  pub stored : (frame : ℕ) → row_has survey.stored frame ≡ true → IsStoredAs scene frame

-- the survey has exactly what is there
abbrev pub IsSurveyOf : Survey → HardwareScene → Type 0
IsSurveyOf survey scene = Surveys survey scene × InventsNone survey scene

-- no device that isn't trusted, nor the IOMMU, writes what hardware reads
pub record IsConflictFree (survey : Survey) : Type 0 where
  pub devices : (k : ℕ) (row : DeviceReach) → slice_get survey.devices.items k ≡ Some row → row.is_trusted ≡ false → (frame : ℕ) → ¬ StandInBoth survey.read row.reach.writable frame
  pub iommu : (frame : ℕ) → ¬ StandInBoth survey.read survey.stored frame

-- who writes this frame that hardware reads
abbrev pub WritesCommon : Survey → Option ℕ → ℕ → Type 0
WritesCommon survey None frame = StandInBoth survey.read survey.stored frame
WritesCommon survey (Some id) frame =
    (k : ℕ) × (row : DeviceReach) × (slice_get survey.devices.items k ≡ Some row) × ((row.id ≡ id) × ((row.is_trusted ≡ false) × StandInBoth survey.read row.reach.writable frame))

abbrev pub IsConflict : Survey → Conflict → Type 0
IsConflict survey conflict = WritesCommon survey conflict.device conflict.frame

-- the device with this row isn't trusted, and writes the frame, which hardware reads
abbrev pub RowWrites : Survey → DeviceReach → ℕ → Type 0
RowWrites survey row frame = (row.is_trusted ≡ false) × StandInBoth survey.read row.reach.writable frame

-- no device with a row before this place does
abbrev pub NoneWritesBefore : Survey → ℕ → Type 0
NoneWritesBefore survey place = (k : ℕ) (row : DeviceReach) (frame : ℕ) → k < place → slice_get survey.devices.items k ≡ Some row → ¬ RowWrites survey row frame

-- THE FIRST CONFLICT: by the order of the devices, behind which the IOMMU comes, and of each by the lowest frame
abbrev pub ComesFirst : Survey → Option ℕ → ℕ → Type 0
ComesFirst survey None frame =
    NoneWritesBefore survey (length survey.devices.items) × ((lower : ℕ) → lower < frame → ¬ StandInBoth survey.read survey.stored lower)
ComesFirst survey (Some id) frame =
    (place : ℕ) × (row : DeviceReach) × (slice_get survey.devices.items place ≡ Some row) × (row.id ≡ id) × RowWrites survey row frame
    × NoneWritesBefore survey place × ((lower : ℕ) → lower < frame → ¬ RowWrites survey row lower)

abbrev pub IsFirstConflict : Survey → Conflict → Type 0
IsFirstConflict survey conflict = ComesFirst survey conflict.device conflict.frame

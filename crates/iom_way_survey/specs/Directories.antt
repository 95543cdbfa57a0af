-- The frames that walks of the directory read.
use Rattle.std.specs.Prelude.{◌≡◌, ◌⊎◌, ◌<◌, ℕ, zero, suc, true, List, length, slice_get, Option, None, Some, Result, Ok, Err}
use Rattle.iom_base.specs.declared.cause.Cause.{Cause}
use Rattle.iom_device.specs.declared.device.Device.{Device}
use Rattle.iom_device_dir.specs.Located.{loaded_entry}
use Rattle.iom_device_dir.specs.Paths.{ddi, entry_place, fits_directory}
use Rattle.iom_device_dir.specs.declared.entry.NonLeafEntry.{NonLeafEntry}
use Rattle.iom_board.specs.BoardParts.{BoardParts}
use Rattle.iom_iommu.specs.Parts.{registers_of}
use Rattle.iom_phys_mem.specs.Words.{word_at}
use Rattle.iom_registers.specs.declared.directory.DirectoryMode.{DirectoryMode}
use Rattle.iom_registers.specs.declared.directory.DirectoryMode.TheVariants as mode
use Rattle.iom_registers.specs.Queues.{directory_mode, directory_root}
use Rattle.iom_stepped_requests.specs.declared.walk.RequestWalk.TheVariants.{InDirectory, InTables}
use Rattle.iom_stepped_requests.specs.declared.walk.Serving.{Serving}
use Rattle.iom_stepped_requests.specs.declared.walk.Serving.TheVariants.{GoesOn, Served}
use Rattle.iom_walks.specs.Walks.{WalkRow}
use Rattle.iom_way_survey.specs.Walking.{serving_of}

-- the page that an entry names
abbrev pub next_page_of : Result NonLeafEntry Cause → Option ℕ
next_page_of (Ok entry) = Some entry.next.number
next_page_of (Err cause) = None

-- so of the next page, if there is one
abbrev pub IsOnWay : Option ℕ → (ℕ → Type 0) → Type 0
IsOnWay None IsOn = ⊥
IsOnWay (Some next) IsOn = IsOn next

-- the frame is on the path of the id, from a page of this level on
abbrev pub IsOnPath : List (List ℕ) → ℕ → ℕ → ℕ → ℕ → Type 0
IsOnPath memory zero page id frame = frame ≡ page
IsOnPath memory (suc level) page id frame =
    (frame ≡ page) ⊎ IsOnWay (next_page_of (loaded_entry (word_at 8 memory (entry_place page (ddi (suc level) id))))) (λ next. IsOnPath memory level next id frame)

-- where there are as many levels
abbrev pub IsOnLevels : DirectoryMode → List (List ℕ) → ℕ → ℕ → ℕ → Type 0
IsOnLevels mode.Off memory root id frame = ⊥
IsOnLevels mode.Bare memory root id frame = ⊥
IsOnLevels mode.OneLevel memory root id frame = IsOnPath memory 0 root id frame
IsOnLevels mode.TwoLevels memory root id frame = IsOnPath memory 1 root id frame
IsOnLevels mode.ThreeLevels memory root id frame = IsOnPath memory 2 root id frame

-- by ddtp's mode: an id that is too wide has no path
abbrev pub PathReads : List (List ℕ) → DirectoryMode → ℕ → ℕ → ℕ → Type 0
PathReads memory own root id frame = IsOnLevels own memory root id frame × (fits_directory own id ≡ true)

-- a request that is on its way through the directory still reads the frame
abbrev pub RequestLocates : List (List ℕ) → Option Serving → ℕ → Type 0
RequestLocates memory None frame = ⊥
RequestLocates memory (Some (GoesOn (InDirectory request anew walk))) frame = IsOnPath memory walk.level walk.page.number walk.id frame
RequestLocates memory (Some (GoesOn (InTables request context kept_in walk))) frame = ⊥
RequestLocates memory (Some (Served answer)) frame = ⊥

-- the path from the root on, and that of a request that is under way
abbrev pub PathsRead : List (List ℕ) → DirectoryMode → ℕ → List WalkRow → ℕ → ℕ → Type 0
PathsRead memory own root rows id frame = PathReads memory own root id frame ⊎ RequestLocates memory (serving_of rows id) frame

-- of some device that is plugged in
abbrev pub DirectoryReads : BoardParts → List WalkRow → ℕ → Type 0
DirectoryReads parts rows frame = (k : ℕ) × (k < length parts.devices) × ((device : Device) × (slice_get parts.devices k ≡ Some device)
    × PathsRead parts.memory (directory_mode (registers_of parts.iommu)) (directory_root (registers_of parts.iommu)) rows device.id frame)

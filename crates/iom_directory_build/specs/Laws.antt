-- Laws of device directories.
use Rattle.std.specs.Prelude.{◌≡◌, ◌↔◌, ℕ, ◌<◌, ◌≤◌, nat_lt, List, length, slice_get, Some, Err, if◌then◌else◌}
use Rattle.iom_base.specs.declared.cause.Cause.TheVariants.{DirectoryEntryNotValid, TransactionTypeDisallowed}
use Rattle.iom_phys_mem.specs.Words.{zeroed}
use Rattle.iom_registers.specs.declared.directory.DirectoryMode.{DirectoryMode}
use Rattle.iom_registers.specs.declared.directory.DirectoryMode.TheVariants.{Off, Bare, OneLevel, TwoLevels, ThreeLevels}
use Rattle.iom_registers.specs.declared.directory.DirectoryPointer.{DirectoryPointer}
use Rattle.iom_device_dir.specs.Paths.{ids_below}
use Rattle.iom_device_dir.specs.Located.{path_end_from, located_context}
use Rattle.iom_directory_build.specs.Changes.{KeepsPages}
use Rattle.iom_directory_build.specs.Pages.{HasPage, HasWholePath, IsDirectory, missing_pages}

-- the root has a directory as before, of the same pages, each where it was, and every path in it ends as it did
pub record SameDirectory (old new : List (List ℕ)) (top root : ℕ) : Type 0 where
  pub directory : IsDirectory new top root
  pub pages : (f : ℕ) → HasPage new top root f ↔ HasPage old top root f
  pub ends : (id : ℕ) → id < ids_below top → path_end_from new top root id ≡ path_end_from old top root id
  pub paths : (id : ℕ) → id < ids_below top → HasWholePath old top root id → HasWholePath new top root id
  pub keeps : KeepsPages old new top root

-- what changes no page of a directory leaves it, and all that its paths find
abbrev pub DirectoryStays : Type 0
DirectoryStays = (old new : List (List ℕ)) (top root : ℕ) → top ≤ 2 → IsDirectory old top root → length new ≡ length old
    → ((f : ℕ) → HasPage old top root f → slice_get new f ≡ slice_get old f) → SameDirectory old new top root

-- a zeroed frame is a directory of itself alone, in which no id has a context
abbrev pub ZeroedRoot : Type 0
ZeroedRoot = (memory : List (List ℕ)) (top root : ℕ) → top ≤ 2 → slice_get memory root ≡ Some zeroed
    → IsDirectory memory top root
    × ((f : ℕ) → HasPage memory top root f ↔ (f ≡ root))
    × ((id : ℕ) → id < ids_below top → path_end_from memory top root id ≡ Err DirectoryEntryNotValid)

-- a whole path lacks no page
abbrev pub WholePaths : Type 0
WholePaths = (memory : List (List ℕ)) (top root id : ℕ) → HasWholePath memory top root id → missing_pages memory top root id ≡ 0

-- the mode of ddtp that says how many levels the directory has, by the level of its root
abbrev pub IsModeOf : DirectoryMode → ℕ → Type 0
IsModeOf Off top = ⊥
IsModeOf Bare top = ⊥
IsModeOf OneLevel top = top ≡ 0
IsModeOf TwoLevels top = top ≡ 1
IsModeOf ThreeLevels top = top ≡ 2

-- an id that the levels have room for is located by its path from the root, and any other is refused
abbrev pub LawfulEnds : Type 0
LawfulEnds = (memory : List (List ℕ)) (ddtp : DirectoryPointer) (top id : ℕ) → IsModeOf ddtp.mode top
    → located_context memory ddtp id ≡ (if nat_lt id (ids_below top) then path_end_from memory top ddtp.ppn id else Err TransactionTypeDisallowed)

-- The pages of a device directory, read off a memory (RISC-V IOMMU Architecture Specification, sections 2.1 and 2.3.1). A directory
-- has one to three levels: `top` is the level of its root page, 0 to 2, and pages of level 0 hold contexts.
use Rattle.std.specs.Prelude.{◌≡◌, ◌≢◌, ℕ, zero, suc, ◌-◌, ◌/◌, ◌==◌, ◌<◌, ◌≤◌, List, length, slice_get, Option, Some, None, IsSome, Result, Ok, Err, if◌then◌else◌}
use Rattle.std.specs.List.{All, AllPairs}
use Rattle.std.specs.Option.{option_and_then}
use Rattle.iom_base.specs.declared.cause.Cause.{Cause}
use Rattle.iom_base.specs.declared.cause.Cause.TheVariants.{DirectoryEntryNotValid}
use Rattle.iom_phys_mem.specs.Words.{word_at, zeroed}
use Rattle.iom_device_dir.specs.declared.context.Context.{Context}
use Rattle.iom_device_dir.specs.declared.entry.NonLeafEntry.{NonLeafEntry}
use Rattle.iom_device_dir.specs.Paths.{ddi, entry_place, ids_below}
use Rattle.iom_device_dir.specs.Located.{loaded_entry, path_end_from}

-- the level of the root of a directory of so many levels
abbrev pub root_level : ℕ → ℕ
root_level levels = levels - 1

-- the page that an entry names, where it is one
abbrev pub page_named : Result NonLeafEntry Cause → Option ℕ
page_named (Ok entry) = Some entry.next.number
page_named (Err cause) = None

-- the page that the id's entry names, in a directory page of a level above 0; None where it is no lawful entry
abbrev pub next_page : List (List ℕ) → ℕ → ℕ → ℕ → Option ℕ
next_page memory page level id = page_named (loaded_entry (word_at 8 memory (entry_place page (ddi level id))))

-- the directory page of a level on the path of the id: the root, or where the entries of the levels above lead
abbrev pub page_at : List (List ℕ) → ℕ → ℕ → ℕ → ℕ → Option ℕ
page_at memory zero root level id = if level == 0 then Some root else None
page_at memory (suc top) root level id =
    if level == suc top then Some root else option_and_then (λ next. page_at memory top next level id) (next_page memory root (suc top) id)

-- the path of the id leads down to a page of contexts: none of its pages is missing
abbrev pub HasWholePath : List (List ℕ) → ℕ → ℕ → ℕ → Type 0
HasWholePath memory top root id = IsSome (page_at memory top root 0 id)

-- the frame is a page of the directory
abbrev pub HasPage : List (List ℕ) → ℕ → ℕ → ℕ → Type 0
HasPage memory top root f = (level : ℕ) × (id : ℕ) × (level ≤ top) × (id < ids_below top) × (page_at memory top root level id ≡ Some f)

-- the ids agree above the bits of DDI[0], .., up to this level: in a page of the level they differ in the index alone
abbrev pub IsSamePrefix : ℕ → ℕ → ℕ → Type 0
IsSamePrefix level id other = id / ids_below level ≡ other / ids_below level

-- a path finds a context, or an entry or context that isn't valid: nothing misconfigured, and nothing outside memory
abbrev pub EndsLawfully : Result Context Cause → Type 0
EndsLawfully (Ok context) = Unit {0}
EndsLawfully (Err cause) = cause ≡ DirectoryEntryNotValid

-- A DIRECTORY: its pages are frames of memory, no two places in it have the same page, and each path ends lawfully
pub record IsDirectory (memory : List (List ℕ)) (top root : ℕ) : Type 0 where
  pub inside : (f : ℕ) → HasPage memory top root f → f < length memory
  pub apart : (level lower id other f : ℕ) → id < ids_below top → other < ids_below top
      → page_at memory top root level id ≡ Some f → page_at memory top root lower other ≡ Some f
      → (level ≡ lower) × IsSamePrefix level id other
  pub lawful : (id : ℕ) → id < ids_below top → EndsLawfully (path_end_from memory top root id)

-- how many pages are missing below an entry of a level
abbrev pub missing_below : Option ℕ → ℕ → (ℕ → ℕ) → ℕ
missing_below (Some next) level follow = follow next
missing_below None level follow = level

-- how many pages the path of the id lacks
abbrev pub missing_pages : List (List ℕ) → ℕ → ℕ → ℕ → ℕ
missing_pages memory zero root id = 0
missing_pages memory (suc top) root id =
    missing_below (next_page memory root (suc top) id) (suc top) (λ next. missing_pages memory top next id)

-- frames that may become pages of the directory: zeroed frames of memory, distinct, and none of its pages
pub record AreFreshPages (memory : List (List ℕ)) (top root : ℕ) (pages : List ℕ) : Type 0 where
  pub zero : All (λ f. slice_get memory f ≡ Some zeroed) pages
  pub outside : All (λ f. HasPage memory top root f → ⊥) pages
  pub distinct : AllPairs (λ f g. f ≢ g) pages

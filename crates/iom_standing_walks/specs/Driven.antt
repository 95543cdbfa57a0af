-- A walk that stands in a table of the driver's while its calls change the tables.
use Rattle.std.specs.Prelude.{◌≡◌, ◌++◌, ℕ, List}
use Rattle.iom_base.specs.declared.mode.Mode.{Mode}
use Rattle.iom_base.specs.declared.mode.Mode.TheVariants.{First, Second, Both}
use Rattle.iom_base.specs.Sizes.{levels_of}
use Rattle.iom_stage_walk.specs.Entries.{entries}
use Rattle.iom_stage_walk.specs.Paths.{first_widths, path_of}
use Rattle.iom_stage_walk.specs.Second.{second_widths}
use Rattle.iom_page_table.specs.Trees.{IsTableAt}
use Rattle.iom_driver.specs.Standing.{KeepsTablesIn}

-- the indices of a page in the tables that the driver keeps for a device in this mode
abbrev pub path_in : Mode → ℕ → List ℕ
path_in (First size) page = path_of (first_widths (levels_of size)) page
path_in (Second size) page = path_of (second_widths (levels_of size)) page
path_in (Both size) page = path_of (second_widths (levels_of size)) page

-- a walk that has come by the first indices of its page to a table stands in that table still, where each table of the root is where it was
abbrev pub DrivenWalksStand : Type 0
DrivenWalksStand = (mode : Mode) (old new : List (List ℕ)) (root page table : ℕ) (done left : List ℕ) → KeepsTablesIn mode old new root → path_in mode page ≡ done ++ left
    → IsTableAt (entries old) root done table → IsTableAt (entries new) root done table

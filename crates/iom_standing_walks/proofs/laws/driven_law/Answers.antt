use Rattle.std.proofs.Common.{◌≡◌, ◌++◌, ℕ, List}
use Rattle.iom_base.specs.declared.mode.Mode.{Mode}
use Rattle.iom_base.specs.declared.mode.Mode.TheVariants.{First, Second, Both}
use Rattle.iom_page_table.specs.Trees.{IsTableAt}
use Rattle.iom_page_table.proofs.KeptTables.{first_in_shape, second_in_shape}
use Rattle.iom_stage_walk.specs.Entries.{entries}
use Rattle.iom_driver.specs.Standing.{KeepsTablesIn}
use Rattle.iom_standing_walks.specs.Driven.{path_in}
use Rattle.iom_standing_walks.proofs.laws.driven_law.Goals as goal

stands : (mode : Mode) (old new : List (List ℕ)) (root page table : ℕ) (done left : List ℕ) → KeepsTablesIn mode old new root → path_in mode page ≡ done ++ left
    → IsTableAt (entries old) root done table → IsTableAt (entries new) root done table
stands (First size) old new root page table done left keeps path at = keeps done table (first_in_shape size page done left path) at
stands (Second size) old new root page table done left keeps path at = keeps done table (second_in_shape size page done left path) at
stands (Both size) old new root page table done left keeps path at = keeps done table (second_in_shape size page done left path) at

pub returns : goal.returns
returns c = stands

-- Tables and pages that stay where they are, so that a walk that stands in one of them between two loads stands in it still.
use Rattle.std.specs.Prelude.{◌≡◌, ℕ, true, List, Some, length}
use Rattle.iom_base.specs.declared.mode.Mode.{Mode}
use Rattle.iom_base.specs.declared.mode.Mode.TheVariants.{First, Second, Both}
use Rattle.iom_directory_build.specs.Changes.{KeepsPages}
use Rattle.iom_directory_build.specs.Pages.{root_level}
use Rattle.iom_page_table.specs.FirstTables.{KeepsTables}
use Rattle.iom_page_table.specs.SecondTables.{KeepsGuestTables}
use Rattle.iom_driver.specs.declared.device.Stages.{Stages}
use Rattle.iom_driver.specs.Devices.{owned_stages_of}
use Rattle.iom_driver.specs.Layout.{directory_frame}
use Rattle.iom_driver.specs.State.{DriverState}

-- each table of the root, of tables as the driver writes them in the mode, is where it was
abbrev pub KeepsTablesIn : Mode → List (List ℕ) → List (List ℕ) → ℕ → Type 0
KeepsTablesIn (First size) old new root = KeepsTables size old new root
KeepsTablesIn (Second size) old new root = KeepsGuestTables size old new root
KeepsTablesIn (Both size) old new root = KeepsGuestTables size old new root

-- Of each device that has tables before and after, in the same stages, each table is where it was; and once the driver was started so is each page of the
-- directory. New ones may come.
pub record LeavesStanding (d : DriverState) (memory : List (List ℕ)) (d' : DriverState) (memory' : List (List ℕ)) : Type 0 where
  pub tables : (id : ℕ) (stage : Stages) → owned_stages_of d.devices id ≡ Some stage → owned_stages_of d'.devices id ≡ Some stage
      → KeepsTablesIn stage.mode memory memory' stage.root
  pub pages : d.started ≡ true → KeepsPages memory memory' (root_level d.levels) (directory_frame (length memory))

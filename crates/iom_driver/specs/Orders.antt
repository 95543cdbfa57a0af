-- What stands in memory by the time a step tells the IOMMU of it: for the calls inside this crate alone.
use Rattle.std.specs.Prelude.{◌≡◌, ℕ, ◌^◌, ◌<◌, List, None, Err}
use Rattle.iom_base.specs.declared.cause.Cause.TheVariants.{DirectoryEntryNotValid}
use Rattle.iom_base.specs.declared.mode.Mode.{Mode}
use Rattle.iom_base.specs.Modes.{size_in}
use Rattle.iom_base.specs.Sizes.{levels_of}
use Rattle.iom_device_dir.specs.Located.{path_end_from}
use Rattle.iom_directory_build.specs.Pages.{root_level}
use Rattle.iom_page_table.specs.Leaves.{leaf_of}
use Rattle.iom_driver.specs.declared.device.Stages.{Stages}
use Rattle.iom_driver.specs.Tables.{IsRootIn}

-- the root is that of tables in which no page has a leaf
pub record MapsNothing (mode : Mode) (memory : List (List ℕ)) (root : ℕ) : Type 0 where
  pub tree : IsRootIn mode memory root
  pub leaves : (page : ℕ) → page < 2 ^ 52 → leaf_of (levels_of (size_in mode)) memory root page ≡ None

-- the path of the id leads to no context, and the tables of these stages map nothing
pub record IsQuarantinedInMemory (memory : List (List ℕ)) (levels directory id : ℕ) (stage : Stages) : Type 0 where
  pub context : path_end_from memory (root_level levels) directory id ≡ Err DirectoryEntryNotValid
  pub tables : MapsNothing stage.mode memory stage.root

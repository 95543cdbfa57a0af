-- What stands in memory by the time a step tells the IOMMU of it: tables that map nothing, and a context that is cleared.
use Rattle.std.proofs.Common.{◌≡◌, ◌<◌, ◌∙◌, ℕ, List, Option, None, Some, Err, option_map, slice_get, refl, ap}
use Rattle.std.proofs.lemmas.Bool.{eq-eqb}
use Rattle.iom_base.specs.declared.cause.Cause.TheVariants.{DirectoryEntryNotValid}
use Rattle.iom_base.specs.declared.mode.Mode.{Mode}
use Rattle.iom_base.specs.declared.size.Size.{Size}
use Rattle.iom_base.specs.declared.owner.Owner.{Owner}
use Rattle.iom_base.specs.declared.owner.Owner.TheVariants.{OneDevice}
use Rattle.iom_device_dir.specs.Located.{path_end_from}
use Rattle.iom_device_dir.specs.Paths.{ids_below}
use Rattle.iom_directory_build.specs.Pages.{root_level}
use Rattle.iom_directory_build.proofs.Unchanged.{unchanged}
use Rattle.iom_ledger.specs.Changes.{ShowsReleaseOfAll}
use Rattle.iom_ledger.specs.declared.ledger.Ledger.{Ledger}
use Rattle.iom_ledger.specs.Shown.{held_in}
use Rattle.iom_page_table.specs.FirstTables.{HasTable}
use Rattle.iom_driver.specs.declared.device.Device.{Device}
use Rattle.iom_driver.specs.Layout.{IsLevels, directory_frame}
use Rattle.iom_driver.specs.Orders.{MapsNothing}
use Rattle.iom_driver.specs.Tables.{AreTablesOf, leaf_for}
use Rattle.iom_driver.proofs.QuarantineLemmas.{IsCleared, not_of_device}
use Rattle.iom_driver.proofs.Directories.{DirectoryIn, low_levels}
use Rattle.iom_driver.proofs.Unmaps.{AreUnmapped, frame_stays}

-- the tables of a device that holds nothing
pub maps_nothing : (memory : List (List ℕ)) (owners : List (Option Owner)) (ledger : Ledger) (id : ℕ) (mode : Mode) (root : ℕ) → AreTablesOf memory owners ledger id mode root
    → ((page : ℕ) → held_in ledger id page ≡ None) → MapsNothing mode memory root
maps_nothing memory owners ledger id mode root tables none = record {
  tree = tables.tree;
  leaves = λ page low. tables.leaves page low ∙ ap (option_map leaf_for) (none page);
}

-- whoever released everything holds nothing
pub none_left : (old new : Ledger) (id ticket : ℕ) → ShowsReleaseOfAll old new id ticket → (page : ℕ) → held_in new id page ≡ None
none_left old new id ticket released page = released.held id page ∙ rw (eq-eqb id id refl) refl

-- a context that is cleared stays so while leaves of the device are
pub still_cleared : (frames : ℕ) (memory between bare : List (List ℕ)) (owners : List (Option Owner)) (ledger : Ledger) (devices : List Device) (levels id : ℕ) (size : Size) (root : ℕ) → IsLevels levels
    → DirectoryIn frames memory owners devices levels → IsCleared memory between levels (directory_frame frames) id → id < ids_below (root_level levels)
    → ((f : ℕ) → HasTable size between root f → slice_get owners f ≡ Some (Some (OneDevice id))) → AreUnmapped size ledger id root between bare
    → path_end_from bare (root_level levels) (directory_frame frames) id ≡ Err DirectoryEntryNotValid
still_cleared frames memory between bare owners ledger devices levels id size root range stands cleared low own unmapped =
    (unchanged between bare (root_level levels) (directory_frame frames) (low_levels levels range) cleared.tree unmapped.long
    (λ f at. frame_stays size ledger id root between bare f unmapped (λ table. not_of_device owners f id (stands.own f (cleared.pages f at)).system (own f table)))).ends id low
    ∙ cleared.here

-- A walk that stands in a page of a directory that stays (RISC-V IOMMU specification, section 2.3.1): `page_at` is the page of a level on the path of an id, as memory
-- is now.
use Rattle.std.specs.Prelude.{◌≡◌, ℕ, suc, List, Some, Result}
use Rattle.iom_base.specs.declared.cause.Cause.{Cause}
use Rattle.iom_device_dir.specs.declared.context.Context.{Context}
use Rattle.iom_device_dir.specs.Located.{path_end_from}
use Rattle.iom_directory_build.specs.Pages.{next_page, page_at}
use Rattle.iom_walk_loads.specs.Directory.{directory_walk}
use Rattle.iom_walk_loads.specs.Loads.{Ends, after_load}

-- a walk that ends at a load in the directory ends where the id's path ends then
abbrev pub DirectoryEndsAsNow : Type 0
DirectoryEndsAsNow = (memory : List (List ℕ)) (top root level page id : ℕ) (answer : Result Context Cause) → page_at memory top root level id ≡ Some page
    → after_load memory (directory_walk level page id) ≡ Ends answer → path_end_from memory top root id ≡ answer

-- one that goes on does so in the page of the next level
abbrev pub DirectoryGoesOn : Type 0
DirectoryGoesOn = (memory : List (List ℕ)) (top root level page next id : ℕ) → page_at memory top root (suc level) id ≡ Some page → next_page memory page (suc level) id ≡ Some next
    → (page_at memory top root level id ≡ Some next) × (after_load memory (directory_walk (suc level) page id) ≡ directory_walk level next id)

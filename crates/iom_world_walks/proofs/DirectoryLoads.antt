-- One load of a request that stands in the directory: it goes on there, or comes to what the driver wrote for the device.
use Rattle.std.proofs.Common.{◌≡◌, ℕ, zero, suc, ◌<◌, ◌∙◌, List, length, Some, Result, Ok, Err, refl, sym, ap, subst}
use Rattle.std.specs.Bool.{⊤}
use Rattle.iom_base.specs.declared.cause.Cause.{Cause}
use Rattle.iom_device_dir.specs.Located.{loaded_entry}
use Rattle.iom_device_dir.specs.Paths.{ddi, entry_place, ids_below}
use Rattle.iom_device_dir.specs.declared.context.Context.{Context}
use Rattle.iom_device_dir.specs.declared.entry.NonLeafEntry.{NonLeafEntry}
use Rattle.iom_directory_build.specs.Pages.{page_at, page_named, root_level}
use Rattle.iom_driver.specs.Devices.{stages_of}
use Rattle.iom_driver.specs.Directory.{DirectoryStands, located_for}
use Rattle.iom_driver.specs.Layout.{directory_frame}
use Rattle.iom_driver.specs.State.{DriverState}
use Rattle.iom_phys_mem.specs.Words.{word_at}
use Rattle.iom_standing_walks.specs.Pages.{DirectoryEndsAsNow, DirectoryGoesOn}
use Rattle.iom_walk_loads.specs.Directory.{after_entry, directory_walk}
use Rattle.iom_walk_loads.specs.Loads.{Walk, Ends, ReadsEntry, ReadsContext, after_load}
use Rattle.iom_world_walks.specs.Standing.{StandsInDirectory}

-- a walk through the directory that makes a load still
abbrev IsLoad : Walk (Result Context Cause) → Type 0
IsLoad (Ends answer) = ⊥
IsLoad (ReadsEntry address rest) = ⊤
IsLoad (ReadsContext address rest) = ⊤

-- HOW IT IS after a load: it has ended with the context of the device, if that is attached; or stands in the directory still
abbrev pub HasLocated : DriverState → List (List ℕ) → ℕ → Walk (Result Context Cause) → Type 0
HasLocated driver memory id (Ends found) = found ≡ located_for (stages_of driver.devices id)
HasLocated driver memory id (ReadsEntry address rest) = StandsInDirectory driver memory id (ReadsEntry address rest)
HasLocated driver memory id (ReadsContext address rest) = StandsInDirectory driver memory id (ReadsContext address rest)

module _ (ends : DirectoryEndsAsNow) (goes_on : DirectoryGoesOn) (driver : DriverState) (memory : List (List ℕ)) (id : ℕ)
    (directory : DirectoryStands memory driver.owners driver.devices driver.levels) where
  abbrev top : ℕ
  top = root_level driver.levels

  abbrev root : ℕ
  root = directory_frame (length memory)

  on : (level page : ℕ) (after : Walk (Result Context Cause)) → id < ids_below top → page_at memory top root level id ≡ Some page → after_load memory (directory_walk level page id) ≡ after → IsLoad after
      → StandsInDirectory driver memory id after
  on zero page after fits at is load = absurd (subst IsLoad (sym is) load)
  on (suc level) page after fits at is load = by (loaded_entry (word_at 8 memory (entry_place page (ddi (suc level) id)))) refl is
    where
      by : (entry : Result NonLeafEntry Cause) → loaded_entry (word_at 8 memory (entry_place page (ddi (suc level) id))) ≡ entry
          → after_entry (λ next. directory_walk level next id) entry ≡ after → StandsInDirectory driver memory id after
      by (Ok entry) named same =
          let next = entry.next.number in
          let below = goes_on memory top root level page next id at (ap page_named named) in
          record { level = level; page = next; fits = fits; remains = sym same; is_there = below.0 }
      by (Err cause) named same = absurd (subst IsLoad (sym same) load)

  pub located : (rest : Walk (Result Context Cause)) → StandsInDirectory driver memory id rest → HasLocated driver memory id (after_load memory rest)
  located rest stands = by (after_load memory rest) (ap (after_load memory) (sym stands.remains))
    where
      by : (after : Walk (Result Context Cause)) → after_load memory (directory_walk stands.level stands.page id) ≡ after → HasLocated driver memory id after
      by (Ends found) is = sym (ends memory top root stands.level stands.page id found stands.is_there is) ∙ directory.contexts id stands.fits
      by (ReadsEntry address later) is = on stands.level stands.page (ReadsEntry address later) stands.fits stands.is_there is tt
      by (ReadsContext address later) is = on stands.level stands.page (ReadsContext address later) stands.fits stands.is_there is tt

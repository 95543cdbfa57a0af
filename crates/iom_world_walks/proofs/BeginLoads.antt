-- A request at its beginning, and one that begins anew, in a world: where it stands, or how it is answered at once.
use Rattle.std.proofs.Common.{zero, suc, ◌≡◌, ℕ, ◌<◌, Bool, true, false, nat_lt, List, length, Some, None, Err, refl, arith, if◌then◌else◌}
use Rattle.std.proofs.lemmas.Bool.{eq-eqb, leb-false, leb-true}
use Rattle.iom_base.specs.declared.cause.Cause.TheVariants.{TransactionTypeDisallowed}
use Rattle.iom_device_dir.specs.Paths.{fits_directory, ids_below}
use Rattle.iom_directory_build.specs.Pages.{page_at, root_level}
use Rattle.iom_driver.specs.Directory.{mode_of}
use Rattle.iom_driver.specs.Layout.{IsLevels, directory_frame}
use Rattle.iom_driver.specs.State.{DriverState}
use Rattle.iom_stage_walk.specs.Both.{plain}
use Rattle.iom_stepped_requests.specs.Serving.{Remaining, Serves, Locates, Translates, in_directory, without_directory}
use Rattle.iom_stepped_requests.specs.declared.request.Answer.TheVariants.{Faults}
use Rattle.iom_stepped_requests.specs.declared.request.Request.{Request}
use Rattle.iom_tlb.specs.Content.{Translations}
use Rattle.iom_walk_loads.specs.Directory.{directory_walk, locating_by, locating_from}
use Rattle.iom_walk_loads.specs.Loads.{Ends}
use Rattle.iom_world_walks.specs.Standing.{IsTooWide, StandsInDirectory}

-- BY THE LEVELS of the directory
pub way_by : (levels : ℕ) → IsLevels levels → (root id : ℕ) → locating_by (mode_of levels) root id ≡ locating_from (root_level levels) root id
way_by zero range root id = absurd (let low = range.0 in omega (arith, low))
way_by (suc zero) range root id = refl
way_by (suc (suc zero)) range root id = refl
way_by (suc (suc (suc zero))) range root id = refl
way_by (suc (suc (suc (suc n)))) range root id = absurd (let high = range.1 in omega (arith, high))

pub none_without : (levels : ℕ) → IsLevels levels → without_directory (mode_of levels) ≡ None
none_without zero range = absurd (let low = range.0 in omega (arith, low))
none_without (suc zero) range = refl
none_without (suc (suc zero)) range = refl
none_without (suc (suc (suc zero))) range = refl
none_without (suc (suc (suc (suc n)))) range = absurd (let high = range.1 in omega (arith, high))

pub fits_by : (levels : ℕ) → IsLevels levels → (id : ℕ) → fits_directory (mode_of levels) id ≡ nat_lt id (ids_below (root_level levels))
fits_by zero range id = absurd (let low = range.0 in omega (arith, low))
fits_by (suc zero) range id = refl
fits_by (suc (suc zero)) range id = refl
fits_by (suc (suc (suc zero))) range id = refl
fits_by (suc (suc (suc (suc n)))) range id = absurd (let high = range.1 in omega (arith, high))

-- the root is the page of the highest level
root_page : (memory : List (List ℕ)) (top root id : ℕ) → page_at memory top root top id ≡ Some root
root_page memory zero root id = refl
root_page memory (suc top) root id = rw (eq-eqb (suc top) (suc top) refl) refl

-- AT THE ROOT OF THE DIRECTORY: a walk stands there, or the id is too wide
abbrev pub AtRoot : DriverState → List (List ℕ) → Request → Bool → Remaining → Type 0
AtRoot driver memory request anew (Serves answer) = IsTooWide driver request.device × (answer ≡ Faults (plain TransactionTypeDisallowed))
AtRoot driver memory request anew (Locates other again rest) = (other ≡ request) × StandsInDirectory driver memory request.device rest
AtRoot driver memory request anew (Translates other context translated rest) = ⊥

pub at_root : (driver : DriverState) (memory : List (List ℕ)) (cached : Translations) (request : Request) (anew : Bool)
    → AtRoot driver memory request anew (in_directory (length memory) anew cached request (locating_from (root_level driver.levels) (directory_frame (length memory)) request.device))
at_root driver memory cached request anew = by (nat_lt request.device (ids_below (root_level driver.levels))) refl
  where
    top : ℕ
    top = root_level driver.levels

    root : ℕ
    root = directory_frame (length memory)

    loads : (level : ℕ) → request.device < ids_below top → page_at memory top root level request.device ≡ Some root
        → AtRoot driver memory request anew (in_directory (length memory) anew cached request (directory_walk level root request.device))
    loads zero fits at = (refl, record { level = 0; page = root; fits = fits; remains = refl; is_there = at })
    loads (suc level) fits at = (refl, record { level = suc level; page = root; fits = fits; remains = refl; is_there = at })

    by : (b : Bool) → nat_lt request.device (ids_below top) ≡ b
        → AtRoot driver memory request anew (in_directory (length memory) anew cached request (if b then directory_walk top root request.device else Ends (Err TransactionTypeDisallowed)))
    by true low = loads top (leb-true (suc request.device) (ids_below top) low) (root_page memory top root request.device)
    by false high = (let above = leb-false (suc request.device) (ids_below top) high in omega (arith, above), refl)

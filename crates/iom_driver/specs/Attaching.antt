-- What an attach answers, what it leaves, and what stays.
use Rattle.std.specs.Prelude.{◌≡◌, ◌≢◌, ◌⊎◌, ℕ, Bool, List, [], ◌∷◌, ◌++◌, length, None, Some, Result, Ok, Err, Contains, slice_get}
use Rattle.iom_base.specs.declared.mode.Mode.{Mode}
use Rattle.iom_base.specs.declared.mode.Mode.TheVariants.{First, Second, Both}
use Rattle.iom_base.specs.declared.owner.Owner.TheVariants.{System, OneDevice}
use Rattle.iom_directory_build.specs.Pages.{missing_pages, root_level}
use Rattle.iom_directory_build.specs.Written.{hung}
use Rattle.iom_base.specs.declared.refusal.Refusal.{Refusal}
use Rattle.iom_base.specs.declared.refusal.Refusal.TheVariants.{NoFrames}
use Rattle.iom_base.specs.Refusals.{NoneApplies, IsRefusedBy}
use Rattle.iom_page_table.specs.SecondTables.{other_quarters}
use Rattle.iom_table_frames.specs.Fours.{IsHighestFour, NoFourAreFree}
use Rattle.iom_table_frames.specs.Owners.{HasFree, IsHighestFree, NoneIsFree}
use Rattle.iom_driver.specs.declared.device.Attachment.TheVariants.{Attached}
use Rattle.iom_driver.specs.declared.device.Stages.{Stages}
use Rattle.iom_driver.specs.Choices.{AreHighestFree, owned_by, cleared}
use Rattle.iom_driver.specs.Devices.{with_attachment, IsLowestNumber}
use Rattle.iom_driver.specs.Directory.{context_for}
use Rattle.iom_driver.specs.Layout.{directory_frame}
use Rattle.iom_driver.specs.Reasons.{why_not_attach}
use Rattle.iom_driver.specs.Standing.{LeavesStanding}
use Rattle.iom_driver.specs.State.{DriverState}

-- how many pages of the directory the id's path lacks
abbrev pub lacking_pages : DriverState → List (List ℕ) → ℕ → ℕ
lacking_pages d memory id = missing_pages memory (root_level d.levels) (directory_frame (length memory)) id

-- these are the highest free frames, as many as the directory lacks pages
abbrev pub AreDirectoryPages : DriverState → List (List ℕ) → ℕ → List ℕ → Type 0
AreDirectoryPages d memory id pages = AreHighestFree d.owners d.ledger None (length memory) (lacking_pages d memory id) pages

-- what is free once these pages, the highest free frames, are taken, lies below the last of them
abbrev pub limit_below : ℕ → List ℕ → ℕ
limit_below limit [] = limit
limit_below limit (page ∷ pages) = limit_below page pages

-- a root of a first stage takes the highest free frame below the limit; one of a second stage the highest four, the first a multiple of four
abbrev pub IsRootBelow : Mode → DriverState → ℕ → ℕ → Type 0
IsRootBelow (First size) d limit root = IsHighestFree d.owners d.ledger None limit root
IsRootBelow (Second size) d limit root = IsHighestFour d.owners d.ledger limit root
IsRootBelow (Both size) d limit root = IsHighestFour d.owners d.ledger limit root

-- there is no place for it
abbrev pub NoRootBelow : Mode → DriverState → ℕ → Type 0
NoRootBelow (First size) d limit = NoneIsFree d.owners d.ledger None 0 limit
NoRootBelow (Second size) d limit = NoFourAreFree d.owners d.ledger 0 limit
NoRootBelow (Both size) d limit = NoFourAreFree d.owners d.ledger 0 limit

-- the frames that the root fills
abbrev pub root_frames : Mode → ℕ → List ℕ
root_frames (First size) root = root ∷ []
root_frames (Second size) root = root ∷ other_quarters root
root_frames (Both size) root = root ∷ other_quarters root

-- The directory pages that the id's path lacks, from the root of the directory down, take the highest free frames, and then the root of the device's
-- tables the highest that are free then. The lowest free number is the device's address space. Memory is what it was, but that these frames are zero, and
-- then the pages hang on the id's path, with the device's context, with ATS or without: no frame but these and the system's changes.
pub record TakesRoot (d : DriverState) (memory : List (List ℕ)) (id : ℕ) (mode : Mode) (ats : Bool) (d' : DriverState) (memory' : List (List ℕ)) : Type 0 where
  pub stage : Stages
  pub in_mode : stage.mode ≡ mode
  pub with_ats : stage.ats ≡ ats
  pub pages : List ℕ
  pub chosen : AreDirectoryPages d memory id pages
  pub root : IsRootBelow mode d (limit_below (length memory) pages) stage.root
  pub lowest : IsLowestNumber d.devices stage.number
  pub driver : d' ≡ record d {
    owners = owned_by (OneDevice id) (root_frames mode stage.root) (owned_by System pages d.owners);
    devices = with_attachment d.devices id (Attached stage);
  }
  pub bytes : memory' ≡ hung (cleared (pages ++ root_frames mode stage.root) memory) (root_level d.levels) (directory_frame (length memory)) id pages (context_for stage)
  pub others : (f : ℕ) → slice_get d.owners f ≢ Some (Some System) → ¬ Contains (pages ++ root_frames mode stage.root) f → slice_get memory' f ≡ slice_get memory f
  pub standing : LeavesStanding d memory d' memory'

-- an attach finds too few free frames: for the pages, or, once these are taken, for the root
abbrev pub LacksRoot : DriverState → List (List ℕ) → ℕ → Mode → Refusal → Type 0
LacksRoot d memory id mode NoFrames =
    (¬ HasFree d.owners d.ledger None (lacking_pages d memory id) (length memory))
    ⊎ ((pages : List ℕ) × AreDirectoryPages d memory id pages × NoRootBelow mode d (limit_below (length memory) pages))
LacksRoot d memory id mode _ = ⊥

-- ATTACH
abbrev pub AnswersAttach : DriverState → List (List ℕ) → ℕ → Mode → Bool → Result (Unit {0}) Refusal → DriverState → List (List ℕ) → Type 0
AnswersAttach d memory id mode ats (Ok done) d' memory' = NoneApplies (why_not_attach d id ats) × TakesRoot d memory id mode ats d' memory'
AnswersAttach d memory id mode ats (Err why) d' memory' = IsRefusedBy (why_not_attach d id ats) (LacksRoot d memory id mode) why × (d' ≡ d) × (memory' ≡ memory)

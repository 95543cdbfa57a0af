-- What an attach has found out when it takes its frames: for the calls inside this crate alone.
use Rattle.std.specs.Prelude.{ℕ, ◌≤◌, List, None}
use Rattle.iom_directory_build.specs.Pages.{missing_pages, root_level}
use Rattle.iom_driver.specs.declared.device.Stages.{Stages}
use Rattle.iom_driver.specs.Admitted.{MayBeAttached}
use Rattle.iom_driver.specs.Attaching.{IsRootBelow, limit_below}
use Rattle.iom_driver.specs.Choices.{AreHighestFree}
use Rattle.iom_driver.specs.Devices.{IsLowestNumber}
use Rattle.iom_driver.specs.Layout.{directory_frame}
use Rattle.iom_driver.specs.State.{DriverState}

-- the device may be attached; the pages and the root are the highest free frames, as many as it lacks; and its number is the lowest free one
pub record MayEnter (d : DriverState) (frames : ℕ) (memory : List (List ℕ)) (id : ℕ) (stages : Stages) (pages : List ℕ) : Type 0 where
  pub admitted : MayBeAttached d id
  pub chosen : AreHighestFree d.owners d.ledger None frames (missing_pages memory (root_level d.levels) (directory_frame frames) id) pages
  pub root : IsRootBelow stages.mode d (limit_below frames pages) stages.root
  pub lowest : IsLowestNumber d.devices stages.number
  pub small : stages.number ≤ 17

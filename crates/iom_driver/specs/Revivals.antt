-- What a revival answers, what it leaves, and what stays.
use Rattle.std.specs.Prelude.{◌≡◌, ◌≢◌, ℕ, List, [], length, Some, Result, Ok, Err, slice_get}
use Rattle.iom_base.specs.declared.owner.Owner.TheVariants.{System}
use Rattle.iom_directory_build.specs.Pages.{root_level}
use Rattle.iom_directory_build.specs.Written.{hung}
use Rattle.iom_base.specs.declared.refusal.Refusal.{Refusal}
use Rattle.iom_base.specs.Refusals.{first_that_applies, NoneApplies}
use Rattle.iom_driver.specs.declared.device.Attachment.TheVariants.{Attached, Quarantined}
use Rattle.iom_driver.specs.declared.device.Stages.{Stages}
use Rattle.iom_driver.specs.Devices.{attachment_by_id, with_attachment}
use Rattle.iom_driver.specs.Directory.{context_for}
use Rattle.iom_driver.specs.Layout.{directory_frame}
use Rattle.iom_driver.specs.Reasons.{why_not_revive}
use Rattle.iom_driver.specs.Standing.{LeavesStanding}
use Rattle.iom_driver.specs.State.{DriverState}

-- A device that was quarantined is attached in the stages that it had, and its context stands in the directory as before. No frame changes but the system's, of
-- which the directory's pages are some.
pub record WritesContextAgain (d : DriverState) (memory : List (List ℕ)) (id : ℕ) (d' : DriverState) (memory' : List (List ℕ)) : Type 0 where
  pub ticket : ℕ
  pub stage : Stages
  pub quarantined : attachment_by_id d.devices id ≡ Quarantined ticket stage
  pub driver : d' ≡ record d { devices = with_attachment d.devices id (Attached stage) }
  pub bytes : memory' ≡ hung memory (root_level d.levels) (directory_frame (length memory)) id [] (context_for stage)
  pub others : (f : ℕ) → slice_get d.owners f ≢ Some (Some System) → slice_get memory' f ≡ slice_get memory f
  pub standing : LeavesStanding d memory d' memory'

-- REVIVE
abbrev pub AnswersRevive : DriverState → List (List ℕ) → ℕ → Result (Unit {0}) Refusal → DriverState → List (List ℕ) → Type 0
AnswersRevive d memory id (Ok done) d' memory' = NoneApplies (why_not_revive d id) × WritesContextAgain d memory id d' memory'
AnswersRevive d memory id (Err why) d' memory' = (first_that_applies (why_not_revive d id) ≡ Some why) × (d' ≡ d) × (memory' ≡ memory)

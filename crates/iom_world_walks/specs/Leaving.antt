-- What an event leaves of tables and of the directory, for the requests that stand there.
use Rattle.std.specs.Prelude.{◌≡◌, ℕ, ◌⊎◌, List, length, Some, None}
use Rattle.iom_driver.specs.Devices.{owned_stages_of}
use Rattle.iom_driver.specs.Standing.{LeavesStanding}
use Rattle.iom_driver.specs.State.{DriverState}
use Rattle.iom_driver.specs.declared.device.Stages.{Stages}

-- a device that has tables has the same, by the same context, or is detached
abbrev pub KeepsStages : DriverState → DriverState → Type 0
KeepsStages old new = (id : ℕ) (stage : Stages) → owned_stages_of old.devices id ≡ Some stage
    → (owned_stages_of new.devices id ≡ Some stage) ⊎ (owned_stages_of new.devices id ≡ None)

-- and each table of such a device is where it was, and each page of the directory
pub record LeavesTables (driver : DriverState) (memory : List (List ℕ)) (new_driver : DriverState) (new_memory : List (List ℕ)) : Type 0 where
  pub size : length new_memory ≡ length memory
  pub levels : new_driver.levels ≡ driver.levels
  pub stages : KeepsStages driver new_driver
  pub standing : LeavesStanding driver memory new_driver new_memory

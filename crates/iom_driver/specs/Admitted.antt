-- What a call has found out when it wasn't refused: for the calls inside this crate alone.
use Rattle.std.specs.Prelude.{◌≡◌, ℕ, ◌+◌, ◌-◌, ◌%◌, ◌<◌, ◌≤◌, ⊤, true, false, length, None, Some, IsSome}
use Rattle.iom_base.specs.declared.mode.Mode.{Mode}
use Rattle.iom_base.specs.declared.mode.Mode.TheVariants.{First, Second, Both}
use Rattle.iom_base.specs.Modes.{size_in}
use Rattle.iom_base.specs.Sizes.{page_limit_of}
use Rattle.iom_command_queue.specs.Waiting.{how_many}
use Rattle.iom_ledger.specs.History.{pending_limit}
use Rattle.iom_ledger.specs.Shown.{held_in, lingering_in}
use Rattle.iom_registers.specs.declared.registers.Registers.{Registers}
use Rattle.iom_table_frames.specs.Owners.{has_owner}
use Rattle.iom_driver.specs.declared.device.Stages.{Stages}
use Rattle.iom_driver.specs.declared.device.Attachment.TheVariants.{Quarantined}
use Rattle.iom_driver.specs.Devices.{attachment_by_id, has_device, stages_of, owned_stages_of}
use Rattle.iom_driver.specs.Fences.{last_fence}
use Rattle.iom_driver.specs.Layout.{queue_entries}
use Rattle.iom_base.specs.DeviceIds.{id_limit}
use Rattle.iom_driver.specs.Reasons.{release_places}
use Rattle.iom_driver.specs.State.{DriverState}

pub record MayBeAttached (d : DriverState) (id : ℕ) : Type 0 where
  pub started : d.started ≡ true
  pub plugged : has_device d.devices id ≡ true
  pub nothing : owned_stages_of d.devices id ≡ None
  pub narrow : id < id_limit d.levels

pub record MayBeGranted (d : DriverState) (id page frame : ℕ) (stage : Stages) : Type 0 where
  pub attached : stages_of d.devices id ≡ Some stage
  pub inside : frame < length d.owners
  pub unreserved : has_owner d.owners frame ≡ false
  pub page_low : page < page_limit_of (size_in stage.mode)
  pub not_held : held_in d.ledger id page ≡ None
  pub not_lingering : lingering_in d.ledger id page ≡ None

pub record MayBeReleased (d : DriverState) (r : Registers) (id page : ℕ) (stage : Stages) : Type 0 where
  pub started : d.started ≡ true
  pub attached : stages_of d.devices id ≡ Some stage
  pub held : IsSome (held_in d.ledger id page)
  pub few : d.given - d.confirmed < pending_limit
  pub room : how_many r + release_places (Some stage) < queue_entries
  pub number : last_fence d < 4294967295

pub record MayBeDetached (d : DriverState) (r : Registers) (id : ℕ) (stage : Stages) : Type 0 where
  pub started : d.started ≡ true
  pub attached : stages_of d.devices id ≡ Some stage
  pub none_held : (page : ℕ) → held_in d.ledger id page ≡ None
  pub few : d.given - d.confirmed < pending_limit
  pub room : how_many r + 3 < queue_entries
  pub number : last_fence d < 4294967295

pub record MayBeQuarantined (d : DriverState) (r : Registers) (id : ℕ) (stage : Stages) : Type 0 where
  pub started : d.started ≡ true
  pub attached : stages_of d.devices id ≡ Some stage
  pub few : d.given - d.confirmed < pending_limit
  pub room : how_many r + 3 < queue_entries
  pub number : last_fence d < 4294967295

pub record MayBeRevived (d : DriverState) (id : ℕ) (stage : Stages) : Type 0 where
  pub started : d.started ≡ true
  pub ticket : ℕ
  pub quarantined : attachment_by_id d.devices id ≡ Quarantined ticket stage
  pub over : ticket ≤ d.confirmed

-- the root may be that of tables in the mode: a second stage's fills four frames, and is aligned to that
abbrev pub IsAligned : Mode → ℕ → Type 0
IsAligned (First size) root = ⊤
IsAligned (Second size) root = root % 4 ≡ 0
IsAligned (Both size) root = root % 4 ≡ 0

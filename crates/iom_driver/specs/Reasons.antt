-- Why a call is refused: its reasons, in the order in which it tests them.
use Rattle.std.specs.Prelude.{ℕ, ◌+◌, ◌-◌, Bool, not, ◌||◌, ◌&&◌, nat_le, nat_lt, false, List, [], ◌∷◌, length, Option, None, Some, is_some, is_none, IsSome, ◌⊎◌, if◌then◌else◌}
use Rattle.iom_base.specs.Modes.{size_in}
use Rattle.iom_base.specs.Sizes.{page_limit_of}
use Rattle.iom_command_queue.specs.Waiting.{how_many}
use Rattle.iom_ledger.specs.declared.ledger.Ledger.{Ledger}
use Rattle.iom_base.specs.declared.refusal.Refusal.{Refusal}
use Rattle.iom_base.specs.declared.refusal.Refusal.TheVariants.{NotStarted, AlreadyPlugged, TooManyDevices, NoSuchDevice, AlreadyAttached, NotAttached, IdTooWide, NotTrusted}
use Rattle.iom_base.specs.declared.refusal.Refusal.TheVariants.{FrameOutOfRange, FrameReserved, IovaOutOfRange, IovaBusy, NotGranted, StillGranted, TooManyPending, QueueFull, Quarantined, NumbersUsedUp}
use Rattle.iom_ledger.specs.History.{pending_limit}
use Rattle.iom_ledger.specs.Shown.{held_in, lingering_in}
use Rattle.iom_registers.specs.declared.registers.Registers.{Registers}
use Rattle.iom_registers.specs.Queues.{command_entries}
use Rattle.iom_table_frames.specs.Owners.{has_owner}
use Rattle.iom_driver.specs.declared.device.Stages.{Stages}
use Rattle.iom_driver.specs.declared.device.Attachment.{Attachment}
use Rattle.iom_driver.specs.declared.device.Attachment.TheVariants as attachment
use Rattle.iom_driver.specs.Devices.{has_device, has_trusted_cache, is_away, is_quarantined, attachment_by_id, stages_of, owned_stages_of}
use Rattle.iom_driver.specs.Fences.{last_fence}
use Rattle.iom_base.specs.DeviceIds.{id_limit}
use Rattle.iom_driver.specs.State.{DriverState}

-- whether something is held or lingers at the page
abbrev pub is_busy : DriverState → ℕ → ℕ → Bool
is_busy d id page = is_some (held_in d.ledger id page) || is_some (lingering_in d.ledger id page)

-- whether fewer places of the ring than these are free: one stays empty, since a queue whose head and tail are the same has no command
abbrev pub lacks_places : ℕ → Registers → Bool
lacks_places places r = nat_le (command_entries r) (how_many r + places)

-- how many places the commands of a release take (`release_commands`), by the stages of the device
abbrev pub release_places : Option Stages → ℕ
release_places None = 0
release_places (Some stage) = if stage.ats then 3 else 2

-- a device is plugged in
abbrev pub why_not_plug : DriverState → ℕ → List (Bool × Refusal)
why_not_plug d id =
    (has_device d.devices id, AlreadyPlugged)
    ∷ (nat_le 16 (length d.devices), TooManyDevices)
    ∷ []

-- a device is attached, with ATS or without
abbrev pub why_not_attach : DriverState → ℕ → Bool → List (Bool × Refusal)
why_not_attach d id ats =
    (not d.started, NotStarted)
    ∷ (not (has_device d.devices id), NoSuchDevice)
    ∷ (is_some (owned_stages_of d.devices id), AlreadyAttached)
    ∷ (nat_le (id_limit d.levels) id, IdTooWide)
    ∷ (ats && not (has_trusted_cache d.devices id), NotTrusted)
    ∷ []

-- the driver isn't started, or the device isn't there, or isn't attached (any longer), or is quarantined
abbrev pub why_not_attached : DriverState → ℕ → List (Bool × Refusal) → List (Bool × Refusal)
why_not_attached d id later =
    (not d.started, NotStarted)
    ∷ (not (has_device d.devices id), NoSuchDevice)
    ∷ (is_away (attachment_by_id d.devices id), NotAttached)
    ∷ (is_quarantined (attachment_by_id d.devices id), Quarantined)
    ∷ later

-- the pages that may be granted are below this, by the stages of the device
abbrev pub page_limit_in : Option Stages → ℕ
page_limit_in None = 0
page_limit_in (Some stage) = page_limit_of (size_in stage.mode)

-- beyond that: a frame is granted at a page
abbrev pub granting_reasons : DriverState → ℕ → ℕ → ℕ → List (Bool × Refusal)
granting_reasons d id page frame =
    (nat_le (length d.owners) frame, FrameOutOfRange)
    ∷ (has_owner d.owners frame, FrameReserved)
    ∷ (nat_le (page_limit_in (stages_of d.devices id)) page, IovaOutOfRange)
    ∷ (is_busy d id page, IovaBusy)
    ∷ []

abbrev pub why_not_grant : DriverState → ℕ → ℕ → ℕ → List (Bool × Refusal)
why_not_grant d id page frame = why_not_attached d id (granting_reasons d id page frame)

-- and: a page is released, by so many commands
abbrev pub releasing_reasons : DriverState → Registers → ℕ → ℕ → ℕ → List (Bool × Refusal)
releasing_reasons d r places id page =
    (is_none (held_in d.ledger id page), NotGranted)
    ∷ (nat_le pending_limit (d.given - d.confirmed), TooManyPending)
    ∷ (lacks_places places r, QueueFull)
    ∷ (nat_le 4294967295 (last_fence d), NumbersUsedUp)
    ∷ []

abbrev pub why_not_release : DriverState → Registers → ℕ → ℕ → List (Bool × Refusal)
why_not_release d r id page = why_not_attached d id (releasing_reasons d r (release_places (stages_of d.devices id)) id page)

-- a device is detached, where it holds or lingers on something or not: `granted` says which
abbrev pub detaching_reasons : DriverState → Registers → Bool → List (Bool × Refusal)
detaching_reasons d r granted =
    (granted, StillGranted)
    ∷ (nat_le pending_limit (d.given - d.confirmed), TooManyPending)
    ∷ (lacks_places 3 r, QueueFull)
    ∷ (nat_le 4294967295 (last_fence d), NumbersUsedUp)
    ∷ []

abbrev pub why_not_detach : DriverState → Registers → Bool → ℕ → List (Bool × Refusal)
why_not_detach d r granted id = why_not_attached d id (detaching_reasons d r granted)

-- a device is quarantined
abbrev pub quarantining_reasons : DriverState → Registers → List (Bool × Refusal)
quarantining_reasons d r =
    (nat_le pending_limit (d.given - d.confirmed), TooManyPending)
    ∷ (lacks_places 3 r, QueueFull)
    ∷ (nat_le 4294967295 (last_fence d), NumbersUsedUp)
    ∷ []

abbrev pub why_not_quarantine : DriverState → Registers → ℕ → List (Bool × Refusal)
why_not_quarantine d r id = why_not_attached d id (quarantining_reasons d r)

-- whether a device that is attached so is quarantined under a ticket that isn't confirmed
abbrev pub waits_for_its_ticket : ℕ → Attachment → Bool
waits_for_its_ticket confirmed attachment.Detached = false
waits_for_its_ticket confirmed (attachment.Attached stage) = false
waits_for_its_ticket confirmed (attachment.Quarantined ticket stage) = nat_lt confirmed ticket
waits_for_its_ticket confirmed (attachment.Leaving ticket stage) = false

-- a quarantined device is attached again
abbrev pub why_not_revive : DriverState → ℕ → List (Bool × Refusal)
why_not_revive d id =
    (not d.started, NotStarted)
    ∷ (not (has_device d.devices id), NoSuchDevice)
    ∷ (is_away (attachment_by_id d.devices id), NotAttached)
    ∷ (is_some (stages_of d.devices id), AlreadyAttached)
    ∷ (waits_for_its_ticket d.confirmed (attachment_by_id d.devices id), StillGranted)
    ∷ []

-- the command queue is emptied
abbrev pub why_not_restart : DriverState → List (Bool × Refusal)
why_not_restart d =
    (not d.started, NotStarted)
    ∷ (nat_le 4294967295 (last_fence d), NumbersUsedUp)
    ∷ []

-- the device holds something, or lingers on it
abbrev pub HasGrants : Ledger → ℕ → Type 0
HasGrants ledger id = (page : ℕ) × (IsSome (held_in ledger id page) ⊎ IsSome (lingering_in ledger id page))

-- the completion word is polled
abbrev pub why_not_poll : DriverState → List (Bool × Refusal)
why_not_poll d = (not d.started, NotStarted) ∷ []

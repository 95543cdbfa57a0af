-- What is looked at of a driver by somebody who explains its answers.
use Rattle.std.specs.Prelude.{ℕ, ◌+◌, nat_lt, nat_le, ◌&&◌, Option, None, Some, if◌then◌else◌}
use Rattle.iom_driver.specs.declared.device.Attachment.{Attachment}
use Rattle.iom_driver.specs.declared.device.Attachment.TheVariants.{Detached, Attached, Quarantined, Leaving}
use Rattle.iom_driver.specs.Fences.{fence_of}
use Rattle.iom_driver.specs.State.{DriverState}

-- the fence that a ticket waits for, which was given and isn't confirmed
abbrev pub awaited_fence : DriverState → ℕ → Option ℕ
awaited_fence d ticket = if nat_lt d.confirmed ticket && nat_le ticket d.given then Some (fence_of d ticket) else None

-- the oldest ticket that isn't confirmed
abbrev pub oldest_pending : DriverState → Option ℕ
oldest_pending d = if nat_lt d.confirmed d.given then Some (d.confirmed + 1) else None

-- the ticket under which a device that is attached so was quarantined, or leaves
abbrev pub parting_ticket : Attachment → Option ℕ
parting_ticket Detached = None
parting_ticket (Attached stage) = None
parting_ticket (Quarantined ticket stage) = Some ticket
parting_ticket (Leaving ticket stage) = Some ticket

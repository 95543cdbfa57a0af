-- What becomes of leaving devices, and of their frames, once their tickets are confirmed. Which tickets a poll confirms is said by
-- `ConfirmsDone` in Polling.antt.
use Rattle.std.specs.Prelude.{◌≡◌, ℕ, nat_le, Bool, true, false, List, length, Option, None, Some, slice_get, if◌then◌else◌}
use Rattle.iom_base.specs.declared.owner.Owner.{Owner}
use Rattle.iom_base.specs.declared.owner.Owner.TheVariants.{System, OneDevice}
use Rattle.iom_phys_mem.specs.Words.{zeroed}
use Rattle.iom_driver.specs.declared.device.Attachment.{Attachment}
use Rattle.iom_driver.specs.declared.device.Attachment.TheVariants.{Detached, Attached, Quarantined, Leaving}
use Rattle.iom_driver.specs.declared.device.Device.{Device}
use Rattle.iom_driver.specs.Devices.{attachment_by_id}

-- whether it leaves under a ticket up to the last that was confirmed
abbrev pub has_left_until : ℕ → Attachment → Bool
has_left_until done Detached = false
has_left_until done (Attached stage) = false
has_left_until done (Quarantined ticket stage) = false
has_left_until done (Leaving ticket stage) = nat_le ticket done

-- a device that leaves so is attached to nothing from then on; each other one stays
abbrev pub driven_once_confirmed : ℕ → Device → Device
driven_once_confirmed done device = record device { attachment = if has_left_until done device.attachment then Detached else device.attachment }

-- whether the owner is a device that leaves so
abbrev pub is_gone : ℕ → List Device → Owner → Bool
is_gone done devices System = false
is_gone done devices (OneDevice id) = has_left_until done (attachment_by_id devices id)

-- the owner of a frame then: what such a device owned has no owner any more
abbrev pub owner_given_back : ℕ → List Device → Option Owner → Option Owner
owner_given_back done devices None = None
owner_given_back done devices (Some owner) = if is_gone done devices owner then None else Some owner

-- and memory: each frame of such a device is zero, and no other changes
pub record ClearsGone (done : ℕ) (devices : List Device) (owners : List (Option Owner)) (old new : List (List ℕ)) : Type 0 where
  pub size : length new ≡ length old
  pub own : (frame : ℕ) (owner : Owner) → slice_get owners frame ≡ Some (Some owner) → is_gone done devices owner ≡ true → slice_get new frame ≡ Some zeroed
  pub others : (frame : ℕ) → ((owner : Owner) → slice_get owners frame ≡ Some (Some owner) → is_gone done devices owner ≡ false) → slice_get new frame ≡ slice_get old frame

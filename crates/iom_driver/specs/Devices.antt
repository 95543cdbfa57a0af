-- The devices that are plugged in: how each is attached, and which address spaces are theirs.
use Rattle.std.specs.Prelude.{◌≡◌, ◌==◌, ℕ, ◌<◌, ◌≤◌, ⊤, Bool, true, false, List, [], ◌∷◌, Option, None, Some, is_some, if◌then◌else◌}
use Rattle.std.specs.List.{list_any}
use Rattle.std.specs.Option.{option_map_or}
use Rattle.iom_driver.specs.declared.device.Attachment.{Attachment}
use Rattle.iom_driver.specs.declared.device.Attachment.TheVariants.{Detached, Attached, Quarantined, Leaving}
use Rattle.iom_driver.specs.declared.device.Device.{Device}
use Rattle.iom_driver.specs.declared.device.Stages.{Stages}

-- the device with this id
abbrev pub device_by_id : List Device → ℕ → Option Device
device_by_id [] id = None
device_by_id (device ∷ others) id = if device.id == id then Some device else device_by_id others id

-- whether there is one
abbrev pub has_device : List Device → ℕ → Bool
has_device devices id = is_some (device_by_id devices id)

-- whether the device with this id has a cache of translations of its own that obeys invalidations; false where there is none
abbrev pub has_trusted_cache : List Device → ℕ → Bool
has_trusted_cache devices id = option_map_or (λ (device : Device). device.trusted) (device_by_id devices id) false

-- how the device with this id is attached; Detached where there is none
abbrev pub attachment_by_id : List Device → ℕ → Attachment
attachment_by_id devices id = option_map_or (λ (device : Device). device.attachment) (device_by_id devices id) Detached

-- the stages of an attached device
abbrev pub attached_stages : Attachment → Option Stages
attached_stages Detached = None
attached_stages (Attached stage) = Some stage
attached_stages (Quarantined ticket stage) = None
attached_stages (Leaving ticket stage) = None

-- those of an attached, a quarantined or a leaving one: its tables and its number are still its own
abbrev pub owned_stages : Attachment → Option Stages
owned_stages Detached = None
owned_stages (Attached stage) = Some stage
owned_stages (Quarantined ticket stage) = Some stage
owned_stages (Leaving ticket stage) = Some stage

-- whether a device that is attached so is attached with ATS
abbrev pub is_attached_with_ats : Attachment → Bool
is_attached_with_ats Detached = false
is_attached_with_ats (Attached stage) = stage.ats
is_attached_with_ats (Quarantined ticket stage) = false
is_attached_with_ats (Leaving ticket stage) = false

-- whether it isn't attached, or not any longer: it was detached
abbrev pub is_away : Attachment → Bool
is_away Detached = true
is_away (Attached stage) = false
is_away (Quarantined ticket stage) = false
is_away (Leaving ticket stage) = true

-- whether it is quarantined
abbrev pub is_quarantined : Attachment → Bool
is_quarantined Detached = false
is_quarantined (Attached stage) = false
is_quarantined (Quarantined ticket stage) = true
is_quarantined (Leaving ticket stage) = false

-- the stages of the device with this id, where it is attached
abbrev pub stages_of : List Device → ℕ → Option Stages
stages_of devices id = attached_stages (attachment_by_id devices id)

-- where it is attached, quarantined or leaving
abbrev pub owned_stages_of : List Device → ℕ → Option Stages
owned_stages_of devices id = owned_stages (attachment_by_id devices id)

-- a device as it is plugged in: attached to nothing
abbrev pub detached : ℕ → Bool → Device
detached id trusted = record { id = id; trusted = trusted; attachment = Detached }

-- the devices, where the one with this id is attached so
abbrev pub with_attachment : List Device → ℕ → Attachment → List Device
with_attachment [] id attachment = []
with_attachment (device ∷ others) id attachment =
    if device.id == id then (record device { attachment = attachment }) ∷ others else device ∷ with_attachment others id attachment

-- each device has an id of its own
abbrev pub HaveOwnIds : List Device → Type 0
HaveOwnIds [] = ⊤
HaveOwnIds (device ∷ others) = (device_by_id others device.id ≡ None) × HaveOwnIds others

-- whether the device, attached, quarantined or leaving, has this address-space number
abbrev pub has_number : ℕ → Device → Bool
has_number number device = option_map_or (λ (stage : Stages). stage.number == number) (owned_stages device.attachment) false

-- whether an attached, quarantined or leaving device holds the number
abbrev pub is_used : List Device → ℕ → Bool
is_used devices number = list_any (has_number number) devices

-- no attached, quarantined or leaving device holds the number, and it is the lowest such from 1 on
pub record IsLowestNumber (devices : List Device) (number : ℕ) : Type 0 where
  pub from_one : 1 ≤ number
  pub unused : is_used devices number ≡ false
  pub lowest : (n : ℕ) → 1 ≤ n → n < number → is_used devices n ≡ true

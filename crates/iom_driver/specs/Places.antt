-- Where the device with an id stands: for the calls inside this crate alone.
use Rattle.std.specs.Prelude.{◌≡◌, ℕ, List, Some, slice_get, slice_set}
use Rattle.iom_driver.specs.declared.device.Device.{Device}
use Rattle.iom_driver.specs.declared.device.Attachment.{Attachment}
use Rattle.iom_driver.specs.Devices.{device_by_id, with_attachment}

-- the device that stands there is the one with the id, and an attachment that is set there is set for it
abbrev pub IsAttachmentPlace : List Device → ℕ → ℕ → Type 0
IsAttachmentPlace devices id place =
    (device : Device) × (slice_get devices place ≡ Some device) × (device_by_id devices id ≡ Some device)
    × ((attachment : Attachment) → slice_set devices place (record device { attachment = attachment }) ≡ with_attachment devices id attachment)

-- Whether a device is among those that are plugged in.
use Rattle.std.specs.Prelude.{◌≡◌, ◌≢◌, ℕ, List, Contains}
use Rattle.iom_device.specs.declared.device.Device.{Device}

-- no device has this id
abbrev pub IsAbsent : List Device → ℕ → Type 0
IsAbsent devices id = (device : Device) → Contains devices device → device.id ≢ id

-- some device has it
abbrev pub IsPresent : List Device → ℕ → Type 0
IsPresent devices id = (device : Device) × Contains devices device × (device.id ≡ id)

-- An event of a device that isn't plugged in, or can't do that, changes nothing.
use Rattle.std.specs.Prelude.{◌≡◌, ℕ, Bool, false, Some}
use Rattle.iom_base.specs.declared.refusal.Refusal.TheVariants.{NoSuchDevice, WrongKind}
use Rattle.iom_machine.specs.declared.outcome.Outcome.{Outcome}
use Rattle.iom_machine.specs.declared.outcome.Outcome.TheVariants.{Refused}
use Rattle.iom_base.specs.declared.device_kind.DeviceKind.{DeviceKind}
use Rattle.iom_device.specs.Caches.{kind_in}
use Rattle.iom_world_effects.specs.Parts.{Parts}
use Rattle.iom_world_effects.specs.Places.{IsAbsent}

-- no device has the id
pub record IsUnknown (old : Parts) (id : ℕ) (reply : Outcome) (new : Parts) : Type 0 where
  pub absent : IsAbsent old.devices id
  pub reply_is : reply ≡ Refused NoSuchDevice
  pub same : new ≡ old

-- the device is of a kind that can't
pub record IsUnable (can : DeviceKind → Bool) (old : Parts) (id : ℕ) (reply : Outcome) (new : Parts) : Type 0 where
  pub kind : DeviceKind
  pub there : kind_in old.devices id ≡ Some kind
  pub cannot : can kind ≡ false
  pub reply_is : reply ≡ Refused WrongKind
  pub same : new ≡ old

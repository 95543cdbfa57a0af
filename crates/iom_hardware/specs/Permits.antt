-- How a call of a block device is refused, where there is none with the id.
-- For the calls inside this crate alone; no public contract cites these.
use Rattle.std.specs.Prelude.{◌≡◌, true, false, Option, None, Some}
use Rattle.iom_base.specs.DeviceKinds.{is_block_device}
use Rattle.iom_base.specs.declared.device_kind.DeviceKind.{DeviceKind}
use Rattle.iom_base.specs.declared.refusal.Refusal.{Refusal}
use Rattle.iom_base.specs.declared.refusal.Refusal.TheVariants.{NoSuchDevice, WrongKind}

abbrev pub IsBlockOrRefused : Option DeviceKind → Option Refusal → Type 0
IsBlockOrRefused None None = ⊥
IsBlockOrRefused None (Some why) = why ≡ NoSuchDevice
IsBlockOrRefused (Some kind) None = is_block_device kind ≡ true
IsBlockOrRefused (Some kind) (Some why) = (is_block_device kind ≡ false) × (why ≡ WrongKind)

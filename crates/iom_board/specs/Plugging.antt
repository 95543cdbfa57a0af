-- How a device is plugged in, and a disk put into one.
use Rattle.std.specs.Prelude.{◌≡◌, ◌⊎◌, ℕ, Bool, true, false, nat_le, List, [], ◌∷◌, ◌++◌, length, Some, is_some, Result, Ok, Err}
use Rattle.std.specs.Option.{option_map_or}
use Rattle.iom_base.specs.DeviceKinds.{kind_of, disk_of, is_any_kind, is_block_device}
use Rattle.iom_base.specs.Disks.{is_among, is_missing, without_disk}
use Rattle.iom_base.specs.Refusals.{NoneApplies, IsRefusedBy}
use Rattle.iom_base.specs.declared.device_kind.NewDevice.{NewDevice}
use Rattle.iom_base.specs.declared.refusal.Refusal.{Refusal}
use Rattle.iom_base.specs.declared.refusal.Refusal.TheVariants.{AlreadyPlugged, TooManyDevices, BadMedium, Memory}
use Rattle.iom_device.specs.Caches.{IsAble, kind_in, with_has_disk, device_with}
use Rattle.iom_device.specs.Calls.{new_cache, with_block_reset}
use Rattle.iom_device.specs.declared.device.Device.{Device}
use Rattle.iom_iommu.specs.Parts.{AddsDevice}
use Rattle.iom_board.specs.ByDevice.{ByDevice, FindsNoDevice, FindsWrongKind}
use Rattle.iom_board.specs.BoardParts.{BoardParts}

-- a device that is plugged in, with its disk, if it is a block device: its cache, where its kind has one, is empty
abbrev pub newly_plugged : ℕ → NewDevice → Device
newly_plugged id what = record { id = id; kind = kind_of what; has_disk = is_some (disk_of what); cache = new_cache (kind_of what) }

-- why not, in this order: its id is taken, there are 16, or its disk isn't at hand
abbrev pub why_not_plugged : List ℕ → BoardParts → ℕ → NewDevice → List (Bool × Refusal)
why_not_plugged disks old id what =
    (is_some (kind_in old.devices id), AlreadyPlugged) ∷ (nat_le 16 (length old.devices), TooManyDevices) ∷ (is_missing disks (disk_of what), BadMedium) ∷ []

-- it stands behind the others, and the IOMMU has a row for its accesses; its disk isn't at hand any more
pub record StandsBehindOthers (disks : List ℕ) (old : BoardParts) (id : ℕ) (what : NewDevice) (new : BoardParts) (left : List ℕ) : Type 0 where
  pub admitted : NoneApplies (why_not_plugged disks old id what)
  pub row : AddsDevice old.iommu id true new.iommu
  pub devices : new.devices ≡ old.devices ++ newly_plugged id what ∷ []
  pub memory : new.memory ≡ old.memory
  pub fabric : new.fabric ≡ old.fabric
  pub taken : left ≡ without_disk (disk_of what) disks

-- where no reason applies memory may be refused all the same
abbrev pub IsForWantOfMemory : Refusal → Type 0
IsForWantOfMemory why = why ≡ Memory

-- whether one may be plugged in: no reason is against it; else the first that applies, or want of memory
abbrev pub MayBePlugged : List ℕ → BoardParts → ℕ → NewDevice → Result (Unit {0}) Refusal → Type 0
MayBePlugged disks old id what (Ok done) = NoneApplies (why_not_plugged disks old id what)
MayBePlugged disks old id what (Err why) = IsRefusedBy (why_not_plugged disks old id what) IsForWantOfMemory why

-- A DEVICE IS PLUGGED IN, where these disks were never in a device, and leaves these; it is refused by the first reason that applies, and then nothing changes
abbrev pub PlugsNewDevice : List ℕ → BoardParts → ℕ → NewDevice → Result (Unit {0}) Refusal → BoardParts → List ℕ → Type 0
PlugsNewDevice disks old id what (Ok done) new left = StandsBehindOthers disks old id what new left
PlugsNewDevice disks old id what (Err why) new left = IsRefusedBy (why_not_plugged disks old id what) IsForWantOfMemory why × (new ≡ old) × (left ≡ disks)

-- A DISK IS PUT INTO A BLOCK DEVICE

-- whether the device with this id, if it is there, has a disk
abbrev pub has_disk_in : List Device → ℕ → Bool
has_disk_in devices id = option_map_or (λ (device : Device). device.has_disk) (device_with devices id) false

-- it has none, and the one with this number was never in a device
abbrev pub CanTake : List ℕ → List Device → (id disk : ℕ) → Type 0
CanTake disks devices id disk = (has_disk_in devices id ≡ false) × (is_among disks disk ≡ true)

-- the disk is in the device from then on, and isn't at hand any more
pub record TakesDisk (disks : List ℕ) (old : BoardParts) (id disk : ℕ) (answer : Result (Unit {0}) Refusal) (new : BoardParts) (left : List ℕ) : Type 0 where
  pub able : IsAble is_block_device old.devices id
  pub can : CanTake disks old.devices id disk
  pub answered : answer ≡ Ok tt
  pub put : new ≡ record old { devices = with_has_disk old.devices id true }
  pub taken : left ≡ without_disk (Some disk) disks

-- it has one, or the disk isn't at hand
pub record TakesNoDisk (disks : List ℕ) (old : BoardParts) (id disk : ℕ) (answer : Result (Unit {0}) Refusal) (new : BoardParts) (left : List ℕ) : Type 0 where
  pub able : IsAble is_block_device old.devices id
  pub cannot : ¬ CanTake disks old.devices id disk
  pub answered : answer ≡ Err BadMedium
  pub same : new ≡ old
  pub kept : left ≡ disks

-- A DISK IS PUT INTO A DEVICE, where these were never in a device, and leaves these
abbrev pub PutsDiskIntoDevice : List ℕ → BoardParts → (id disk : ℕ) → Result (Unit {0}) Refusal → BoardParts → List ℕ → Type 0
PutsDiskIntoDevice disks old id disk answer new left =
    (FindsNoDevice old id answer new × (left ≡ disks)) ⊎ (FindsWrongKind is_block_device old id answer new × (left ≡ disks))
    ⊎ TakesNoDisk disks old id disk answer new left ⊎ TakesDisk disks old id disk answer new left

-- A DISK GOES

-- it has none any more, and a block device is reset
pub record LetsDiskGo (id : ℕ) (old : BoardParts) (done : Unit {0}) (new : BoardParts) : Type 0 where
  pub gone : new ≡ record old { devices = with_block_reset (with_has_disk old.devices id false) id }

-- THE DISK OF A DEVICE GOES, if it has one
abbrev pub LosesDisk : BoardParts → ℕ → Result (Unit {0}) Refusal → BoardParts → Type 0
LosesDisk old id answer new = ByDevice is_any_kind (LetsDiskGo id) old id answer new

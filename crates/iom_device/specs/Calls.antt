-- What a device does with its own cache of translations: it has one from the plug on, empties it at a reset, and obeys requests to invalidate.
use Rattle.std.specs.Prelude.{◌≡◌, ℕ, ◌+◌, false, List, [], Option, None, Some, Result, Ok, Err, if◌then◌else◌}
use Rattle.std.specs.Option.{option_map_or}
use Rattle.iom_ats_cache.specs.Cache.{Cache, empty_cache}
use Rattle.iom_ats_cache.specs.Calls.{Invalidates}
use Rattle.iom_fabric.specs.declared.message.Message.{Message}
use Rattle.iom_fabric.specs.declared.message.Range.{Range}
use Rattle.iom_base.specs.declared.refusal.Refusal.{Refusal}
use Rattle.iom_base.specs.declared.device_kind.DeviceKind.{DeviceKind}
use Rattle.iom_base.specs.DeviceKinds.{has_cache, is_block_device}
use Rattle.iom_device.specs.declared.device.Device.{Device}
use Rattle.iom_device.specs.Caches.{cache_of, kind_in, with_cache}

-- the cache of a device of this kind that is plugged in, if it has one
abbrev pub new_cache : DeviceKind → Option Cache
new_cache kind = if has_cache kind then Some empty_cache else None

-- a device's cache after a reset, if it has one: it is empty, and a new epoch has begun
abbrev pub reset_of : Option Cache → Option Cache
reset_of None = None
reset_of (Some cache) = Some (record { epoch = cache.epoch + 1; entries = [] })

-- the devices after a reset of the one with this id
abbrev pub with_reset : List Device → ℕ → List Device
with_reset devices id = with_cache devices id (reset_of (cache_of devices id))

-- the devices after a reset of the one with this id, where it is a block device
abbrev pub with_block_reset : List Device → ℕ → List Device
with_block_reset devices id = if option_map_or is_block_device (kind_in devices id) false then with_reset devices id else devices

-- the device is reset, unless its revival was refused
abbrev pub devices_revived : Result (Unit {0}) Refusal → List Device → ℕ → List Device
devices_revived (Ok done) devices id = with_reset devices id
devices_revived (Err why) devices id = devices

-- A DEVICE OBEYS a request to invalidate, where it has a cache, and ignores it else: its word that it is done, and its cache then
abbrev pub Obeys : Option Cache → (serial : ℕ) → Range → Option Message → Option Cache → Type 0
Obeys None serial range None after = after ≡ None
Obeys None serial range (Some done) after = ⊥
Obeys (Some cache) serial range None after = ⊥
Obeys (Some cache) serial range (Some done) after = (left : Cache) × Invalidates cache serial range done left × (after ≡ Some left)

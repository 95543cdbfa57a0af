-- The devices by their ids: what each is, its own cache of translations, if it has one, and whether it has a disk.
use Rattle.std.specs.Prelude.{◌≡◌, ℕ, ◌==◌, Bool, true, List, [], ◌∷◌, find, slice_get, slice_set, Option, None, Some, option_map, is_some, if◌then◌else◌}
use Rattle.std.specs.List.{All}
use Rattle.std.specs.Option.{option_map_or}
use Rattle.iom_ats_cache.specs.Cache.{Cache}
use Rattle.iom_base.specs.declared.device_kind.DeviceKind.{DeviceKind}
use Rattle.iom_base.specs.DeviceKinds.{has_cache}
use Rattle.iom_device.specs.declared.device.Device.{Device}

-- the device with this id
abbrev pub device_with : List Device → ℕ → Option Device
device_with devices id = find (λ (device : Device). device.id == id) devices

-- what it is, if one is plugged in
abbrev pub kind_in : List Device → ℕ → Option DeviceKind
kind_in devices id = option_map (λ (device : Device). device.kind) (device_with devices id)

-- it is plugged in, and of a kind that can do this
abbrev pub IsAble : (DeviceKind → Bool) → List Device → ℕ → Type 0
IsAble can devices id = (kind : DeviceKind) × (kind_in devices id ≡ Some kind) × (can kind ≡ true)

-- a device's cache
abbrev pub cache_in : Option Device → Option Cache
cache_in None = None
cache_in (Some device) = device.cache

-- that of the device with this id
abbrev pub cache_of : List Device → ℕ → Option Cache
cache_of devices id = cache_in (device_with devices id)

-- a cache's epoch; 0 where there is none
abbrev pub epoch_of : Option Cache → ℕ
epoch_of cache = option_map_or (λ (own : Cache). own.epoch) cache 0

-- that of the device with this id
abbrev pub epoch_in : List Device → ℕ → ℕ
epoch_in devices id = epoch_of (cache_of devices id)

-- the devices, where this is the cache of the one with this id
abbrev pub with_cache : List Device → ℕ → Option Cache → List Device
with_cache [] id cache = []
with_cache (device ∷ others) id cache = if device.id == id then (record device { cache = cache }) ∷ others else device ∷ with_cache others id cache

-- the devices, where the one with this id has a disk, or has none
abbrev pub with_has_disk : List Device → ℕ → Bool → List Device
with_has_disk [] id has = []
with_has_disk (device ∷ others) id has = if device.id == id then (record device { has_disk = has }) ∷ others else device ∷ with_has_disk others id has

-- the device that stands there is the one with the id, and a cache that is set there is set for it, and so is whether it has a disk
abbrev pub IsDevicePlace : List Device → ℕ → ℕ → Type 0
IsDevicePlace devices id place =
    (device : Device) × (slice_get devices place ≡ Some device) × (device_with devices id ≡ Some device)
    × ((cache : Option Cache) → slice_set devices place (record device { cache = cache }) ≡ with_cache devices id cache)
    × ((has : Bool) → slice_set devices place (record device { has_disk = has }) ≡ with_has_disk devices id has)

-- a device has a cache exactly where its kind does
abbrev pub HasItsCache : Device → Type 0
HasItsCache device = is_some device.cache ≡ has_cache device.kind

abbrev pub HaveTheirCaches : List Device → Type 0
HaveTheirCaches devices = All HasItsCache devices

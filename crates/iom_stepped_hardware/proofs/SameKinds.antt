-- What the devices are, where one has another cache, or has a disk or none, or one more is plugged in.
use Rattle.std.proofs.Common.{◌≡◌, ◌≢◌, ◌==◌, ◌++◌, ◌∷◌, [], inl, inr, ℕ, Bool, true, false, List, Option, Some, refl, sym, if◌then◌else◌}
use Rattle.std.specs.Option.{option_map, option_map_or}
use Rattle.std.proofs.lemmas.Bool.Decides.{eqb_tells}
use Rattle.iom_ats_cache.specs.Cache.{Cache}
use Rattle.iom_base.specs.DeviceKinds.{is_block_device}
use Rattle.iom_base.specs.declared.device_kind.DeviceKind.{DeviceKind}
use Rattle.iom_device.specs.Caches.{cache_of, device_with, kind_in, with_cache, with_has_disk}
use Rattle.iom_device.specs.Calls.{reset_of, with_block_reset, with_reset}
use Rattle.iom_device.specs.declared.device.Device.{Device}

abbrev what : Option Device → Option DeviceKind
what found = option_map (λ (device : Device). device.kind) found

-- a device of the same kind stands first
same_first : (first now : Device) (b : Bool) (found : Option Device) → now.kind ≡ first.kind → what (if b then Some now else found) ≡ what (if b then Some first else found)
same_first first now true found same = rw same refl
same_first first now false found same = refl

-- the others are of the same kinds
same_rest : (first : Device) (b : Bool) (now was : Option Device) → what now ≡ what was → what (if b then Some first else now) ≡ what (if b then Some first else was)
same_rest first true now was same = refl
same_rest first false now was same = same

pub kind_set : (devices : List Device) (id : ℕ) (cache : Option Cache) (other : ℕ) → kind_in (with_cache devices id cache) other ≡ kind_in devices other
kind_set [] id cache other = refl
kind_set (first ∷ others) id cache other = by (first.id == id) (kind_set others id cache other)
  where
    by : (b : Bool) → kind_in (with_cache others id cache) other ≡ kind_in others other
        → kind_in (if b then (record first { cache = cache }) ∷ others else first ∷ with_cache others id cache) other ≡ kind_in (first ∷ others) other
    by true rest = same_first first (record first { cache = cache }) (first.id == other) (device_with others other) refl
    by false rest = same_rest first (first.id == other) (device_with (with_cache others id cache) other) (device_with others other) rest

pub kind_has : (devices : List Device) (id : ℕ) (has : Bool) (other : ℕ) → kind_in (with_has_disk devices id has) other ≡ kind_in devices other
kind_has [] id has other = refl
kind_has (first ∷ others) id has other = by (first.id == id) (kind_has others id has other)
  where
    by : (b : Bool) → kind_in (with_has_disk others id has) other ≡ kind_in others other
        → kind_in (if b then (record first { has_disk = has }) ∷ others else first ∷ with_has_disk others id has) other ≡ kind_in (first ∷ others) other
    by true rest = same_first first (record first { has_disk = has }) (first.id == other) (device_with others other) refl
    by false rest = same_rest first (first.id == other) (device_with (with_has_disk others id has) other) (device_with others other) rest

pub kind_reset : (devices : List Device) (id other : ℕ) → kind_in (with_reset devices id) other ≡ kind_in devices other
kind_reset devices id other = kind_set devices id (reset_of (cache_of devices id)) other

pub kind_block_reset : (devices : List Device) (id other : ℕ) → kind_in (with_block_reset devices id) other ≡ kind_in devices other
kind_block_reset devices id other = by (option_map_or is_block_device (kind_in devices id) false)
  where
    by : (b : Bool) → kind_in (if b then with_reset devices id else devices) other ≡ kind_in devices other
    by true = kind_reset devices id other
    by false = refl

pub kind_append : (devices : List Device) (new : Device) (other : ℕ) → other ≢ new.id → kind_in (devices ++ new ∷ []) other ≡ kind_in devices other
kind_append [] new other ne = elim (eqb_tells new.id other) [
  | inl e ↦ absurd (ne (sym e.1))
  | inr differs ↦ rw differs.0 refl
]
kind_append (first ∷ others) new other ne =
    same_rest first (first.id == other) (device_with (others ++ new ∷ []) other) (device_with others other) (kind_append others new other ne)

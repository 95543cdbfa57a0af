-- The devices and their own caches, where one more is plugged in.
use Rattle.std.proofs.Common.{◌≡◌, ◌≢◌, ◌==◌, ◌∙◌, inl, inr, ℕ, suc, Bool, true, false, is_some, List, [], ◌∷◌, ◌++◌, Option, Some, None, slice_get, refl, sym, ap, subst, if◌then◌else◌}
use Rattle.std.specs.Option.{option_map, option_map_or}
use Rattle.std.proofs.lemmas.Bool.{false≢true, eqb-true, eq-eqb}
use Rattle.iom_ats_cache.specs.Cache.{Cache, empty_cache}
use Rattle.iom_driver.specs.declared.device.Device as driver
use Rattle.iom_driver.specs.Devices.{detached, device_by_id, has_device, has_trusted_cache}
use Rattle.iom_driver.proofs.Lists.{differs}
use Rattle.iom_base.specs.declared.device_kind.NewDevice.{NewDevice}
use Rattle.iom_base.specs.DeviceKinds.{kind_of, disk_of, has_cache}
use Rattle.iom_device.specs.declared.device.Device.{Device}
use Rattle.iom_device.specs.Caches.{device_with, kind_in, cache_in, HasItsCache}
use Rattle.iom_world_effects.specs.Effect.{new_device}
use Rattle.iom_world_effects.specs.Traffic.{entries_by, entries_in}
use Rattle.iom_device.specs.Caches.{epoch_in}
use Rattle.std.proofs.lemmas.Bool.Decides.{eqb_tells}
use Rattle.iom_fabric.specs.declared.fabric.OnLink.{OnLink}
use Rattle.iom_fabric.specs.declared.message.Message.{Message}
use Rattle.iom_fabric.specs.declared.message.Message.TheVariants as sent
use Rattle.iom_world_effects.specs.Invariant.{IsAsked, HasAsker}

-- none of the devices has the id
abbrev pub HaveNot : List Device → ℕ → Type 0
HaveNot devices id = (k : ℕ) (device : Device) → slice_get devices k ≡ Some device → device.id ≢ id

-- what is found first
abbrev or_one : Option Device → Option Device → Option Device
or_one None other = other
or_one (Some found) other = Some found

or_none : (found : Option Device) → or_one found None ≡ found
or_none None = refl
or_none (Some device) = refl

pushed_device : (devices : List Device) (one : Device) (d : ℕ)
    → device_with (devices ++ one ∷ []) d ≡ or_one (device_with devices d) (if one.id == d then Some one else None)
pushed_device [] one d = refl
pushed_device (first ∷ others) one d = elim (eqb_tells first.id d) [
  | inl e ↦ rw e.0 refl
  | inr ne ↦ rw ne.0 (pushed_device others one d)
]

absent_device : (devices : List Device) (id : ℕ) → HaveNot devices id → device_with devices id ≡ None
absent_device [] id absent = refl
absent_device (first ∷ others) id absent = rw (differs first.id id (absent 0 first refl)) (absent_device others id (λ k device at. absent (suc k) device at))

pub kind_absent : (devices : List Device) (id : ℕ) → HaveNot devices id → kind_in devices id ≡ None
kind_absent devices id absent = ap (option_map (λ (device : Device). device.kind)) (absent_device devices id absent)

-- what each is then
pub kind_pushed : (devices : List Device) (id : ℕ) (what : NewDevice) (d : ℕ) → HaveNot devices id
    → kind_in (devices ++ new_device id what ∷ []) d ≡ (if id == d then Some (kind_of what) else kind_in devices d)
kind_pushed devices id what d absent = ap (option_map (λ (device : Device). device.kind)) (pushed_device devices (new_device id what) d) ∙ by (id == d) refl
  where
    by : (b : Bool) → (id == d) ≡ b
        → option_map (λ (device : Device). device.kind) (or_one (device_with devices d) (if b then Some (new_device id what) else None)) ≡ (if b then Some (kind_of what) else kind_in devices d)
    by true is =
        let none : device_with devices d ≡ None = subst (λ k. device_with devices k ≡ None) (eqb-true id d is) (absent_device devices id absent) in
        ap (λ found. option_map (λ (device : Device). device.kind) (or_one found (Some (new_device id what)))) none
    by false is = ap (option_map (λ (device : Device). device.kind)) (or_none (device_with devices d))

-- a new cache is in epoch 0, and has nothing
pub epoch_pushed : (devices : List Device) (id : ℕ) (what : NewDevice) (d : ℕ) → epoch_in (devices ++ new_device id what ∷ []) d ≡ epoch_in devices d
epoch_pushed devices id what d =
    ap (λ found. option_map_or (λ (cache : Cache). cache.epoch) (cache_in found) 0) (pushed_device devices (new_device id what) d) ∙ by (device_with devices d) (id == d) (has_cache (kind_of what))
  where
    by : (found : Option Device) (b k : Bool)
        → option_map_or (λ (cache : Cache). cache.epoch) (cache_in (or_one found (if b then Some (record { id = id; kind = kind_of what; has_disk = is_some (disk_of what); cache = if k then Some empty_cache else None }) else None))) 0
        ≡ option_map_or (λ (cache : Cache). cache.epoch) (cache_in found) 0
    by (Some device) b k = refl
    by None true true = refl
    by None true false = refl
    by None false k = refl

pub entries_pushed : (devices : List Device) (id : ℕ) (what : NewDevice) → entries_in (devices ++ new_device id what ∷ []) ≡ entries_in devices
entries_pushed [] id what = by (has_cache (kind_of what))
  where
    by : (k : Bool) → entries_by id (if k then Some empty_cache else None) ++ [] ≡ []
    by true = refl
    by false = refl
entries_pushed (first ∷ others) id what = ap (λ l. entries_by first.id first.cache ++ l) (entries_pushed others id what)

pub its_cache : (id : ℕ) (what : NewDevice) → HasItsCache (new_device id what)
its_cache id what = by (has_cache (kind_of what))
  where
    by : (k : Bool) → is_some (if k then Some empty_cache else None) ≡ k
    by true = refl
    by false = refl

-- whom the driver trusts then
pub trusted_pushed : (known : List driver.Device) (id : ℕ) (trusted : Bool) (d : ℕ) → has_device known id ≡ false
    → has_trusted_cache (known ++ detached id trusted ∷ []) d ≡ (if id == d then trusted else has_trusted_cache known d)
trusted_pushed [] id trusted d none = by (id == d)
  where
    by : (b : Bool) → option_map_or (λ (device : driver.Device). device.trusted) (if b then Some (detached id trusted) else None) false ≡ (if b then trusted else false)
    by true = refl
    by false = refl
trusted_pushed (first ∷ others) id trusted d none = by (first.id == id) refl none (trusted_pushed others id trusted d)
  where
    at : (b : Bool) → (first.id == d) ≡ b → (first.id == id) ≡ false → has_trusted_cache (others ++ detached id trusted ∷ []) d ≡ (if id == d then trusted else has_trusted_cache others d)
        → option_map_or (λ (device : driver.Device). device.trusted) (if b then Some first else device_by_id (others ++ detached id trusted ∷ []) d) false
        ≡ (if id == d then trusted else option_map_or (λ (device : driver.Device). device.trusted) (if b then Some first else device_by_id others d) false)
    at true here apart later =
        let other : id ≢ d = λ same. false≢true (sym apart ∙ eq-eqb first.id id (eqb-true first.id d here ∙ sym same)) in
        ap (λ (b : Bool). if b then trusted else first.trusted) (sym (differs id d other))
    at false here apart later = later

    by : (b : Bool) → (first.id == id) ≡ b → is_some (if b then Some first else device_by_id others id) ≡ false
        → (has_device others id ≡ false → has_trusted_cache (others ++ detached id trusted ∷ []) d ≡ (if id == d then trusted else has_trusted_cache others d))
        → has_trusted_cache (first ∷ others ++ detached id trusted ∷ []) d ≡ (if id == d then trusted else has_trusted_cache (first ∷ others) d)
    by true is there later = absurd (false≢true (sym there))
    by false is there later = at (first.id == d) refl is (later there)

-- who is plugged in stays so
pub asker_pushed : (devices : List Device) (one : Device) (on : OnLink) → HasAsker devices on → HasAsker (devices ++ one ∷ []) on
asker_pushed devices one on has = by on.message has
  where
    still : (found other : Option Device) → is_some found ≡ true → is_some (or_one found other) ≡ true
    still (Some device) other there = refl
    still None other there = absurd (false≢true there)

    by : (message : Message) → IsAsked (is_some (device_with devices on.device)) message → IsAsked (is_some (device_with (devices ++ one ∷ []) on.device)) message
    by (sent.Ask epoch page) (there, fits) = (
      ap is_some (pushed_device devices one on.device) ∙ still (device_with devices on.device) (if one.id == on.device then Some one else None) there,
      fits,
    )
    by (sent.Answer epoch page translation) there = tt
    by (sent.InvReq serial range) there = tt
    by (sent.InvDone serial) there = tt

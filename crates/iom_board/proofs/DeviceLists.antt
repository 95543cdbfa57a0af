-- The devices, where one has another cache, or has a disk or none: their ids stay, and what is read off the ids.
use Rattle.std.proofs.Common.{◌≡◌, ◌+◌, ◌==◌, ◌≤◌, ◌∙◌, inl, inr, ℕ, Bool, true, false, is_some, List, [], ◌∷◌, length, get_or, Option, None, Some, slice_get, refl, sym, ap, subst, arith, if◌then◌else◌}
use Rattle.std.specs.List.{All}
use Rattle.std.specs.Option.{option_map}
use Rattle.std.proofs.lemmas.Bool.Decides.{eqb_tells}
use Rattle.std.proofs.lemmas.List.{length-map}
use Rattle.std.proofs.lemmas.List.Elements.{All-cons, All-get_or, All-drop}
use Rattle.std.proofs.lemmas.Option.{slice_get-map, same_Some}
use Rattle.iom_ats_cache.specs.Cache.{Cache}
use Rattle.iom_base.specs.DeviceKinds.{has_cache}
use Rattle.iom_device.specs.declared.device.Device.{Device}
use Rattle.iom_device.specs.Caches.{device_with, cache_in, cache_of, epoch_of, epoch_in, with_cache, with_has_disk, HasItsCache, HaveTheirCaches}
use Rattle.iom_device.specs.Calls.{reset_of, with_reset}
use Rattle.iom_fabric.specs.declared.fabric.OnLink.{OnLink}
use Rattle.iom_board.specs.Invariant.{device_ids, AreOfOneId, IsOfPlugged, IsMessageOf}

-- WHAT IS READ OFF THE IDS

id_at : (devices : List Device) (k : ℕ) (one : Device) → slice_get devices k ≡ Some one → slice_get (device_ids devices) k ≡ Some one.id
id_at devices k one at = slice_get-map (λ (device : Device). device.id) devices k ∙ ap (option_map (λ (device : Device). device.id)) at

device_at : (devices : List Device) (k id : ℕ) → slice_get (device_ids devices) k ≡ Some id → (was : Device) × (slice_get devices k ≡ Some was) × (was.id ≡ id)
device_at devices k id at = by (slice_get devices k) refl (sym (slice_get-map (λ (device : Device). device.id) devices k) ∙ at)
  where
    by : (found : Option Device) → slice_get devices k ≡ found → option_map (λ (device : Device). device.id) found ≡ Some id → (was : Device) × (slice_get devices k ≡ Some was) × (was.id ≡ id)
    by None found is = cc
    by (Some was) found is = (was, found, same_Some was.id id is)

pub own_ids_kept : (old new : List Device) → device_ids new ≡ device_ids old → AreOfOneId old → AreOfOneId new
own_ids_kept old new same own j k one other at at' equal =
    let a = device_at old j one.id (ap (λ ids. slice_get ids j) (sym same) ∙ id_at new j one at) in
    let b = device_at old k other.id (ap (λ ids. slice_get ids k) (sym same) ∙ id_at new k other at') in
    own j k a.0 b.0 a.1 b.1 (a.2 ∙ equal ∙ sym b.2)

pub length_kept : (old new : List Device) → device_ids new ≡ device_ids old → length new ≡ length old
length_kept old new same = sym (length-map new (λ (device : Device). device.id)) ∙ ap (λ (ids : List ℕ). length ids) same ∙ length-map old (λ (device : Device). device.id)

-- whether an id is among these
abbrev is_there : List ℕ → ℕ → Bool
is_there [] id = false
is_there (own ∷ others) id = if own == id then true else is_there others id

there_by_id : (devices : List Device) (id : ℕ) → is_some (device_with devices id) ≡ is_there (device_ids devices) id
there_by_id [] id = refl
there_by_id (first ∷ others) id = by (first.id == id) (there_by_id others id)
  where
    by : (b : Bool) → is_some (device_with others id) ≡ is_there (device_ids others) id
        → is_some (if b then Some first else device_with others id) ≡ (if b then true else is_there (device_ids others) id)
    by true rest = refl
    by false rest = rest

message_kept : (old new : List Device) (on : OnLink) → device_ids new ≡ device_ids old → IsMessageOf old on → IsMessageOf new on
message_kept old new on same own =
    subst (λ (b : Bool). IsOfPlugged b on.message) (there_by_id old on.device ∙ ap (λ ids. is_there ids on.device) (sym same) ∙ sym (there_by_id new on.device)) own

pub messages_kept : (old new : List Device) (fabric : List OnLink) → device_ids new ≡ device_ids old → All (IsMessageOf old) fabric → All (IsMessageOf new) fabric
messages_kept old new fabric same own = λ k d lt. message_kept old new (get_or fabric k d) same (own k d lt)

-- A CACHE IS SET

pub ids_set : (devices : List Device) (id : ℕ) (cache : Option Cache) → device_ids (with_cache devices id cache) ≡ device_ids devices
ids_set [] id cache = refl
ids_set (first ∷ others) id cache = by (first.id == id) (ids_set others id cache)
  where
    by : (b : Bool) → device_ids (with_cache others id cache) ≡ device_ids others
        → device_ids (if b then (record first { cache = cache }) ∷ others else first ∷ with_cache others id cache) ≡ first.id ∷ device_ids others
    by true rest = refl
    by false rest = ap (λ ids. first.id ∷ ids) rest

-- its epoch is the cache's, and the others' stay
pub epochs_set : (devices : List Device) (id : ℕ) (cache : Option Cache) (most d : ℕ) → epoch_of cache ≤ most → epoch_in devices d ≤ most → epoch_in (with_cache devices id cache) d ≤ most
epochs_set [] id cache most d low at = at
epochs_set (first ∷ others) id cache most d low at = by (first.id == id) (epochs_set others id cache most d low)
  where
    here : (c : Bool) → epoch_of (cache_in (if c then Some first else device_with others d)) ≤ most
        → epoch_of (cache_in (if c then Some (record first { cache = cache }) else device_with others d)) ≤ most
    here true at = low
    here false at = at

    later : (c : Bool) → epoch_of (cache_in (if c then Some first else device_with others d)) ≤ most → (epoch_in others d ≤ most → epoch_in (with_cache others id cache) d ≤ most)
        → epoch_of (cache_in (if c then Some first else device_with (with_cache others id cache) d)) ≤ most
    later true at rest = at
    later false at rest = rest at

    by : (b : Bool) → (epoch_in others d ≤ most → epoch_in (with_cache others id cache) d ≤ most)
        → epoch_in (if b then (record first { cache = cache }) ∷ others else first ∷ with_cache others id cache) d ≤ most
    by true rest = here (first.id == d) at
    by false rest = later (first.id == d) at rest

-- the device that is found has its cache
cache_found : (devices : List Device) (id : ℕ) → HaveTheirCaches devices → (device : Device) → device_with devices id ≡ Some device → HasItsCache device
cache_found [] id own device at = cc
cache_found (first ∷ others) id own device at = elim (eqb_tells first.id id) [
  | inl e ↦
      let same : first ≡ device = same_Some first device (rw e.0 at at) in
      subst HasItsCache same (All-get_or HasItsCache (first ∷ others) 0 first (omega arith) own)
  | inr ne ↦ cache_found others id (All-drop HasItsCache 1 (first ∷ others) own) device (rw ne.0 at at)
]

-- where one is set for one, or none for none, each device still has a cache as its kind does
caches_set : (devices : List Device) (id : ℕ) (cache : Option Cache) → HaveTheirCaches devices → ((device : Device) → device_with devices id ≡ Some device → is_some cache ≡ has_cache device.kind)
    → HaveTheirCaches (with_cache devices id cache)
caches_set [] id cache own fits = own
caches_set (first ∷ others) id cache own fits = elim (eqb_tells first.id id) [
  | inl e ↦ rw e.0 (All-cons HasItsCache (record first { cache = cache }) others (fits first (rw e.0 refl)) (All-drop HasItsCache 1 (first ∷ others) own))
  | inr ne ↦
      rw ne.0
      (All-cons HasItsCache first (with_cache others id cache) (All-get_or HasItsCache (first ∷ others) 0 first (omega arith) own)
      (caches_set others id cache (All-drop HasItsCache 1 (first ∷ others) own) (λ device at. fits device (rw ne.0 at))))
]

pub caches_kept : (devices : List Device) (id : ℕ) (cache : Option Cache) → HaveTheirCaches devices → is_some cache ≡ is_some (cache_of devices id) → HaveTheirCaches (with_cache devices id cache)
caches_kept devices id cache own same =
    caches_set devices id cache own (λ device at. same ∙ ap (λ (found : Option Device). is_some (cache_in found)) at ∙ cache_found devices id own device at)

-- A RESET
reset_some : (cache : Option Cache) → is_some (reset_of cache) ≡ is_some cache
reset_some None = refl
reset_some (Some cache) = refl

reset_low : (cache : Option Cache) (events : ℕ) → epoch_of cache ≤ events → epoch_of (reset_of cache) ≤ events + 1
reset_low None events low = omega arith
reset_low (Some cache) events low = omega (arith, low)

pub caches_reset : (devices : List Device) (id : ℕ) → HaveTheirCaches devices → HaveTheirCaches (with_reset devices id)
caches_reset devices id own = caches_kept devices id (reset_of (cache_of devices id)) own (reset_some (cache_of devices id))

pub epochs_reset : (devices : List Device) (id events : ℕ) → ((d : ℕ) → epoch_in devices d ≤ events) → (d : ℕ) → epoch_in (with_reset devices id) d ≤ events + 1
epochs_reset devices id events most d =
    epochs_set devices id (reset_of (cache_of devices id)) (events + 1) d (reset_low (cache_of devices id) events (most id)) (let low = most d in omega (arith, low))

-- A DISK IS PUT IN, OR GOES
pub ids_has : (devices : List Device) (id : ℕ) (has : Bool) → device_ids (with_has_disk devices id has) ≡ device_ids devices
ids_has [] id has = refl
ids_has (first ∷ others) id has = by (first.id == id) (ids_has others id has)
  where
    by : (b : Bool) → device_ids (with_has_disk others id has) ≡ device_ids others
        → device_ids (if b then (record first { has_disk = has }) ∷ others else first ∷ with_has_disk others id has) ≡ first.id ∷ device_ids others
    by true rest = refl
    by false rest = ap (λ ids. first.id ∷ ids) rest

pub epoch_has : (devices : List Device) (id : ℕ) (has : Bool) (d : ℕ) → epoch_in (with_has_disk devices id has) d ≡ epoch_in devices d
epoch_has [] id has d = refl
epoch_has (first ∷ others) id has d = by (first.id == id) (epoch_has others id has d)
  where
    here : (c : Bool) → epoch_of (cache_in (if c then Some (record first { has_disk = has }) else device_with others d)) ≡ epoch_of (cache_in (if c then Some first else device_with others d))
    here true = refl
    here false = refl

    later : (c : Bool) → epoch_in (with_has_disk others id has) d ≡ epoch_in others d
        → epoch_of (cache_in (if c then Some first else device_with (with_has_disk others id has) d)) ≡ epoch_of (cache_in (if c then Some first else device_with others d))
    later true rest = refl
    later false rest = rest

    by : (b : Bool) → epoch_in (with_has_disk others id has) d ≡ epoch_in others d
        → epoch_in (if b then (record first { has_disk = has }) ∷ others else first ∷ with_has_disk others id has) d ≡ epoch_in (first ∷ others) d
    by true rest = here (first.id == d)
    by false rest = later (first.id == d) rest

pub caches_has : (devices : List Device) (id : ℕ) (has : Bool) → HaveTheirCaches devices → HaveTheirCaches (with_has_disk devices id has)
caches_has [] id has own = own
caches_has (first ∷ others) id has own = elim (eqb_tells first.id id) [
  | inl e ↦ rw e.0 (All-cons HasItsCache (record first { has_disk = has }) others (All-get_or HasItsCache (first ∷ others) 0 first (omega arith) own) (All-drop HasItsCache 1 (first ∷ others) own))
  | inr ne ↦
      rw ne.0
      (All-cons HasItsCache first (with_has_disk others id has) (All-get_or HasItsCache (first ∷ others) 0 first (omega arith) own)
      (caches_has others id has (All-drop HasItsCache 1 (first ∷ others) own)))
]

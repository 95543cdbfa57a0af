-- The devices, where one has another cache: what they are, and whose cache is which.
use Rattle.std.proofs.Common.{◌≡◌, ◌≢◌, ◌==◌, ◌∙◌, inl, inr, ℕ, Bool, true, false, List, [], ◌∷◌, Option, None, Some, option_map, refl, sym, ap, if◌then◌else◌}
use Rattle.std.proofs.lemmas.Bool.Decides.{eqb_tells}
use Rattle.iom_ats_cache.specs.Cache.{Cache}
use Rattle.iom_device.specs.declared.device.Device.{Device}
use Rattle.iom_device.specs.Caches.{device_with, kind_in, cache_in, cache_of, with_cache}

-- each is of its kind
pub kinds_set : (devices : List Device) (id : ℕ) (cache : Option Cache) (d : ℕ) → kind_in (with_cache devices id cache) d ≡ kind_in devices d
kinds_set [] id cache d = refl
kinds_set (first ∷ others) id cache d = by (first.id == id) (first.id == d) (kinds_set others id cache d)
  where
    by : (b c : Bool) → kind_in (with_cache others id cache) d ≡ kind_in others d
        → option_map (λ (device : Device). device.kind) (device_with (if b then (record first { cache = cache }) ∷ others else first ∷ with_cache others id cache) d)
        ≡ option_map (λ (device : Device). device.kind) (if first.id == d then Some first else device_with others d)
    by true c rest = here (first.id == d)
      where
        here : (e : Bool) → option_map (λ (device : Device). device.kind) (if e then Some (record first { cache = cache }) else device_with others d)
            ≡ option_map (λ (device : Device). device.kind) (if e then Some first else device_with others d)
        here true = refl
        here false = refl
    by false c rest = here (first.id == d) rest
      where
        here : (e : Bool) → option_map (λ (device : Device). device.kind) (device_with (with_cache others id cache) d) ≡ option_map (λ (device : Device). device.kind) (device_with others d)
            → option_map (λ (device : Device). device.kind) (if e then Some first else device_with (with_cache others id cache) d)
            ≡ option_map (λ (device : Device). device.kind) (if e then Some first else device_with others d)
        here true is = refl
        here false is = is

-- the device that is there has it
pub cache_set : (devices : List Device) (id : ℕ) (cache : Option Cache) (device : Device) → device_with devices id ≡ Some device → cache_of (with_cache devices id cache) id ≡ cache
cache_set [] id cache device at = absurd (cc)
cache_set (first ∷ others) id cache device at = elim (eqb_tells first.id id) [
  | inl e ↦ rw (e.0, e.0) refl
  | inr ne ↦ rw (ne.0, ne.0) (cache_set others id cache device (rw ne.0 at at))
]

-- the others have theirs
pub cache_other : (devices : List Device) (id : ℕ) (cache : Option Cache) (d : ℕ) → d ≢ id → cache_of (with_cache devices id cache) d ≡ cache_of devices d
cache_other [] id cache d apart = refl
cache_other (first ∷ others) id cache d apart = elim (eqb_tells first.id id) [
  | inl e ↦ elim (eqb_tells first.id d) [
    | inl f ↦ absurd (apart (sym f.1 ∙ e.1))
    | inr nf ↦ rw (e.0, nf.0) refl
  ]
  | inr ne ↦ elim (eqb_tells first.id d) [
    | inl f ↦ rw (ne.0, f.0) refl
    | inr nf ↦ rw (ne.0, nf.0) (cache_other others id cache d apart)
  ]
]

-- one that gets its own stays as it is, and so do all
pub cache_kept : (devices : List Device) (id : ℕ) → with_cache devices id (cache_of devices id) ≡ devices
cache_kept [] id = refl
cache_kept (first ∷ others) id = by (first.id == id) (cache_kept others id)
  where
    by : (b : Bool) → with_cache others id (cache_of others id) ≡ others
        → (if b then (record first { cache = cache_in (if b then Some first else device_with others id) }) ∷ others else first ∷ with_cache others id (cache_in (if b then Some first else device_with others id))) ≡ first ∷ others
    by true rest = refl
    by false rest = ap (λ ds. first ∷ ds) rest

-- a device with a cache is there
pub cache_there : (devices : List Device) (id : ℕ) (cache : Cache) → cache_of devices id ≡ Some cache → (device : Device) × (device_with devices id ≡ Some device) × (device.cache ≡ Some cache)
cache_there devices id cache is = by (device_with devices id) refl is
  where
    by : (found : Option Device) → device_with devices id ≡ found → cache_in found ≡ Some cache → (device : Device) × (device_with devices id ≡ Some device) × (device.cache ≡ Some cache)
    by None e there = absurd (cc)
    by (Some device) e there = (device, e, there)

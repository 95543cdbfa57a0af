-- Where a device stands, by its id, and what changes where its cache is set, or whether it has a disk.
use Rattle.std.proofs.Common.{suc, zero, ◌≡◌, ◌≢◌, ◌==◌, ◌<◌, ◌∙◌, ℕ, Bool, false, List, [], ◌∷◌, length, Option, Some, None, slice_get, refl, ap, inl, inr, arith}
use Rattle.std.proofs.lemmas.Bool.Decides.{eqb_tells}
use Rattle.std.proofs.lemmas.Bool.{eq-eqb}
use Rattle.iom_ats_cache.specs.Cache.{Cache}
use Rattle.iom_device.specs.declared.device.Device.{Device}
use Rattle.iom_fabric.specs.declared.message.Range.{Range}
use Rattle.iom_device.specs.Caches.{device_with, cache_in, cache_of, with_cache, with_has_disk, IsDevicePlace}
use Rattle.iom_device.specs.Calls.{Obeys}

-- ids that aren't the same
differs : (a b : ℕ) → a ≢ b → (a == b) ≡ false
differs a b ne = elim (eqb_tells a b) [
  | inl e ↦ absurd (ne e.1)
  | inr other ↦ other.0
]

-- an id that no device has
pub no_place : (devices : List Device) (id : ℕ) → ((k : ℕ) (other : Device) → k < length devices → slice_get devices k ≡ Some other → other.id ≢ id) → device_with devices id ≡ None
no_place [] id none = refl
no_place (device ∷ others) id none =
    rw (differs device.id id (none 0 device (omega arith) refl)) (no_place others id (λ k other lt at. none (suc k) other (omega arith) at))

-- the first device with its id
pub place_is : (devices : List Device) (id place : ℕ) (device : Device) → slice_get devices place ≡ Some device → device.id ≡ id
    → ((k : ℕ) (other : Device) → k < place → slice_get devices k ≡ Some other → other.id ≢ id) → IsDevicePlace devices id place
place_is [] id place device at own none = cc
place_is (first ∷ others) id zero device at own none =
    let same : first ≡ device = cc in
    let own_first : first.id ≡ id = ap (λ (d : Device). d.id) same ∙ own in
    (first, refl, rw (eq-eqb first.id id own_first) refl, (λ cache. rw (eq-eqb first.id id own_first) refl), (λ has. rw (eq-eqb first.id id own_first) refl))
place_is (first ∷ others) id (suc place) device at own none =
    let other = differs first.id id (none 0 first (omega arith) refl) in
    let rest = place_is others id place device at own (λ k d lt there. none (suc k) d (omega arith) there) in
    (rest.0, rest.1, rw other rest.2, (λ cache. rw other (ap (λ ds. first ∷ ds) (rest.3 cache))), (λ has. rw other (ap (λ ds. first ∷ ds) (rest.4 has))))

-- where there is no such device, nothing is set
pub with_none : (devices : List Device) (id : ℕ) (cache : Option Cache) → device_with devices id ≡ None → with_cache devices id cache ≡ devices
with_none [] id cache none = refl
with_none (device ∷ others) id cache none = elim (eqb_tells device.id id) [
  | inl e ↦ absurd (some_none (rw e.0 at none))
  | inr ne ↦ rw ne.0 (ap (λ ds. device ∷ ds) (with_none others id cache (rw ne.0 at none)))
]
  where
    some_none : ◌≡◌ {A = Option Device} (Some device) None → ⊥
    some_none same = cc

pub has_none : (devices : List Device) (id : ℕ) (has : Bool) → device_with devices id ≡ None → with_has_disk devices id has ≡ devices
has_none [] id has none = refl
has_none (device ∷ others) id has none = elim (eqb_tells device.id id) [
  | inl e ↦ absurd (some_none (rw e.0 at none))
  | inr ne ↦ rw ne.0 (ap (λ ds. device ∷ ds) (has_none others id has (rw ne.0 at none)))
]
  where
    some_none : ◌≡◌ {A = Option Device} (Some device) None → ⊥
    some_none same = cc

-- a device that isn't there has no cache, and obeys nothing
pub obeys_none : (devices : List Device) (id serial : ℕ) (range : Range) → device_with devices id ≡ None → Obeys (cache_of devices id) serial range None None
obeys_none devices id serial range none = rw (ap cache_in none) refl

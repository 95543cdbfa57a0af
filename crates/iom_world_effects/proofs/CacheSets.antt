-- The devices, where one has another cache.
use Rattle.std.proofs.Common.{zero, suc, ◌≡◌, ◌≢◌, ◌==◌, ◌⊎◌, ◌∙◌, inl, inr, ℕ, Bool, true, false, is_some, List, [], ◌∷◌, ◌++◌, map, Contains, Option, None, Some, slice_get, get_or, refl, sym, ap, subst, if◌then◌else◌}
use Rattle.std.specs.Option.{option_map}
use Rattle.std.proofs.lemmas.Bool.{false≢true, eqb-true}
use Rattle.std.proofs.lemmas.Bool.Decides.{eqb_tells}
use Rattle.std.proofs.lemmas.List.Elements.{All-contains, Contains-get_or, Contains-append_cases, Contains-append_left, Contains-append_right}
use Rattle.iom_ats_cache.specs.Cache.{Cache}
use Rattle.iom_ats_cache.specs.declared.entry.Entry.{Entry}
use Rattle.iom_coherence.specs.Scene.{Copy}
use Rattle.iom_coherence.proofs.ListLemmas.{in_none, cons_cases, contains_head, contains_tail}
use Rattle.iom_driver.proofs.Lists.{differs}
use Rattle.iom_fabric.specs.declared.fabric.OnLink.{OnLink}
use Rattle.iom_base.specs.DeviceKinds.{has_cache}
use Rattle.iom_driver.specs.declared.device.Device as driver
use Rattle.iom_inflight.specs.Flights.{FlightRow}
use Rattle.iom_device.specs.declared.device.Device.{Device}
use Rattle.iom_world_effects.specs.Devices.{shown_device, shown_devices}
use Rattle.iom_device.specs.Caches.{device_with, kind_in, cache_in, cache_of, epoch_of, epoch_in, with_cache, HasItsCache, HaveTheirCaches}
use Rattle.iom_world_effects.specs.Invariant.{HaveDistinctIds, HasAsker, IsAsked, plugged_ids}
use Rattle.iom_world_effects.specs.Traffic.{entry_copy, entries_by, entries_in}

-- a device that is found, with this cache where it is the one
abbrev having : Bool → Option Cache → Option Device → Option Device
having is cache found = option_map (λ (device : Device). if is then record device { cache = cache } else device) found

pub found_set : (devices : List Device) (id : ℕ) (cache : Option Cache) (d : ℕ) → device_with (with_cache devices id cache) d ≡ having (id == d) cache (device_with devices d)
found_set [] id cache d = refl
found_set (first ∷ others) id cache d = elim (eqb_tells first.id id) [
  | inl e ↦ rw e.0 (here (first.id == d) (id == d) (ap (λ n. n == d) (sym e.1)))
  | inr ne ↦ rw ne.0 (there (first.id == d) refl ne.1 (found_set others id cache d))
]
  where
    unset : (found : Option Device) → found ≡ having false cache found
    unset None = refl
    unset (Some device) = refl

    here : (b c : Bool) → c ≡ b → ◌≡◌ {A = Option Device} (if b then Some (record first { cache = cache }) else device_with others d) (having c cache (if b then Some first else device_with others d))
    here true true same = refl
    here true false same = absurd (false≢true same)
    here false true same = absurd (false≢true (sym same))
    here false false same = unset (device_with others d)

    there : (b : Bool) → (first.id == d) ≡ b → first.id ≢ id → device_with (with_cache others id cache) d ≡ having (id == d) cache (device_with others d)
        → ◌≡◌ {A = Option Device} (if b then Some first else device_with (with_cache others id cache) d) (having (id == d) cache (if b then Some first else device_with others d))
    there true is other rest =
        let apart : id ≢ d = λ same. other (eqb-true first.id d is ∙ sym same) in
        rw (differs id d apart) refl
    there false is other rest = rest

-- what each is, and whether it is there, stays
pub kind_set : (devices : List Device) (id : ℕ) (cache : Option Cache) (d : ℕ) → kind_in (with_cache devices id cache) d ≡ kind_in devices d
kind_set devices id cache d = ap (option_map (λ (device : Device). device.kind)) (found_set devices id cache d) ∙ by (id == d) (device_with devices d)
  where
    by : (b : Bool) (found : Option Device) → option_map (λ (device : Device). device.kind) (having b cache found) ≡ option_map (λ (device : Device). device.kind) found
    by b None = refl
    by true (Some device) = refl
    by false (Some device) = refl

pub there_set : (devices : List Device) (id : ℕ) (cache : Option Cache) (d : ℕ) → is_some (device_with (with_cache devices id cache) d) ≡ is_some (device_with devices d)
there_set devices id cache d = ap is_some (found_set devices id cache d) ∙ by (id == d) (device_with devices d)
  where
    by : (b : Bool) (found : Option Device) → is_some (having b cache found) ≡ is_some found
    by b None = refl
    by true (Some device) = refl
    by false (Some device) = refl

pub asker_set : (devices : List Device) (id : ℕ) (cache : Option Cache) (on : OnLink) → HasAsker devices on → HasAsker (with_cache devices id cache) on
asker_set devices id cache on has = subst (λ (b : Bool). IsAsked b on.message) (sym (there_set devices id cache on.device)) has

-- the epochs: the device's is that of its cache
pub epoch_set : (devices : List Device) (id : ℕ) (old new : Cache) (d : ℕ) → cache_of devices id ≡ Some old
    → epoch_in (with_cache devices id (Some new)) d ≡ (if id == d then new.epoch else epoch_in devices d)
epoch_set devices id old new d has = ap (λ (found : Option Device). epoch_of (cache_in found)) (found_set devices id (Some new) d) ∙ by (id == d) refl (device_with devices d) refl
  where
    by : (b : Bool) → (id == d) ≡ b → (found : Option Device) → device_with devices d ≡ found
        → epoch_of (cache_in (having b (Some new) found)) ≡ (if b then new.epoch else epoch_of (cache_in found))
    by true is None none =
        let gone : cache_of devices id ≡ None = ap (cache_of devices) (eqb-true id d is) ∙ ap cache_in none in
        absurd (some_none (sym has ∙ gone))
      where
        some_none : ◌≡◌ {A = Option Cache} (Some old) None → ⊥
        some_none same = cc
    by true is (Some device) at = refl
    by false is None none = refl
    by false is (Some device) at = refl

-- ids stay
pub ids_set : (devices : List Device) (id : ℕ) (cache : Option Cache) → plugged_ids (with_cache devices id cache) ≡ plugged_ids devices
ids_set [] id cache = refl
ids_set (first ∷ others) id cache = by (first.id == id) (ids_set others id cache)
  where
    by : (b : Bool) → plugged_ids (with_cache others id cache) ≡ plugged_ids others
        → plugged_ids (if b then (record first { cache = cache }) ∷ others else first ∷ with_cache others id cache) ≡ first.id ∷ plugged_ids others
    by true rest = refl
    by false rest = ap (λ ids. first.id ∷ ids) rest

-- what is shown of the devices has nothing of their caches
pub shown_set : (known : List driver.Device) (rows : List FlightRow) (devices : List Device) (id : ℕ) (cache : Option Cache)
    → shown_devices known rows (with_cache devices id cache) ≡ shown_devices known rows devices
shown_set known rows [] id cache = refl
shown_set known rows (first ∷ others) id cache = by (first.id == id) (shown_set known rows others id cache)
  where
    by : (b : Bool) → shown_devices known rows (with_cache others id cache) ≡ shown_devices known rows others
        → shown_devices known rows (if b then (record first { cache = cache }) ∷ others else first ∷ with_cache others id cache) ≡ shown_device known rows first ∷ shown_devices known rows others
    by true rest = refl
    by false rest = ap (λ ds. shown_device known rows first ∷ ds) rest

-- a device at a place has the id that the one there had
place_set : (devices : List Device) (id : ℕ) (cache : Option Cache) (k : ℕ) (one : Device) → slice_get (with_cache devices id cache) k ≡ Some one
    → (was : Device) × (slice_get devices k ≡ Some was) × (was.id ≡ one.id)
place_set [] id cache k one at = cc
place_set (first ∷ others) id cache k one at = by (first.id == id) k (λ j there. place_set others id cache j one there) at
  where
    by : (b : Bool) (k : ℕ) → ((j : ℕ) → slice_get (with_cache others id cache) j ≡ Some one → (was : Device) × (slice_get others j ≡ Some was) × (was.id ≡ one.id))
        → slice_get (if b then (record first { cache = cache }) ∷ others else first ∷ with_cache others id cache) k ≡ Some one
        → (was : Device) × (slice_get (first ∷ others) k ≡ Some was) × (was.id ≡ one.id)
    by true zero rest at = let same : (record first { cache = cache }) ≡ one = cc in (first, refl, ap (λ (d : Device). d.id) same)
    by true (suc k) rest at = (one, at, refl)
    by false zero rest at = (one, at, refl)
    by false (suc k) rest at = rest k at

pub own_ids_set : (devices : List Device) (id : ℕ) (cache : Option Cache) → HaveDistinctIds devices → HaveDistinctIds (with_cache devices id cache)
own_ids_set devices id cache own j k one other at at' same =
    let a = place_set devices id cache j one at in
    let b = place_set devices id cache k other at' in
    own j k a.0 b.0 a.1 b.1 (a.2 ∙ same ∙ sym b.2)

-- the device still has a cache, as its kind does
pub caches_set : (devices : List Device) (id : ℕ) (old new : Cache) → cache_of devices id ≡ Some old → HaveTheirCaches devices → HaveTheirCaches (with_cache devices id (Some new))
caches_set devices id old new has own = λ k d lt. every devices (λ device there. All-contains HasItsCache devices device own there) has (get_or (with_cache devices id (Some new)) k d) (Contains-get_or (with_cache devices id (Some new)) k d lt)
  where
    every : (ds : List Device) → ((device : Device) → Contains ds device → HasItsCache device) → cache_of ds id ≡ Some old
        → (device : Device) → Contains (with_cache ds id (Some new)) device → HasItsCache device
    every [] own has device there = absurd (in_none device there)
    every (first ∷ others) own has device there =
        by (first.id == id) (λ at inside. every others (λ d within. own d (contains_tail first others d within)) at device inside) has there
      where
        by : (b : Bool) → (cache_of others id ≡ Some old → Contains (with_cache others id (Some new)) device → HasItsCache device)
            → cache_in (if b then Some first else device_with others id) ≡ Some old
            → Contains (if b then (record first { cache = Some new }) ∷ others else first ∷ with_cache others id (Some new)) device → HasItsCache device
        by true rest at there = elim (cons_cases (record first { cache = Some new }) others device there) [
          | inl same ↦
              let has_one : is_some first.cache ≡ has_cache first.kind = own first (contains_head first others) in
              subst HasItsCache same (sym (ap is_some at) ∙ has_one)
          | inr later ↦ own device (contains_tail first others device later)
        ]
        by false rest at there = elim (cons_cases first (with_cache others id (Some new)) device there) [
          | inl same ↦ own device (subst (Contains (first ∷ others)) same (contains_head first others))
          | inr later ↦ rest at later
        ]

-- where the cache is set that the device has, nothing changes
pub same_set : (devices : List Device) (id : ℕ) (cache : Option Cache) → cache_of devices id ≡ cache → with_cache devices id cache ≡ devices
same_set [] id cache has = refl
same_set (first ∷ others) id cache has = by (first.id == id) has (same_set others id cache)
  where
    by : (b : Bool) → cache_in (if b then Some first else device_with others id) ≡ cache → (cache_of others id ≡ cache → with_cache others id cache ≡ others)
        → (if b then (record first { cache = cache }) ∷ others else first ∷ with_cache others id cache) ≡ first ∷ others
    by true at rest = ap (λ c. (record first { cache = c }) ∷ others) (sym at)
    by false at rest = ap (λ ds. first ∷ ds) (rest at)

-- whose an entry is
entry_device : (device : ℕ) (entries : List Entry) (x : Copy) → Contains (map (entry_copy device) entries) x → x.device ≡ device
entry_device device [] x there = absurd (in_none x there)
entry_device device (entry ∷ entries) x there = elim (cons_cases (entry_copy device entry) (map (entry_copy device) entries) x there) [
  | inl same ↦ ap (λ (c : Copy). c.device) (sym same)
  | inr later ↦ entry_device device entries x later
]

by_device : (device : ℕ) (cache : Option Cache) (x : Copy) → Contains (entries_by device cache) x → x.device ≡ device
by_device device None x there = absurd (in_none x there)
by_device device (Some cache) x there = entry_device device cache.entries x there

-- it is one of a device that stands somewhere
whose : (devices : List Device) (x : Copy) → Contains (entries_in devices) x → (k : ℕ) × (device : Device) × (slice_get devices k ≡ Some device) × (device.id ≡ x.device)
whose [] x there = absurd (in_none x there)
whose (first ∷ others) x there = elim (Contains-append_cases (entries_by first.id first.cache) (entries_in others) x there) [
  | inl here ↦ (zero, first, refl, sym (by_device first.id first.cache x here))
  | inr later ↦ let rest = whose others x later in (suc rest.0, rest.1, rest.2, rest.3)
]

zero_suc : (n : ℕ) → zero ≡ suc n → ⊥
zero_suc n same = cc

suc_same : (m n : ℕ) → suc m ≡ suc n → m ≡ n
suc_same m n same = cc

-- An entry then is one of the cache that is set, or was one of another device
pub entries_set : (devices : List Device) (id : ℕ) (cache : Option Cache) (x : Copy) → HaveDistinctIds devices → is_some (device_with devices id) ≡ true
    → Contains (entries_in (with_cache devices id cache)) x → Contains (entries_by id cache) x ⊎ (Contains (entries_in devices) x × (x.device ≢ id))
entries_set [] id cache x own found there = absurd (in_none x there)
entries_set (first ∷ others) id cache x own found there = elim (eqb_tells first.id id) [
  | inl e ↦ here e.1 (rw e.0 at there)
  | inr ne ↦ later ne.1 (λ inside. entries_set others id cache x (λ j k one other at at' same. suc_same j k (own (suc j) (suc k) one other at at' same)) (rw ne.0 at found) inside) (rw ne.0 at there)
]
  where
    here : first.id ≡ id → Contains (entries_by first.id cache ++ entries_in others) x → Contains (entries_by id cache) x ⊎ (Contains (entries_in (first ∷ others)) x × (x.device ≢ id))
    here same there = elim (Contains-append_cases (entries_by first.id cache) (entries_in others) x there) [
      | inl mine ↦ inl (subst (λ n. Contains (entries_by n cache) x) same mine)
      | inr other ↦ inr (
        Contains-append_right (entries_by first.id first.cache) (entries_in others) x other,
        (λ its. let at = whose others x other in zero_suc at.0 (own zero (suc at.0) first at.1 refl at.2 (same ∙ sym its ∙ sym at.3))),
      )
    ]

    later : first.id ≢ id → (Contains (entries_in (with_cache others id cache)) x → Contains (entries_by id cache) x ⊎ (Contains (entries_in others) x × (x.device ≢ id)))
        → Contains (entries_by first.id first.cache ++ entries_in (with_cache others id cache)) x
        → Contains (entries_by id cache) x ⊎ (Contains (entries_in (first ∷ others)) x × (x.device ≢ id))
    later apart rest there = elim (Contains-append_cases (entries_by first.id first.cache) (entries_in (with_cache others id cache)) x there) [
      | inl mine ↦ inr (
        Contains-append_left (entries_by first.id first.cache) (entries_in others) x mine,
        (λ its. apart (sym (by_device first.id first.cache x mine) ∙ its)),
      )
      | inr behind ↦ elim (rest behind) [
        | inl new ↦ inl new
        | inr was ↦ inr (Contains-append_right (entries_by first.id first.cache) (entries_in others) x was.0, was.1)
      ]
    ]

-- what a device's cache has is in a device's cache
pub entries_there : (devices : List Device) (id : ℕ) (cache : Cache) (x : Copy) → cache_of devices id ≡ Some cache → Contains (entries_by id (Some cache)) x → Contains (entries_in devices) x
entries_there [] id cache x has there = cc
entries_there (first ∷ others) id cache x has there = elim (eqb_tells first.id id) [
  | inl e ↦
      let mine : first.cache ≡ Some cache = rw e.0 at has in
      Contains-append_left (entries_by first.id first.cache) (entries_in others) x
      (subst (λ c. Contains (entries_by first.id c) x) (sym mine) (subst (λ n. Contains (entries_by n (Some cache)) x) (sym e.1) there))
  | inr ne ↦ Contains-append_right (entries_by first.id first.cache) (entries_in others) x (entries_there others id cache x (rw ne.0 at has) there)
]

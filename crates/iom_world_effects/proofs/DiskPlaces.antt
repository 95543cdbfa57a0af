-- The devices, where one has a disk or has none: nothing else of them changes.
use Rattle.std.proofs.Common.{suc, zero, ◌≡◌, ◌==◌, ◌∙◌, inl, inr, ℕ, Bool, true, false, is_some, List, [], ◌∷◌, ◌++◌, Contains, get_or, Option, Some, None, slice_get, refl, sym, ap, subst, if◌then◌else◌}
use Rattle.std.specs.Option.{option_map}
use Rattle.std.proofs.lemmas.Bool.{eq-eqb}
use Rattle.std.proofs.lemmas.Bool.Decides.{eqb_tells}
use Rattle.std.proofs.lemmas.List.Elements.{All-contains, Contains-get_or}
use Rattle.iom_ats_cache.specs.Cache.{Cache}
use Rattle.iom_coherence.proofs.ListLemmas.{in_none, cons_cases, contains_head, contains_tail}
use Rattle.iom_driver.specs.declared.device.Device as driver
use Rattle.iom_fabric.specs.declared.fabric.OnLink.{OnLink}
use Rattle.iom_inflight.specs.Flights.{FlightRow}
use Rattle.iom_machine.specs.declared.state.Device as machine
use Rattle.iom_machine.specs.Devices.{replaced_device}
use Rattle.iom_device.specs.declared.device.Device.{Device}
use Rattle.iom_device.specs.Caches.{device_with, kind_in, cache_in, epoch_of, epoch_in, with_has_disk, HasItsCache, HaveTheirCaches}
use Rattle.iom_world_effects.specs.Devices.{shown_device, shown_devices}
use Rattle.iom_world_effects.specs.Invariant.{HaveDistinctIds, HasAsker, IsAsked, plugged_ids}
use Rattle.iom_world_effects.specs.Traffic.{entries_by, entries_in}
use Rattle.iom_world_effects.proofs.RowPlaces.{found_of, shown_of}

-- what is read off a device that is found is the same, where it isn't whether it has a disk
found_has : {X : Type 0} (f : Device → X) → ((device : Device) (has : Bool) → f (record device { has_disk = has }) ≡ f device) → (devices : List Device) (id : ℕ) (has : Bool) (d : ℕ)
    → option_map f (device_with (with_has_disk devices id has) d) ≡ option_map f (device_with devices d)
found_has {X = X} f same [] id has d = refl
found_has {X = X} f same (first ∷ others) id has d = by (first.id == id) (found_has f same others id has d)
  where
    here : (b : Bool) → ◌≡◌ {A = Option X} (option_map f (if b then Some (record first { has_disk = has }) else device_with others d)) (option_map f (if b then Some first else device_with others d))
    here true = ap (λ x. Some x) (same first has)
    here false = refl

    there : (b : Bool) → option_map f (device_with (with_has_disk others id has) d) ≡ option_map f (device_with others d)
        → ◌≡◌ {A = Option X} (option_map f (if b then Some first else device_with (with_has_disk others id has) d)) (option_map f (if b then Some first else device_with others d))
    there true rest = refl
    there false rest = rest

    by : (c : Bool) → option_map f (device_with (with_has_disk others id has) d) ≡ option_map f (device_with others d)
        → option_map f (device_with (if c then (record first { has_disk = has }) ∷ others else first ∷ with_has_disk others id has) d) ≡ option_map f (device_with (first ∷ others) d)
    by true rest = here (first.id == d)
    by false rest = there (first.id == d) rest

-- what each is, whether it is there, and its cache
pub kind_has : (devices : List Device) (id : ℕ) (has : Bool) (d : ℕ) → kind_in (with_has_disk devices id has) d ≡ kind_in devices d
kind_has devices id has d = found_has (λ (device : Device). device.kind) (λ device b. refl) devices id has d

some_id : (found : Option Device) → is_some (option_map (λ (device : Device). device.id) found) ≡ is_some found
some_id None = refl
some_id (Some device) = refl

pub there_has : (devices : List Device) (id : ℕ) (has : Bool) (d : ℕ) → is_some (device_with (with_has_disk devices id has) d) ≡ is_some (device_with devices d)
there_has devices id has d =
    sym (some_id (device_with (with_has_disk devices id has) d)) ∙ ap is_some (found_has (λ (device : Device). device.id) (λ device b. refl) devices id has d) ∙ some_id (device_with devices d)

pub asker_has : (devices : List Device) (id : ℕ) (has : Bool) (on : OnLink) → HasAsker devices on → HasAsker (with_has_disk devices id has) on
asker_has devices id has on asks = subst (λ (b : Bool). IsAsked b on.message) (sym (there_has devices id has on.device)) asks

abbrev flat : Option (Option Cache) → Option Cache
flat None = None
flat (Some cache) = cache

cache_flat : (found : Option Device) → cache_in found ≡ flat (option_map (λ (device : Device). device.cache) found)
cache_flat None = refl
cache_flat (Some device) = refl

pub epoch_has : (devices : List Device) (id : ℕ) (has : Bool) (d : ℕ) → epoch_in (with_has_disk devices id has) d ≡ epoch_in devices d
epoch_has devices id has d =
    ap epoch_of (cache_flat (device_with (with_has_disk devices id has) d) ∙ ap flat (found_has (λ (device : Device). device.cache) (λ device b. refl) devices id has d)
    ∙ sym (cache_flat (device_with devices d)))

-- ids stay, and what is in the caches
pub ids_has : (devices : List Device) (id : ℕ) (has : Bool) → plugged_ids (with_has_disk devices id has) ≡ plugged_ids devices
ids_has [] id has = refl
ids_has (first ∷ others) id has = by (first.id == id) (ids_has others id has)
  where
    by : (b : Bool) → plugged_ids (with_has_disk others id has) ≡ plugged_ids others
        → plugged_ids (if b then (record first { has_disk = has }) ∷ others else first ∷ with_has_disk others id has) ≡ first.id ∷ plugged_ids others
    by true rest = refl
    by false rest = ap (λ ids. first.id ∷ ids) rest

pub entries_has : (devices : List Device) (id : ℕ) (has : Bool) → entries_in (with_has_disk devices id has) ≡ entries_in devices
entries_has [] id has = refl
entries_has (first ∷ others) id has = by (first.id == id) (entries_has others id has)
  where
    by : (b : Bool) → entries_in (with_has_disk others id has) ≡ entries_in others
        → entries_in (if b then (record first { has_disk = has }) ∷ others else first ∷ with_has_disk others id has) ≡ entries_by first.id first.cache ++ entries_in others
    by true rest = refl
    by false rest = ap (λ l. entries_by first.id first.cache ++ l) rest

-- a device at a place has the id that the one there had
place_has : (devices : List Device) (id : ℕ) (has : Bool) (k : ℕ) (one : Device) → slice_get (with_has_disk devices id has) k ≡ Some one
    → (was : Device) × (slice_get devices k ≡ Some was) × (was.id ≡ one.id)
place_has [] id has k one at = cc
place_has (first ∷ others) id has k one at = by (first.id == id) k (λ j there. place_has others id has j one there) at
  where
    by : (b : Bool) (k : ℕ) → ((j : ℕ) → slice_get (with_has_disk others id has) j ≡ Some one → (was : Device) × (slice_get others j ≡ Some was) × (was.id ≡ one.id))
        → slice_get (if b then (record first { has_disk = has }) ∷ others else first ∷ with_has_disk others id has) k ≡ Some one
        → (was : Device) × (slice_get (first ∷ others) k ≡ Some was) × (was.id ≡ one.id)
    by true zero rest at = let same : (record first { has_disk = has }) ≡ one = cc in (first, refl, ap (λ (d : Device). d.id) same)
    by true (suc k) rest at = (one, at, refl)
    by false zero rest at = (one, at, refl)
    by false (suc k) rest at = rest k at

pub own_ids_has : (devices : List Device) (id : ℕ) (has : Bool) → HaveDistinctIds devices → HaveDistinctIds (with_has_disk devices id has)
own_ids_has devices id has own j k one other at at' same =
    let a = place_has devices id has j one at in
    let b = place_has devices id has k other at' in
    own j k a.0 b.0 a.1 b.1 (a.2 ∙ same ∙ sym b.2)

-- each device still has a cache, as its kind does
pub caches_has : (devices : List Device) (id : ℕ) (has : Bool) → HaveTheirCaches devices → HaveTheirCaches (with_has_disk devices id has)
caches_has devices id has own = λ k d lt. every devices (λ device there. All-contains HasItsCache devices device own there) (get_or (with_has_disk devices id has) k d) (Contains-get_or (with_has_disk devices id has) k d lt)
  where
    every : (ds : List Device) → ((device : Device) → Contains ds device → HasItsCache device) → (device : Device) → Contains (with_has_disk ds id has) device → HasItsCache device
    every [] own device there = absurd (in_none device there)
    every (first ∷ others) own device there = by (first.id == id) (λ inside. every others (λ d within. own d (contains_tail first others d within)) device inside) there
      where
        by : (b : Bool) → (Contains (with_has_disk others id has) device → HasItsCache device)
            → Contains (if b then (record first { has_disk = has }) ∷ others else first ∷ with_has_disk others id has) device → HasItsCache device
        by true rest there = elim (cons_cases (record first { has_disk = has }) others device there) [
          | inl same ↦ subst HasItsCache same (own first (contains_head first others))
          | inr later ↦ own device (contains_tail first others device later)
        ]
        by false rest there = elim (cons_cases first (with_has_disk others id has) device there) [
          | inl same ↦ own device (subst (Contains (first ∷ others)) same (contains_head first others))
          | inr later ↦ rest later
        ]

-- THE MACHINE'S DEVICES

-- the one that is found among those that are shown is shown of one of the world's
pub shown_found : (known : List driver.Device) (rows : List FlightRow) (devices : List Device) (id : ℕ) (found : machine.Device) → shown_of known rows devices id ≡ Some found
    → (device : Device) × (found_of devices id ≡ Some device) × (found ≡ shown_device known rows device)
shown_found known rows [] id found at = cc
shown_found known rows (first ∷ others) id found at = elim (eqb_tells first.id id) [
  | inl e ↦
      let both : Some (shown_device known rows first) ≡ Some found = rw e.0 at at in
      let is : shown_device known rows first ≡ found = cc in
      (first, rw e.0 refl, sym is)
  | inr ne ↦
      let rest = shown_found known rows others id found (rw ne.0 at at) in
      (rest.0, rw ne.0 rest.1, rest.2)
]

-- it is replaced by one with a disk, or without
pub replaced_has : (known : List driver.Device) (rows : List FlightRow) (devices : List Device) (id : ℕ) (has : Bool) (device : Device) → found_of devices id ≡ Some device
    → replaced_device (shown_devices known rows devices) id (record (shown_device known rows device) { has_disk = has }) ≡ shown_devices known rows (with_has_disk devices id has)
replaced_has known rows [] id has device found = cc
replaced_has known rows (first ∷ others) id has device found = elim (eqb_tells first.id id) [
  | inl e ↦
      let here : Some first ≡ Some device = rw e.0 at found in
      let it : first ≡ device = cc in
      rw e.0 (ap (λ (d : Device). (record (shown_device known rows d) { has_disk = has }) ∷ shown_devices known rows others) (sym it))
  | inr ne ↦ rw ne.0 (ap (λ (ds : List machine.Device). shown_device known rows first ∷ ds) (replaced_has known rows others id has device (rw ne.0 at found)))
]

-- a device that is replaced twice is the second one
pub replaced_twice : (devices : List machine.Device) (id : ℕ) (one other : machine.Device) → one.id ≡ id
    → replaced_device (replaced_device devices id one) id other ≡ replaced_device devices id other
replaced_twice [] id one other own = refl
replaced_twice (first ∷ others) id one other own = by (first.id == id) refl (replaced_twice others id one other own)
  where
    by : (b : Bool) → (first.id == id) ≡ b → replaced_device (replaced_device others id one) id other ≡ replaced_device others id other
        → replaced_device (if b then one ∷ others else first ∷ replaced_device others id one) id other ≡ (if b then other ∷ others else first ∷ replaced_device others id other)
    by true is rest = rw (eq-eqb one.id id own) refl
    by false is rest = rw is (ap (λ (ds : List machine.Device). first ∷ ds) rest)

-- A device that is plugged in has a row of its own in the IOMMU, and no other has.
use Rattle.std.proofs.Common.{◌≡◌, ◌≢◌, inl, inr, ◌∙◌, ℕ, true, false, List, [], ◌∷◌, length, Option, None, Some, IsSome, refl, sym, ap, subst}
use Rattle.std.proofs.lemmas.Bool.Decides.{eqb_tells}
use Rattle.std.proofs.lemmas.List.{length-map}
use Rattle.iom_coherence.proofs.ListLemmas.{cons_cases, contains_head, contains_tail, in_none}
use Rattle.iom_driver.specs.declared.device.Device as driver
use Rattle.iom_driver.specs.Devices.{has_device}
use Rattle.iom_driver.proofs.Lists.{differs}
use Rattle.iom_inflight.specs.Flights.{FlightRow, row_of}
use Rattle.iom_device.specs.declared.device.Device.{Device}
use Rattle.iom_world_effects.specs.Places.{IsAbsent, IsPresent}
use Rattle.iom_world_effects.specs.Invariant.{plugged_ids, known_ids, row_ids}
use Rattle.iom_base.specs.declared.device_kind.DeviceKind.{DeviceKind}
use Rattle.iom_device.specs.Caches.{kind_in}

-- the two lists of ids have the same first id, and the same others
heads : (x y : ℕ) (xs ys : List ℕ) → x ∷ xs ≡ y ∷ ys → (x ≡ y) × (xs ≡ ys)
heads x y xs ys same = (cc, cc)

present_tail : (device : Device) (others : List Device) (id : ℕ) → device.id ≢ id → IsPresent (device ∷ others) id → IsPresent others id
present_tail device others id other (found, there, own) = elim (cons_cases device others found there) [
  | inl same ↦ absurd (other (ap (λ (d : Device). d.id) same ∙ own))
  | inr later ↦ (found, later, own)
]

absent_tail : (device : Device) (others : List Device) (id : ℕ) → IsAbsent (device ∷ others) id → IsAbsent others id
absent_tail device others id absent found there = absent found (contains_tail device others found there)

-- a device that is there was added
pub row_present : (rows : List FlightRow) (devices : List Device) (id : ℕ) → row_ids rows ≡ plugged_ids devices → IsPresent devices id → IsSome (row_of rows id)
row_present [] [] id same (found, there, own) = absurd (in_none found there)
row_present [] (device ∷ others) id same present = cc
row_present (row ∷ rows) [] id same present = cc
row_present (row ∷ rows) (device ∷ others) id same present =
    let both = heads row.device device.id (row_ids rows) (plugged_ids others) same in
    elim (eqb_tells row.device id) [
      | inl here ↦ rw here.0 refl
      | inr other ↦ rw other.0 (row_present rows others id both.1 (present_tail device others id (λ own. other.1 (both.0 ∙ own)) present))
    ]

-- one that isn't there has none
pub row_absent : (rows : List FlightRow) (devices : List Device) (id : ℕ) → row_ids rows ≡ plugged_ids devices → IsAbsent devices id → row_of rows id ≡ None
row_absent [] devices id same absent = refl
row_absent (row ∷ rows) [] id same absent = cc
row_absent (row ∷ rows) (device ∷ others) id same absent =
    let both = heads row.device device.id (row_ids rows) (plugged_ids others) same in
    let other : row.device ≢ id = λ own. absent device (contains_head device others) (sym both.0 ∙ own) in
    rw (differs row.device id other) (row_absent rows others id both.1 (absent_tail device others id absent))

-- the driver knows it, or doesn't
pub known_present : (known : List driver.Device) (devices : List Device) (id : ℕ) → known_ids known ≡ plugged_ids devices → IsPresent devices id → has_device known id ≡ true
known_present [] [] id same (found, there, own) = absurd (in_none found there)
known_present [] (device ∷ others) id same present = cc
known_present (first ∷ known) [] id same present = cc
known_present (first ∷ known) (device ∷ others) id same present =
    let both = heads first.id device.id (known_ids known) (plugged_ids others) same in
    elim (eqb_tells first.id id) [
      | inl here ↦ rw here.0 refl
      | inr other ↦ rw other.0 (known_present known others id both.1 (present_tail device others id (λ own. other.1 (both.0 ∙ own)) present))
    ]

pub known_absent : (known : List driver.Device) (devices : List Device) (id : ℕ) → known_ids known ≡ plugged_ids devices → IsAbsent devices id → has_device known id ≡ false
known_absent [] devices id same absent = refl
known_absent (first ∷ known) [] id same absent = cc
known_absent (first ∷ known) (device ∷ others) id same absent =
    let both = heads first.id device.id (known_ids known) (plugged_ids others) same in
    let other : first.id ≢ id = λ own. absent device (contains_head device others) (sym both.0 ∙ own) in
    rw (differs first.id id other) (known_absent known others id both.1 (absent_tail device others id absent))

-- as many of each
pub length-rows : (rows : List FlightRow) (devices : List Device) → row_ids rows ≡ plugged_ids devices → length rows ≡ length devices
length-rows rows devices same = sym (length-map rows (λ (row : FlightRow). row.device)) ∙ ap (λ (ids : List ℕ). length ids) same ∙ length-map devices (λ (device : Device). device.id)

pub length-known : (known : List driver.Device) (devices : List Device) → known_ids known ≡ plugged_ids devices → length known ≡ length devices
length-known known devices same = sym (length-map known (λ (device : driver.Device). device.id)) ∙ ap (λ (ids : List ℕ). length ids) same ∙ length-map devices (λ (device : Device). device.id)

-- a device whose kind is known is there, and one whose kind isn't, isn't
pub kind_present : (devices : List Device) (id : ℕ) (kind : DeviceKind) → kind_in devices id ≡ Some kind → IsPresent devices id
kind_present [] id kind is = cc
kind_present (device ∷ others) id kind is = elim (eqb_tells device.id id) [
  | inl e ↦ (device, contains_head device others, e.1)
  | inr ne ↦
      let later : IsPresent others id = kind_present others id kind (rw ne.0 at is) in
      (later.0, contains_tail device others later.0 later.1, later.2)
]

pub kind_absent : (devices : List Device) (id : ℕ) → kind_in devices id ≡ None → IsAbsent devices id
kind_absent [] id is device there = absurd (in_none device there)
kind_absent (first ∷ others) id is device there = elim (eqb_tells first.id id) [
  | inl e ↦ let none : kind_in (first ∷ others) id ≡ Some first.kind = rw e.0 refl in absurd (none_some first.kind (sym is ∙ none))
  | inr ne ↦ elim (cons_cases first others device there) [
    | inl same ↦ subst (λ (d : Device). d.id ≢ id) same ne.1
    | inr later ↦ kind_absent others id (rw ne.0 at is) device later
  ]
]
  where
    none_some : (kind : DeviceKind) → ◌≡◌ {A = Option DeviceKind} None (Some kind) → ⊥
    none_some kind same = cc

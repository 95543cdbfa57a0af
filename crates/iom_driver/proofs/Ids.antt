-- Each device keeps an id of its own.
use Rattle.std.proofs.Common.{suc, zero, ◌≡◌, ◌≢◌, ◌∙◌, ◌++◌, ℕ, Bool, List, [], ◌∷◌, Option, Some, None, slice_get, refl, sym, ap, inl, inr}
use Rattle.std.proofs.lemmas.Bool.Decides.{eqb_tells}
use Rattle.std.proofs.lemmas.Bool.{eq-eqb}
use Rattle.iom_driver.specs.declared.device.Attachment.{Attachment}
use Rattle.iom_driver.specs.declared.device.Device.{Device}
use Rattle.iom_driver.specs.Devices.{device_by_id, detached, with_attachment, HaveOwnIds}
use Rattle.iom_driver.proofs.Lists.{differs}

-- no device of a longer list has the id: neither the first nor any other
pub none_of_all : (device : Device) (others : List Device) (id : ℕ) → device_by_id (device ∷ others) id ≡ None → (device.id ≢ id) × (device_by_id others id ≡ None)
none_of_all device others id none = elim (eqb_tells device.id id) [
  | inl e ↦ absurd (some_none (rw e.0 at none))
  | inr ne ↦ (ne.1, rw ne.0 at none)
]
  where
    some_none : ◌≡◌ {A = Option Device} (Some device) None → ⊥
    some_none same = cc

pub none_at : (devices : List Device) (id k : ℕ) (device : Device) → device_by_id devices id ≡ None → slice_get devices k ≡ Some device → device.id ≢ id
none_at [] id k device none at = cc
none_at (first ∷ others) id zero device none at =
    let same : first ≡ device = cc in λ own. (none_of_all first others id none).0 (ap (λ (d : Device). d.id) same ∙ own)
none_at (first ∷ others) id (suc k) device none at = none_at others id k device (none_of_all first others id none).1 at

-- once an attachment is set
none_with : (devices : List Device) (id other : ℕ) (a : Attachment) → device_by_id devices other ≡ None → device_by_id (with_attachment devices id a) other ≡ None
none_with [] id other a none = none
none_with (device ∷ others) id other a none =
    let parts = none_of_all device others other none in
    elim (eqb_tells device.id id) [
      | inl e ↦ rw (e.0, differs device.id other parts.0) parts.1
      | inr ne ↦ rw (ne.0, differs device.id other parts.0) (none_with others id other a parts.1)
    ]

pub ids_with : (devices : List Device) (id : ℕ) (a : Attachment) → HaveOwnIds devices → HaveOwnIds (with_attachment devices id a)
ids_with [] id a own = own
ids_with (device ∷ others) id a own = elim (eqb_tells device.id id) [
  | inl e ↦ rw e.0 own
  | inr ne ↦ rw ne.0 (none_with others id device.id a own.0, ids_with others id a own.1)
]

-- one device more
none_plugged : (devices : List Device) (id other : ℕ) (trusted : Bool) → id ≢ other → device_by_id devices other ≡ None → device_by_id (devices ++ detached id trusted ∷ []) other ≡ None
none_plugged [] id other trusted apart none = rw (differs id other apart) refl
none_plugged (device ∷ others) id other trusted apart none =
    let parts = none_of_all device others other none in rw (differs device.id other parts.0) (none_plugged others id other trusted apart parts.1)

pub ids_plugged : (devices : List Device) (id : ℕ) (trusted : Bool) → device_by_id devices id ≡ None → HaveOwnIds devices → HaveOwnIds (devices ++ detached id trusted ∷ [])
ids_plugged [] id trusted none own = (refl, tt)
ids_plugged (device ∷ others) id trusted none own =
    let parts = none_of_all device others id none in (none_plugged others id device.id trusted (λ same. parts.0 (sym same)) own.0, ids_plugged others id trusted parts.1 own.1)

-- the device at a place is the one with its id
pub device_at : (devices : List Device) (k : ℕ) (device : Device) → HaveOwnIds devices → slice_get devices k ≡ Some device → device_by_id devices device.id ≡ Some device
device_at [] k device own at = cc
device_at (first ∷ others) zero device own at = let same : first ≡ device = cc in rw (eq-eqb first.id device.id (ap (λ (d : Device). d.id) same)) at
device_at (first ∷ others) (suc k) device own at =
    rw (differs first.id device.id (λ same. none_at others first.id k device own.0 at (sym same))) (device_at others k device own.1 at)

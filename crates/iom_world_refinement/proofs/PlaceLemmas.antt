-- Looking a device up by its id, in the world and in the ledger machine, and what is shown once one is attached in another way.
use Rattle.std.proofs.Common.{suc, zero, ◌≡◌, ◌≢◌, ◌==◌, ◌∙◌, ℕ, true, List, [], ◌∷◌, find, Option, Some, None, slice_get, is_some, refl, sym, ap, inl, inr, arith}
use Rattle.std.proofs.lemmas.Bool.{false≢true}
use Rattle.std.proofs.lemmas.Bool.Decides.{eqb_tells}
use Rattle.iom_driver.specs.declared.device.Attachment as owned
use Rattle.iom_driver.specs.declared.device.Device as driver
use Rattle.iom_driver.specs.Devices.{attachment_by_id}
use Rattle.iom_inflight.specs.Flights.{FlightRow}
use Rattle.iom_machine.specs.declared.state.Attachment.{Attachment}
use Rattle.iom_machine.specs.declared.state.Device as machine
use Rattle.iom_machine.specs.Devices.{replaced_device}
use Rattle.iom_device.specs.declared.device.Device.{Device}
use Rattle.iom_world_effects.specs.Devices.{shown_attachment, shown_device, shown_devices, accepted_of, in_flight_of}
use Rattle.iom_world_effects.specs.Invariant.{HaveDistinctIds}

-- the device of the machine with this id
abbrev pub shown_of : List driver.Device → List FlightRow → List Device → ℕ → Option machine.Device
shown_of known rows devices id = find (λ device. device.id == id) (shown_devices known rows devices)

-- a device as the machine has it, attached so
abbrev pub attached_so : List FlightRow → Device → Attachment → machine.Device
attached_so rows device attachment = record {
  id = device.id;
  kind = device.kind;
  has_disk = device.has_disk;
  attachment = attachment;
  accepted = accepted_of rows device.id;
  in_flight = in_flight_of rows device.id;
}

-- no device has this id
abbrev NoneHas : List Device → ℕ → Type 0
NoneHas devices id = (k : ℕ) (other : Device) → slice_get devices k ≡ Some other → other.id ≢ id

-- the driver knows the same attachments, but of the device with this id
abbrev pub SameElsewhere : List driver.Device → List driver.Device → ℕ → Type 0
SameElsewhere known known' id = (other : ℕ) → other ≢ id → attachment_by_id known' other ≡ attachment_by_id known other

-- devices with other ids are shown as before
elsewhere_shown : (known known' : List driver.Device) (rows : List FlightRow) (devices : List Device) (id : ℕ) → SameElsewhere known known' id → NoneHas devices id
    → shown_devices known rows devices ≡ shown_devices known' rows devices
elsewhere_shown known known' rows [] id same absent = refl
elsewhere_shown known known' rows (device ∷ others) id same absent =
    ap (λ how. attached_so rows device (shown_attachment how) ∷ shown_devices known rows others) (sym (same device.id (absent 0 device refl)))
    ∙ ap (λ ds. shown_device known' rows device ∷ ds) (elsewhere_shown known known' rows others id same (λ k other at. absent (suc k) other at))

-- the device that is found is replaced by one that is attached as the driver knows then
pub replaced_shown : (known known' : List driver.Device) (rows : List FlightRow) (devices : List Device) (id : ℕ) (how : owned.Attachment) (found : machine.Device) → SameElsewhere known known' id
    → attachment_by_id known' id ≡ how → HaveDistinctIds devices → shown_of known rows devices id ≡ Some found
    → replaced_device (shown_devices known rows devices) id (record found { attachment = shown_attachment how }) ≡ shown_devices known' rows devices
replaced_shown known known' rows [] id how found same staged own at = cc
replaced_shown known known' rows (device ∷ others) id how found same staged own at = elim (eqb_tells device.id id) [
  | inl e ↦
      let is : shown_device known rows device ≡ found = (let both : Some (shown_device known rows device) ≡ Some found = rw e.0 at at in cc) in
      let new : attachment_by_id known' device.id ≡ how = ap (λ i. attachment_by_id known' i) e.1 ∙ staged in
      rw e.0 (
      ap (λ (d : machine.Device). record d { attachment = shown_attachment how } ∷ shown_devices known rows others) (sym is)
      ∙ ap (λ s. attached_so rows device (shown_attachment s) ∷ shown_devices known rows others) (sym new)
      ∙ ap (λ ds. shown_device known' rows device ∷ ds) (elsewhere_shown known known' rows others id same (λ k other there named. absurd (apart k (own 0 (suc k) device other refl there (e.1 ∙ sym named)))))
      )
  | inr ne ↦ rw ne.0 (
      ap (λ s. attached_so rows device (shown_attachment s) ∷ replaced_device (shown_devices known rows others) id (record found { attachment = shown_attachment how })) (sym (same device.id ne.1))
      ∙ ap (λ ds. shown_device known' rows device ∷ ds)
      (replaced_shown known known' rows others id how found same staged (λ j k one other at_one at_other named. below j k (own (suc j) (suc k) one other at_one at_other named)) (rw ne.0 at at))
      )
]
  where
    apart : (k : ℕ) → zero ≡ suc k → ⊥
    apart k same = omega (arith, same)

    below : (j k : ℕ) → suc j ≡ suc k → j ≡ k
    below j k same = omega (arith, same)

-- the device that is found has the id
pub own_id : (known : List driver.Device) (rows : List FlightRow) (devices : List Device) (id : ℕ) (found : machine.Device) → shown_of known rows devices id ≡ Some found → found.id ≡ id
own_id known rows [] id found at = cc
own_id known rows (device ∷ others) id found at = elim (eqb_tells device.id id) [
  | inl e ↦ (let both : Some (shown_device known rows device) ≡ Some found = rw e.0 at at in (let is : shown_device known rows device ≡ found = cc in ap (λ (d : machine.Device). d.id) (sym is) ∙ e.1))
  | inr ne ↦ own_id known rows others id found (rw ne.0 at at)
]

-- a device that is there is found
pub found_there : (o : Option machine.Device) → is_some o ≡ true → (device : machine.Device) × (o ≡ Some device)
found_there None there = absurd (false≢true there)
found_there (Some device) there = (device, refl)

-- the machine's devices, where the one that is found is attached so
pub replaced_found : (known known' : List driver.Device) (rows : List FlightRow) (devices : List Device) (shown : List machine.Device) (id : ℕ) (how : owned.Attachment) (found : machine.Device)
    → SameElsewhere known known' id → attachment_by_id known' id ≡ how → HaveDistinctIds devices → shown ≡ shown_devices known rows devices
    → find (λ (one : machine.Device). one.id == id) shown ≡ Some found
    → replaced_device shown found.id (record found { attachment = shown_attachment how }) ≡ shown_devices known' rows devices
replaced_found known known' rows devices shown id how found same staged own is at =
    let at_shown : shown_of known rows devices id ≡ Some found = ap (λ (ds : List machine.Device). find (λ (one : machine.Device). one.id == id) ds) (sym is) ∙ at in
    ap (λ (ds : List machine.Device). replaced_device ds found.id (record found { attachment = shown_attachment how })) is
    ∙ ap (λ i. replaced_device (shown_devices known rows devices) i (record found { attachment = shown_attachment how })) (own_id known rows devices id found at_shown)
    ∙ replaced_shown known known' rows devices id how found same staged own at_shown

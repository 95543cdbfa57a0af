-- Looking a device up by its id, in the world and in the ledger machine; and the machine's devices where a row of accesses is replaced.
use Rattle.std.proofs.Common.{suc, ◌≡◌, ◌≢◌, ◌==◌, ◌∙◌, ℕ, List, [], ◌∷◌, find, map, Option, Some, None, IsSome, slice_get, refl, sym, ap, subst, inl, inr, arith}
use Rattle.std.specs.Option.{option_map_or}
use Rattle.std.proofs.lemmas.Bool.Decides.{eqb_tells}
use Rattle.std.proofs.lemmas.Option.{slice_get-get_or}
use Rattle.iom_base.specs.declared.access.AcceptedAccess.{AcceptedAccess}
use Rattle.iom_coherence.proofs.ListLemmas.{in_none, cons_cases, contains_head, contains_tail}
use Rattle.iom_driver.specs.declared.device.Device as driver
use Rattle.iom_driver.specs.Devices.{attachment_by_id}
use Rattle.iom_driver.proofs.Lists.{differs}
use Rattle.iom_inflight.specs.Flights.{NumberedAccess, FlightRow, row_of, with_row}
use Rattle.iom_inflight.proofs.Rows.{row_of_own, row_of_other}
use Rattle.iom_machine.specs.Devices.{replaced_device}
use Rattle.iom_machine.specs.declared.state.Device as machine
use Rattle.iom_device.specs.declared.device.Device.{Device}
use Rattle.iom_world_effects.specs.Devices.{accepted_of, in_flight_of, shown_attachment, shown_device, shown_devices}
use Rattle.iom_world_effects.specs.Places.{IsAbsent, IsPresent}
use Rattle.iom_world_effects.specs.Invariant.{HaveDistinctIds}

-- the device of the world, and of the machine, with this id
abbrev pub found_of : List Device → ℕ → Option Device
found_of devices id = find (λ (device : Device). device.id == id) devices

abbrev pub shown_of : List driver.Device → List FlightRow → List Device → ℕ → Option machine.Device
shown_of known rows devices id = find (λ (device : machine.Device). device.id == id) (shown_devices known rows devices)

-- an id that no device has finds none
pub absent_shown : (known : List driver.Device) (rows : List FlightRow) (devices : List Device) (id : ℕ) → IsAbsent devices id → shown_of known rows devices id ≡ None
absent_shown known rows [] id absent = refl
absent_shown known rows (device ∷ others) id absent =
    rw (differs device.id id (absent device (contains_head device others)))
    (absent_shown known rows others id (λ other there. absent other (contains_tail device others other there)))

-- a device that is there is found, and shown
pub record IsFound (known : List driver.Device) (rows : List FlightRow) (devices : List Device) (id : ℕ) : Type 0 where
  pub device : Device
  pub own : device.id ≡ id
  pub found : found_of devices id ≡ Some device
  pub shown : shown_of known rows devices id ≡ Some (shown_device known rows device)

pub present_found : (known : List driver.Device) (rows : List FlightRow) (devices : List Device) (id : ℕ) → IsPresent devices id → IsFound known rows devices id
present_found known rows [] id (device, there, own) = absurd (in_none device there)
present_found known rows (first ∷ others) id (device, there, own) = elim (eqb_tells first.id id) [
  | inl e ↦ record { device = first; own = e.1; found = rw e.0 refl; shown = rw e.0 refl }
  | inr ne ↦ elim (cons_cases first others device there) [
    | inl same ↦ absurd (ne.1 (ap (λ (d : Device). d.id) same ∙ own))
    | inr later ↦
        let rest = present_found known rows others id (device, later, own) in
        record { device = rest.device; own = rest.own; found = rw ne.0 rest.found; shown = rw ne.0 rest.shown }
  ]
]

-- a device is shown alike where its row is the same
same_shown : (known : List driver.Device) (rows rows' : List FlightRow) (device : Device) → row_of rows' device.id ≡ row_of rows device.id → shown_device known rows' device ≡ shown_device known rows device
same_shown known rows rows' device same = ap (λ (row : Option FlightRow). of_row row) same
  where
    of_row : Option FlightRow → machine.Device
    of_row row = record {
      id = device.id;
      kind = device.kind;
      has_disk = device.has_disk;
      attachment = shown_attachment (attachment_by_id known device.id);
      accepted = option_map_or (λ (r : FlightRow). r.accepted) row 0;
      in_flight = option_map_or (λ (r : FlightRow). map (λ (flight : NumberedAccess). flight.accepted) r.waiting) row [];
    }

others_shown : (known : List driver.Device) (rows rows' : List FlightRow) (devices : List Device) (id : ℕ) → IsAbsent devices id → ((d : ℕ) → d ≢ id → row_of rows' d ≡ row_of rows d)
    → shown_devices known rows' devices ≡ shown_devices known rows devices
others_shown known rows rows' [] id absent same = refl
others_shown known rows rows' (device ∷ others) id absent same =
    ap (λ (d : machine.Device). d ∷ shown_devices known rows' others) (same_shown known rows rows' device (same device.id (absent device (contains_head device others))))
    ∙ ap (λ (ds : List machine.Device). shown_device known rows device ∷ ds)
    (others_shown known rows rows' others id (λ other there. absent other (contains_tail device others other there)) same)

-- behind the first device with an id there is no other
absent_behind : (first : Device) (others : List Device) (id : ℕ) → HaveDistinctIds (first ∷ others) → first.id ≡ id → IsAbsent others id
absent_behind first others id ids own other (k, below, at) same =
    let there : slice_get others k ≡ Some other = slice_get-get_or others k other below ∙ ap Some at in
    let never : 0 ≡ suc k = ids 0 (suc k) first other refl there (own ∙ sym same) in
    absurd (omega (arith, never))

ids_behind : (first : Device) (others : List Device) → HaveDistinctIds (first ∷ others) → HaveDistinctIds others
ids_behind first others ids j k one other at at' same =
    let both : suc j ≡ suc k = ids (suc j) (suc k) one other at at' same in omega (arith, both)

-- the device is replaced in the machine where the world shows other rows, which are the same of each other device
pub replaced_shown : (known : List driver.Device) (rows rows' : List FlightRow) (devices : List Device) (id : ℕ) (device : Device) (now : machine.Device) → HaveDistinctIds devices
    → found_of devices id ≡ Some device → now ≡ shown_device known rows' device → ((d : ℕ) → d ≢ id → row_of rows' d ≡ row_of rows d)
    → replaced_device (shown_devices known rows devices) id now ≡ shown_devices known rows' devices
replaced_shown known rows rows' [] id device now ids found is same = cc
replaced_shown known rows rows' (first ∷ others) id device now ids found is same = elim (eqb_tells first.id id) [
  | inl e ↦
      let here : Some first ≡ Some device = rw e.0 at found in
      let it : first ≡ device = cc in
      rw e.0
      (ap (λ (d : machine.Device). d ∷ shown_devices known rows others) (is ∙ ap (shown_device known rows') (sym it))
      ∙ ap (λ (ds : List machine.Device). shown_device known rows' first ∷ ds) (sym (others_shown known rows rows' others id (absent_behind first others id ids e.1) same)))
  | inr ne ↦
      rw ne.0
      (ap (λ (d : machine.Device). d ∷ replaced_device (shown_devices known rows others) id now) (sym (same_shown known rows rows' first (same first.id ne.1)))
      ∙ ap (λ (ds : List machine.Device). shown_device known rows' first ∷ ds) (replaced_shown known rows rows' others id device now (ids_behind first others ids) (rw ne.0 at found) is same))
]

-- a device whose row is this one, as the machine has it
abbrev pub with_own : machine.Device → FlightRow → machine.Device
with_own device own = record device { accepted = own.accepted; in_flight = map (λ (flight : NumberedAccess). flight.accepted) own.waiting }

-- what the machine has of a device's row
pub accepted_at : (rows : List FlightRow) (id : ℕ) (row : FlightRow) → row_of rows id ≡ Some row → accepted_of rows id ≡ row.accepted
accepted_at rows id row at = ap (λ (o : Option FlightRow). option_map_or (λ (r : FlightRow). r.accepted) o 0) at

pub in_flight_at : (rows : List FlightRow) (id : ℕ) (row : FlightRow) → row_of rows id ≡ Some row → in_flight_of rows id ≡ map (λ (flight : NumberedAccess). flight.accepted) row.waiting
in_flight_at rows id row at = ap (λ (o : Option FlightRow). option_map_or (λ (r : FlightRow). map (λ (flight : NumberedAccess). flight.accepted) r.waiting) o []) at

-- a row is replaced: its device is in the machine
pub row_shown : (known : List driver.Device) (rows : List FlightRow) (devices : List Device) (id : ℕ) (device : Device) (row own : FlightRow) → HaveDistinctIds devices
    → found_of devices id ≡ Some device → device.id ≡ id → row_of rows id ≡ Some row → own.device ≡ id
    → replaced_device (shown_devices known rows devices) id (with_own (shown_device known rows device) own) ≡ shown_devices known (with_row rows own) devices
row_shown known rows devices id device row own ids found is at mine =
    replaced_shown known rows (with_row rows own) devices id device (with_own (shown_device known rows device) own) ids found now
    (λ d ne. row_of_other rows own d (λ same. ne (same ∙ mine)))
  where
    there : row_of (with_row rows own) device.id ≡ Some own
    there = ap (row_of (with_row rows own)) (is ∙ sym mine) ∙ row_of_own rows own (subst (λ n. IsSome (row_of rows n)) (sym mine) (subst (λ o. IsSome o) (sym at) refl))

    now : with_own (shown_device known rows device) own ≡ shown_device known (with_row rows own) device
    now =
        ap (λ (n : ℕ). record (shown_device known rows device) { accepted = n; in_flight = map (λ (flight : NumberedAccess). flight.accepted) own.waiting })
        (sym (accepted_at (with_row rows own) device.id own there))
        ∙ ap (λ (l : List AcceptedAccess). record (shown_device known rows device) { accepted = accepted_of (with_row rows own) device.id; in_flight = l })
        (sym (in_flight_at (with_row rows own) device.id own there))

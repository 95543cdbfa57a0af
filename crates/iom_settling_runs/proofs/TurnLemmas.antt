-- Whose accesses are in flight: the ledger machine's devices say the same of it as the IOMMU's rows.
use Rattle.std.proofs.Common.{suc, ◌≡◌, ◌≢◌, ◌∙◌, inl, inr, ℕ, List, [], ◌∷◌, map, Some, slice_get, refl, sym, ap, arith}
use Rattle.std.proofs.lemmas.Bool.Decides.{eqb_tells}
use Rattle.iom_device.specs.declared.device.Device.{Device}
use Rattle.iom_driver.specs.declared.device.Device as known
use Rattle.iom_inflight.specs.Flights.{NumberedAccess, FlightRow}
use Rattle.iom_world_effects.specs.Devices.{shown_devices}
use Rattle.iom_world_effects.specs.Invariant.{HaveDistinctIds, plugged_ids, row_ids}
use Rattle.iom_settling.specs.Idle.{waiting_by}
use Rattle.iom_settling.specs.Settles.{in_flight_by}

-- no device has this id
abbrev NoneHas : List Device → ℕ → Type 0
NoneHas devices id = (k : ℕ) (other : Device) → slice_get devices k ≡ Some other → other.id ≢ id

-- a row of another device says nothing of these
pass_over : (knows : List known.Device) (row : FlightRow) (rows : List FlightRow) (devices : List Device) → NoneHas devices row.device
    → in_flight_by (shown_devices knows (row ∷ rows) devices) ≡ in_flight_by (shown_devices knows rows devices)
pass_over knows row rows [] none = refl
pass_over knows row rows (device ∷ others) none = elim (eqb_tells row.device device.id) [
  | inl e ↦ absurd (none 0 device refl (sym e.1))
  | inr ne ↦ rw (ne.0, pass_over knows row rows others (λ k other at. none (suc k) other at)) refl
]

-- an id for each access, however that is shown
one_each : {X Y : Type 0} (shown : X → Y) (device id : ℕ) → device ≡ id → (xs : List X) → map (λ (y : Y). id) (map shown xs) ≡ map (λ (x : X). device) xs
one_each shown device id same [] = refl
one_each {X} shown device id same (x ∷ xs) = ap (λ ids. id ∷ ids) (one_each shown device id same xs) ∙ ap (λ n. n ∷ map (λ (y : X). device) xs) (sym same)

-- where rows and devices have the same ids, in the same order, and no two devices have one id
pub same_turns : (knows : List known.Device) (rows : List FlightRow) (devices : List Device) → HaveDistinctIds devices → row_ids rows ≡ plugged_ids devices
    → in_flight_by (shown_devices knows rows devices) ≡ waiting_by rows
same_turns knows [] [] own ids = refl
same_turns knows [] (device ∷ others) own ids = cc
same_turns knows (row ∷ rows) [] own ids = cc
same_turns knows (row ∷ rows) (device ∷ others) own ids =
    let same : row.device ≡ device.id = cc in
    let behind : row_ids rows ≡ plugged_ids others = cc in
    elim (eqb_tells row.device device.id) [
      | inl e ↦
          rw (e.0, pass_over knows row rows others (others_differ same), same_turns knows rows others (own_behind own) behind, one_each (λ (flight : NumberedAccess). flight.accepted) row.device device.id same row.waiting) refl
      | inr ne ↦ absurd (ne.1 same)
    ]
  where
    others_differ : row.device ≡ device.id → NoneHas others row.device
    others_differ same k other at there = let first = own 0 (suc k) device other refl at (sym (there ∙ same)) in omega (arith, first)

    own_behind : HaveDistinctIds (device ∷ others) → HaveDistinctIds others
    own_behind own j k one other at at' same = let e = own (suc j) (suc k) one other at at' same in omega (arith, e)

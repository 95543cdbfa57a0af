-- The counts that a world tells are those of the ledger machine's state.
use Rattle.std.proofs.Common.{◌≡◌, ◌∙◌, ◌<◌, ℕ, List, [], ◌∷◌, map, length, Option, Some, None, inl, inr, refl, sym, ap, subst}
use Rattle.std.specs.Option.{option_map_or}
use Rattle.std.proofs.lemmas.Bool.{eq-eqb}
use Rattle.std.proofs.lemmas.Bool.Decides.{eqb_tells}
use Rattle.std.proofs.lemmas.List.{length-map}
use Rattle.iom_base.specs.declared.access.AcceptedAccess.{AcceptedAccess}
use Rattle.iom_driver.specs.Calls.{IsFreeFrame}
use Rattle.iom_driver.specs.declared.device.Device as driver
use Rattle.iom_driver.proofs.Lists.{differs}
use Rattle.iom_inflight.specs.Flights.{NumberedAccess, FlightRow, row_of, count_all}
use Rattle.iom_inflight.specs.Invariant.{AreDistinct}
use Rattle.iom_iommu.specs.Parts.{flights_of}
use Rattle.iom_machine.specs.Frames.{IsFree}
use Rattle.iom_machine.specs.Traces.{count_in_flight, AreFree}
use Rattle.iom_machine.specs.declared.state.State.{State}
use Rattle.iom_table_frames.specs.Owners.{AreSoMany}
use Rattle.iom_table_frames.proofs.CountLemmas.{AreSoMany-same}
use Rattle.iom_device.specs.declared.device.Device.{Device}
use Rattle.iom_world_effects.specs.Devices.{shown_devices, in_flight_of}
use Rattle.iom_world_effects.specs.Parts.{Parts}
use Rattle.iom_world_effects.specs.Shows.{PartsShow}
use Rattle.iom_world_effects.specs.Invariant.{row_ids, plugged_ids}
use Rattle.iom_world_refinement.proofs.FreeLemmas.{free_in_machine, free_in_world}

-- each of these rows is its device's, in the whole list
abbrev AreOwn : List FlightRow → List FlightRow → Type 0
AreOwn whole [] = Unit {0}
AreOwn whole (row ∷ rest) = (row_of whole row.device ≡ Some row) × AreOwn whole rest

own_behind : (first : FlightRow) (rows rest : List FlightRow) → row_of rest first.device ≡ None → AreOwn rows rest → AreOwn (first ∷ rows) rest
own_behind first rows [] none own = tt
own_behind first rows (row ∷ rest) none own = elim (eqb_tells row.device first.device) [
  | inl e ↦ let never : ◌≡◌ {A = Option FlightRow} (Some row) None = rw e.0 at none in cc
  | inr ne ↦ (rw (differs first.device row.device (λ same. ne.1 (sym same))) own.0, own_behind first rows rest (rw ne.0 at none) own.1)
]

own_all : (rows : List FlightRow) → AreDistinct rows → AreOwn rows rows
own_all [] distinct = tt
own_all (row ∷ rows) distinct = (rw (eq-eqb row.device row.device refl) refl, own_behind row rows rows distinct.0 (own_all rows distinct.1))

flights_of_rows : (known : List driver.Device) (whole rest : List FlightRow) (devices : List Device) → row_ids rest ≡ plugged_ids devices → AreOwn whole rest
    → count_all rest ≡ count_in_flight (shown_devices known whole devices)
flights_of_rows known whole [] [] same own = refl
flights_of_rows known whole [] (device ∷ others) same own = cc
flights_of_rows known whole (row ∷ rest) [] same own = cc
flights_of_rows known whole (row ∷ rest) (device ∷ others) same own =
    let head : row.device ≡ device.id = cc in
    let tail : row_ids rest ≡ plugged_ids others = cc in
    let there : row_of whole device.id ≡ Some row = subst (λ id. row_of whole id ≡ Some row) head own.0 in
    let many : length (in_flight_of whole device.id) ≡ length row.waiting = ap (λ (found : Option FlightRow). length (shown_flights found)) there ∙ length-map row.waiting (λ (flight : NumberedAccess). flight.accepted) in
    rw (many, flights_of_rows known whole rest others tail own.1) refl
  where
    shown_flights : Option FlightRow → List AcceptedAccess
    shown_flights found = option_map_or (λ (own : FlightRow). map (λ (flight : NumberedAccess). flight.accepted) own.waiting) found []

-- so many accesses are in flight in all rows as in the state
pub flights_counted : (parts : Parts) (state : State) → PartsShow parts state → AreDistinct (flights_of parts.iommu).rows → row_ids (flights_of parts.iommu).rows ≡ plugged_ids parts.devices
    → count_all (flights_of parts.iommu).rows ≡ count_in_flight state.devices
flights_counted parts state shows distinct same =
    rw shows.devices (flights_of_rows parts.driver.devices (flights_of parts.iommu).rows (flights_of parts.iommu).rows parts.devices same (own_all (flights_of parts.iommu).rows distinct))

-- the frames that the driver finds free are those of the state
pub free_shown : (parts : Parts) (state : State) (count : ℕ) → PartsShow parts state → length parts.memory ≡ length parts.driver.owners → AreSoMany (IsFreeFrame parts.driver) count → AreFree state count
free_shown parts state count shows size counted =
    AreSoMany-same (IsFreeFrame parts.driver) (IsFree state) count (λ n. (
      (λ it. free_in_machine parts.memory parts.driver.owners parts.driver.ledger state n shows.ledger shows.frames (rw size it.inside) it.unreserved it.ungranted),
      (λ free.
          let found = free_in_world parts.memory parts.driver.owners parts.driver.ledger state None n shows.ledger shows.frames (λ same. cc) free in
          record { inside = subst (λ m. n < m) size found.0; unreserved = found.1.unmarked; ungranted = found.1.ungranted }),
    )) counted

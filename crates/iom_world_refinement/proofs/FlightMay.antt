-- Each access in flight of a world may still reach its frame.
use Rattle.std.proofs.Common.{◌≡◌, ◌<◌, ℕ, List, [], ◌∷◌, Option, Some, None, All, Contains, refl, sym, subst}
use Rattle.std.proofs.Math.Logic.{∥∥₁_map}
use Rattle.std.proofs.lemmas.List.Elements.{All-map, All-cons, All-nil}
use Rattle.iom_walk_coherence.specs.Walks.{Walk}
use Rattle.iom_base.specs.declared.access.AcceptedAccess.{AcceptedAccess}
use Rattle.iom_coherence.specs.Scene.{Scene}
use Rattle.iom_coherence.proofs.ListLemmas.{contains_head, contains_tail, contains_map}
use Rattle.iom_coherence.proofs.SourceLemmas.{accesses_may}
use Rattle.iom_inflight.specs.Flights.{NumberedAccess, FlightRow, row_of}
use Rattle.iom_inflight.proofs.Rows.{row_is_own}
use Rattle.iom_iommu.specs.Parts.{flights_of}
use Rattle.iom_ledger.specs.History.{May}
use Rattle.iom_machine.specs.declared.state.State.{State}
use Rattle.iom_machine.specs.Devices.{DeviceMay, EachInFlightMay}
use Rattle.iom_device.specs.declared.device.Device.{Device}
use Rattle.iom_world_effects.specs.Devices.{in_flight_of, shown_device}
use Rattle.iom_world_effects.specs.Parts.{Parts}
use Rattle.iom_world_effects.specs.Read.{access_in_flight, accesses_of}
use Rattle.iom_world_effects.specs.Shows.{PartsShow}
use Rattle.iom_world_effects.specs.Invariant.{InvariantWith}
use Rattle.iom_world_effects.proofs.HistoryMay.{may_merely, facts_of_history}
use Rattle.iom_world_effects.proofs.RowLemmas.{row_accesses}

all_by_contains : {X : Type 0} (P : X → Type 0) (xs : List X) → ((x : X) → Contains xs x → P x) → All P xs
all_by_contains P [] each = All-nil P
all_by_contains P (x ∷ xs) each = All-cons P x xs (each x (contains_head x xs)) (all_by_contains P xs (λ y there. each y (contains_tail x xs y there)))

module _ {walks : List Walk} (parts : Parts) (events : ℕ) (invariants : InvariantWith walks parts events) (state : State) (shows : PartsShow parts state) where
  abbrev rows : List FlightRow
  rows = (flights_of parts.iommu).rows

  -- what the facts on copies say of an access
  pub access_may : (device : ℕ) (flight : NumberedAccess) → Contains (accesses_of (flights_of parts.iommu).rows) (access_in_flight device flight)
      → May state.history device flight.accepted.frame flight.accepted.access.kind
  access_may device flight there =
      may_merely state.history device flight.accepted.frame flight.accepted.access.kind
      (∥∥₁_map invariants.copies (λ (scene, is, facts).
      let other : Scene = record scene { history = state.history } in
      accesses_may other
      (facts_of_history parts.driver.ledger scene state.history is.ledger shows.ledger
      (λ ticket later. shows.none_later ticket (subst (λ n. n < ticket) is.confirmed later)) facts.copies)
      (access_in_flight device flight)
      (subst (λ l. Contains l (access_in_flight device flight)) (sym is.in_flight) there)))

  -- of an access in flight of a device
  pub row_may : (id : ℕ) (row : FlightRow) → row_of (flights_of parts.iommu).rows id ≡ Some row → (flight : NumberedAccess) → Contains row.waiting flight
      → May state.history id flight.accepted.frame flight.accepted.access.kind
  row_may id row at flight there =
      subst (λ d. May state.history d flight.accepted.frame flight.accepted.access.kind) (row_is_own rows id row at)
      (access_may row.device flight (row_accesses rows id row at (access_in_flight row.device flight) (contains_map (access_in_flight row.device) row.waiting flight there)))

  device_may : (id : ℕ) → All (λ (a : AcceptedAccess). May state.history id a.frame a.access.kind) (in_flight_of rows id)
  device_may id = by (row_of rows id) refl
    where
      by : (row : Option FlightRow) → row_of rows id ≡ row → All (λ (a : AcceptedAccess). May state.history id a.frame a.access.kind) (in_flight_of rows id)
      by None at = rw at (All-nil (λ (a : AcceptedAccess). May state.history id a.frame a.access.kind))
      by (Some row) at = rw at
          (All-map (λ (a : AcceptedAccess). May state.history id a.frame a.access.kind) (λ (flight : NumberedAccess). flight.accepted) row.waiting
          (all_by_contains (λ (flight : NumberedAccess). May state.history id flight.accepted.frame flight.accepted.access.kind) row.waiting
          (λ flight there. row_may id row at flight there)))

pub each_may : {walks : List Walk} (parts : Parts) (events : ℕ) → InvariantWith walks parts events → (state : State) → PartsShow parts state → EachInFlightMay state
each_may parts events invariants state shows =
    rw shows.devices
    (All-map (DeviceMay state.history) (shown_device parts.driver.devices (flights_of parts.iommu).rows) parts.devices
    (all_by_contains (λ (device : Device). DeviceMay state.history (shown_device parts.driver.devices (flights_of parts.iommu).rows device)) parts.devices
    (λ device there. device_may parts events invariants state shows device.id)))

-- A commit of the first device that has something in flight makes one access, the first in turn.
use Rattle.std.proofs.Common.{◌≡◌, ◌∙◌, ℕ, List, [], ◌∷◌, Contains, Option, Some, None, sym, ap, subst, inl, inr}
use Rattle.std.proofs.lemmas.Bool.Decides.{eqb_tells}
use Rattle.iom_coherence.proofs.ListLemmas.{in_none, cons_cases, contains_head, contains_tail}
use Rattle.iom_device.specs.declared.device.Device.{Device}
use Rattle.iom_inflight.specs.declared.made.MadeAt.{MadeAt}
use Rattle.iom_inflight.specs.Calls.{MakesOldestInFlight}
use Rattle.iom_inflight.specs.Flights.{NumberedAccess, FlightRow, Flights, row_of, first_busy}
use Rattle.iom_inflight.specs.Invariant.{AreFlights}
use Rattle.iom_iommu.specs.Parts.{flights_of}
use Rattle.iom_machine.specs.declared.outcome.Outcome.{Outcome}
use Rattle.iom_world_effects.specs.Commits.{CommitsAccess}
use Rattle.iom_world_effects.specs.Parts.{Parts}
use Rattle.iom_world_effects.specs.Invariant.{PartsInvariant, plugged_ids, row_ids}
use Rattle.iom_settling.specs.Idle.{waiting_by}
use Rattle.iom_settling.proofs.IdleLemmas.{IsBusyRow, busy_where, first_waits}

-- a device that has a row is there
row_there : (rows : List FlightRow) (id : ℕ) (row : FlightRow) → row_of rows id ≡ Some row → Contains (row_ids rows) id
row_there [] id row at = cc
row_there (first ∷ others) id row at = elim (eqb_tells first.device id) [
  | inl e ↦ subst (λ (n : ℕ). Contains (row_ids (first ∷ others)) n) e.1 (contains_head first.device (row_ids others))
  | inr ne ↦ contains_tail first.device (row_ids others) id (row_there others id row (rw ne.0 at at))
]

with_id : (devices : List Device) (id : ℕ) → Contains (plugged_ids devices) id → (device : Device) × Contains devices device × (device.id ≡ id)
with_id [] id there = absurd (in_none id there)
with_id (first ∷ others) id there = elim (cons_cases first.id (plugged_ids others) id there) [
  | inl same ↦ (first, contains_head first others, same)
  | inr later ↦ let rest = with_id others id later in (rest.0, contains_tail first others rest.0 rest.1, rest.2)
]

-- where the row isn't idle, one access is made, and it was the first in turn
made_first : (memory memory' : List (List ℕ)) (old new : Flights) (id : ℕ) (made : Option MadeAt) → first_busy old.rows ≡ Some id → MakesOldestInFlight memory old id made memory' new
    → (busy : IsBusyRow old.rows id) → waiting_by old.rows ≡ id ∷ waiting_by new.rows
made_first memory memory' old new id None first makes busy =
    let same : Some makes.0.row ≡ Some busy.row = sym makes.0.stands ∙ busy.stands in
    let is : makes.0.row ≡ busy.row = cc in
    let none : ◌≡◌ {A = List NumberedAccess} [] (busy.oldest ∷ busy.later) = sym makes.0.idle ∙ ap (λ (r : FlightRow). r.waiting) is ∙ busy.waiting in
    cc
made_first memory memory' old new id (Some made) first is busy =
    first_waits old.rows id is.row is.oldest is.later first is.stands is.waiting ∙ ap (λ (f : Flights). id ∷ waiting_by f.rows) (sym is.after)

-- A COMMIT
pub committed : (old new : Parts) (events id : ℕ) (reply : Outcome) → PartsInvariant old events → AreFlights (flights_of old.iommu) → first_busy (flights_of old.iommu).rows ≡ Some id
    → CommitsAccess old id reply new → waiting_by (flights_of old.iommu).rows ≡ id ∷ waiting_by (flights_of new.iommu).rows
committed old new events id reply invariants flights found commits = by commits
  where
    busy : IsBusyRow (flights_of old.iommu).rows id
    busy = busy_where (flights_of old.iommu).rows id flights.distinct found

    there : (device : Device) × Contains old.devices device × (device.id ≡ id)
    there = with_id old.devices id (subst (λ (ids : List ℕ). Contains ids id) invariants.known.iommu (row_there (flights_of old.iommu).rows id busy.row busy.stands))

    by : CommitsAccess old id reply new → waiting_by (flights_of old.iommu).rows ≡ id ∷ waiting_by (flights_of new.iommu).rows
    by (inl unknown) = absurd (unknown.absent there.0 there.1 there.2)
    by (inr makes) = made_first old.memory new.memory (flights_of old.iommu) (flights_of new.iommu) id makes.made found makes.call.makes busy

-- the driver stays
pub commit_drives : (old new : Parts) (id : ℕ) (reply : Outcome) → CommitsAccess old id reply new → new.driver ≡ old.driver
commit_drives old new id reply (inl unknown) = ap (λ (p : Parts). p.driver) unknown.same
commit_drives old new id reply (inr makes) = makes.driver

-- The access that is made lies within one frame.
use Rattle.std.proofs.Common.{◌≡◌, ◌==◌, ℕ, Bool, true, false, List, [], ◌∷◌, Option, None, Some, IfSome, sym, subst, if◌then◌else◌}
use Rattle.iom_inflight.specs.declared.made.MadeAt.{MadeAt}
use Rattle.iom_inflight.specs.Calls.{MakesOldestInFlight}
use Rattle.iom_inflight.specs.Flights.{FlightRow, Flights, row_of}
use Rattle.iom_inflight.specs.Invariant.{AreFlights, RowsInvariant, AccessesInvariant, RowInvariant, AreRowsIn, AreAccessesIn}
use Rattle.iom_iommu.specs.Requests.{IsWithinFrame}

-- the row of a device is as all rows are
row_sound : (so_far : ℕ) (rows : List FlightRow) (device : ℕ) (row : FlightRow) → RowsInvariant so_far rows → row_of rows device ≡ Some row → RowInvariant so_far row
row_sound so_far [] device row invariants stands = cc
row_sound so_far (first ∷ rows) device row invariants stands = by (first.device == device) stands (λ is. row_sound so_far rows device row invariants.1 is)
  where
    by : (b : Bool) → (if b then Some first else row_of rows device) ≡ Some row → (row_of rows device ≡ Some row → RowInvariant so_far row) → RowInvariant so_far row
    by true is later = (let same : first ≡ row = cc in subst (RowInvariant so_far) same invariants.0)
    by false is later = later is

row_in : (frames : ℕ) (rows : List FlightRow) (device : ℕ) (row : FlightRow) → AreRowsIn frames rows → row_of rows device ≡ Some row → AreAccessesIn frames row.waiting
row_in frames [] device row inside stands = cc
row_in frames (first ∷ rows) device row inside stands = by (first.device == device) stands (λ is. row_in frames rows device row inside.1 is)
  where
    by : (b : Bool) → (if b then Some first else row_of rows device) ≡ Some row → (row_of rows device ≡ Some row → AreAccessesIn frames row.waiting) → AreAccessesIn frames row.waiting
    by true is later = (let same : first ≡ row = cc in subst (λ (r : FlightRow). AreAccessesIn frames r.waiting) same inside.0)
    by false is later = later is

pub made_within : (frames : ℕ) (memory : List (List ℕ)) (old : Flights) (device : ℕ) (result : Option MadeAt) (new_memory : List (List ℕ)) (new : Flights) → AreFlights old → AreRowsIn frames old.rows
    → MakesOldestInFlight memory old device result new_memory new → IfSome result (IsWithinFrame frames)
made_within frames memory old device None new_memory new flights inside makes = tt
made_within frames memory old device (Some made) new_memory new flights inside makes =
    let invariants = row_sound old.so_far old.rows device makes.row flights.rows makes.stands in
    let accesses = subst (AccessesInvariant old.so_far) makes.waiting invariants.accesses in
    let frames_in = subst (AreAccessesIn frames) makes.waiting (row_in frames old.rows device makes.row inside makes.stands) in
    subst (IsWithinFrame frames) (sym makes.reply) (record { inside = frames_in.0; within = accesses.0.within.1 })

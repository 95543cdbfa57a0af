-- What holds of all accesses in flight, whatever calls were made.
use Rattle.std.specs.Prelude.{◌≡◌, ℕ, ◌<◌, ◌≤◌, List, [], ◌∷◌, length, None}
use Rattle.iom_base.specs.Accesses.{IsWithinPage}
use Rattle.iom_base.specs.Sizes.{device_limit, in_flight_limit}
use Rattle.iom_base.specs.declared.access.AccessKind.{AccessKind}
use Rattle.iom_base.specs.declared.access.AccessKind.TheVariants.{Read, Write}
use Rattle.iom_inflight.specs.Flights.{NumberedAccess, FlightRow, Flights, row_of}

-- a read carries no bytes, a write as many as it is long
abbrev pub CarriesBytes : AccessKind → ℕ → List ℕ → Type 0
CarriesBytes Read len bytes = bytes ≡ []
CarriesBytes Write len bytes = length bytes ≡ len

-- an access that may be in flight, where so many were accepted so far
pub record AccessInvariant (so_far : ℕ) (access : NumberedAccess) : Type 0 where
  pub within : IsWithinPage access.accepted.access
  pub carries : CarriesBytes access.accepted.access.kind access.accepted.access.len access.accepted.access.bytes
  pub from_one : 1 ≤ access.number
  pub numbered : access.number ≤ so_far

abbrev pub AccessesInvariant : ℕ → List NumberedAccess → Type 0
AccessesInvariant so_far [] = Unit {0}
AccessesInvariant so_far (access ∷ later) = AccessInvariant so_far access × AccessesInvariant so_far later

-- a row: at most eight are in flight, and no more were accepted of the device than of all
pub record RowInvariant (so_far : ℕ) (row : FlightRow) : Type 0 where
  pub few : length row.waiting ≤ in_flight_limit
  pub counted : row.accepted ≤ so_far
  pub accesses : AccessesInvariant so_far row.waiting

abbrev pub RowsInvariant : ℕ → List FlightRow → Type 0
RowsInvariant so_far [] = Unit {0}
RowsInvariant so_far (row ∷ rows) = RowInvariant so_far row × RowsInvariant so_far rows

-- no two rows are of one device
abbrev pub AreDistinct : List FlightRow → Type 0
AreDistinct [] = Unit {0}
AreDistinct (row ∷ rows) = (row_of rows row.device ≡ None) × AreDistinct rows

-- at most 16 devices, each with one row
pub record AreFlights (flights : Flights) : Type 0 where
  pub few : length flights.rows ≤ device_limit
  pub distinct : AreDistinct flights.rows
  pub rows : RowsInvariant flights.so_far flights.rows

-- the frames of these are among so many
abbrev pub AreAccessesIn : ℕ → List NumberedAccess → Type 0
AreAccessesIn frames [] = Unit {0}
AreAccessesIn frames (access ∷ later) = (access.accepted.frame < frames) × AreAccessesIn frames later

-- the frames of all accesses in flight are among so many
abbrev pub AreRowsIn : ℕ → List FlightRow → Type 0
AreRowsIn frames [] = Unit {0}
AreRowsIn frames (row ∷ rows) = AreAccessesIn frames row.waiting × AreRowsIn frames rows

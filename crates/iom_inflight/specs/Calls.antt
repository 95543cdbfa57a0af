-- What each call answers, and all that it leaves.
use Rattle.std.specs.Prelude.{◌≡◌, ℕ, ◌+◌, ◌<◌, ◌≤◌, ◌⊎◌, Bool, true, false, List, [], ◌∷◌, ◌++◌, length, Option, None, Some, IsSome, slice_get, slice_set}
use Rattle.iom_base.specs.Accesses.{offset_of, IsWithinPage}
use Rattle.iom_base.specs.Bytes.{with_bytes}
use Rattle.iom_base.specs.Sizes.{device_limit, in_flight_limit}
use Rattle.iom_base.specs.declared.access.AcceptedAccess.{AcceptedAccess}
use Rattle.iom_base.specs.declared.access.AccessKind.{AccessKind}
use Rattle.iom_base.specs.declared.access.AccessKind.TheVariants.{Read, Write}
use Rattle.iom_inflight.specs.declared.made.MadeAt.{MadeAt}
use Rattle.iom_inflight.specs.Flights.{NumberedAccess, FlightRow, Flights, new_row, row_of, with_row, made_at}

-- A DEVICE IS ADDED, unless it is there or 16 are
abbrev pub Adds : Flights → ℕ → Bool → Flights → Type 0
Adds old device true new =
    (row_of old.rows device ≡ None) × (length old.rows < device_limit) × (new ≡ record old { rows = old.rows ++ new_row device ∷ [] })
Adds old device false new = (IsSome (row_of old.rows device) ⊎ (device_limit ≤ length old.rows)) × (new ≡ old)

-- the row, where one more access was accepted: it goes last
abbrev pub with_access : FlightRow → AcceptedAccess → ℕ → FlightRow
with_access row accepted number = record row {
  accepted = row.accepted + 1;
  waiting = row.waiting ++ record { accepted = accepted; number = number } ∷ [];
}

-- all of them, where one more of this row was accepted
abbrev pub flights_with_accepted : Flights → FlightRow → AcceptedAccess → Flights
flights_with_accepted flights row accepted = record {
  rows = with_row flights.rows (with_access row accepted (flights.so_far + 1));
  so_far = flights.so_far + 1;
}

-- the access of the device is accepted, and has this number among the device's
pub record IsAccepted (old : Flights) (device : ℕ) (accepted : AcceptedAccess) (number : ℕ) (new : Flights) : Type 0 where
  pub row : FlightRow
  pub stands : row_of old.rows device ≡ Some row
  pub room : length row.waiting < in_flight_limit
  pub counted : number ≡ row.accepted + 1
  pub after : new ≡ flights_with_accepted old row accepted

-- eight accesses of the device are in flight
pub record IsFull (old : Flights) (device : ℕ) : Type 0 where
  pub row : FlightRow
  pub stands : row_of old.rows device ≡ Some row
  pub full : in_flight_limit ≤ length row.waiting

-- fewer than eight are
pub record HasRoom (old : Flights) (device : ℕ) : Type 0 where
  pub row : FlightRow
  pub stands : row_of old.rows device ≡ Some row
  pub room : length row.waiting < in_flight_limit

-- AN ACCESS IS ACCEPTED, unless eight of the device are in flight
abbrev pub Accepts : Flights → ℕ → AcceptedAccess → Option ℕ → Flights → Type 0
Accepts old device accepted None new = IsFull old device × (new ≡ old)
Accepts old device accepted (Some number) new = IsAccepted old device accepted number new

-- what an access that is made does to memory: a read nothing; a write has its bytes in its frame, from its offset on
abbrev pub Performs : AccessKind → List (List ℕ) → AcceptedAccess → List (List ℕ) → Type 0
Performs Read memory made new = new ≡ memory
Performs Write memory made new =
    (bytes : List ℕ) × (slice_get memory made.frame ≡ Some bytes)
    × (new ≡ slice_set memory made.frame (with_bytes bytes (offset_of made.access) made.access.bytes))

-- the oldest access of the device is made
pub record IsMade (memory : List (List ℕ)) (old : Flights) (device : ℕ) (made : MadeAt) (new_memory : List (List ℕ)) (new : Flights) : Type 0 where
  pub row : FlightRow
  pub stands : row_of old.rows device ≡ Some row
  pub oldest : NumberedAccess
  pub later : List NumberedAccess
  pub waiting : row.waiting ≡ oldest ∷ later
  pub inside : oldest.accepted.frame < length memory
  pub within : IsWithinPage oldest.accepted.access
  pub reply : made ≡ made_at device oldest.accepted
  pub performed : Performs oldest.accepted.access.kind memory oldest.accepted new_memory
  pub after : new ≡ record old { rows = with_row old.rows (record row { waiting = later }) }

-- nothing of the device is in flight
pub record IsIdle (old : Flights) (device : ℕ) : Type 0 where
  pub row : FlightRow
  pub stands : row_of old.rows device ≡ Some row
  pub idle : row.waiting ≡ []

-- THE OLDEST ACCESS of the device is made, if there is one
abbrev pub MakesOldestInFlight : List (List ℕ) → Flights → ℕ → Option MadeAt → List (List ℕ) → Flights → Type 0
MakesOldestInFlight memory old device None new_memory new = IsIdle old device × (new_memory ≡ memory) × (new ≡ old)
MakesOldestInFlight memory old device (Some made) new_memory new = IsMade memory old device made new_memory new

-- WHAT A COMMIT WOULD MAKE of the device: what it makes, whatever memory holds
abbrev pub WouldMakeOldest : Flights → ℕ → Option MadeAt → Type 0
WouldMakeOldest old device made = (memory : List (List ℕ)) (answer : Option MadeAt) (new_memory : List (List ℕ)) (new : Flights)
    → MakesOldestInFlight memory old device answer new_memory new → answer ≡ made

-- the frame of the oldest of these is one of so many
abbrev pub IsFirstIn : ℕ → List NumberedAccess → Type 0
IsFirstIn frames [] = Unit {0}
IsFirstIn frames (oldest ∷ later) = oldest.accepted.frame < frames

-- the device was added, and the frame of its oldest access is one of so many
abbrev pub IsReadyToCommit : ℕ → Option FlightRow → Type 0
IsReadyToCommit frames None = ⊥
IsReadyToCommit frames (Some row) = IsFirstIn frames row.waiting

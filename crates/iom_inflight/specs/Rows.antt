-- What the calls of one row, and those by a row's place, answer and leave.
use Rattle.std.specs.Prelude.{◌≡◌, ℕ, ◌+◌, ◌<◌, ◌≤◌, List, [], ◌∷◌, length, Option, None, Some, slice_get, slice_set}
use Rattle.iom_base.specs.Accesses.{IsWithinPage}
use Rattle.iom_base.specs.Sizes.{in_flight_limit}
use Rattle.iom_base.specs.declared.access.AcceptedAccess.{AcceptedAccess}
use Rattle.iom_base.specs.declared.access.AccessKind.TheVariants.{Read, Write}
use Rattle.iom_inflight.specs.declared.made.MadeAt.{MadeAt}
use Rattle.iom_inflight.specs.Flights.{NumberedAccess, FlightRow, row_of, with_row, made_at}
use Rattle.iom_inflight.specs.Calls.{with_access, Performs}
use Rattle.iom_inflight.specs.Invariant.{CarriesBytes}

-- the row of the device stands at this place: it is the first of the device, and a row that is put there replaces it
pub record RowStandsAt (rows : List FlightRow) (device place : ℕ) : Type 0 where
  pub row : FlightRow
  pub own : row.device ≡ device
  pub there : slice_get rows place ≡ Some row
  pub first : row_of rows device ≡ Some row
  pub replaced : (other : FlightRow) → other.device ≡ device → slice_set rows place other ≡ with_row rows other

-- one more access with this number goes last in the row, unless eight are there
abbrev pub RowAccepts : FlightRow → AcceptedAccess → ℕ → Option ℕ → FlightRow → Type 0
RowAccepts old accepted number None new = (in_flight_limit ≤ length old.waiting) × (new ≡ old)
RowAccepts old accepted number (Some found) new =
    (length old.waiting < in_flight_limit) × (found ≡ old.accepted + 1) × (new ≡ with_access old accepted number)

-- the oldest of these can be made in a memory of so many frames
abbrev pub IsMakeable : ℕ → List NumberedAccess → Type 0
IsMakeable frames [] = Unit {0}
IsMakeable frames (oldest ∷ later) =
    (oldest.accepted.frame < frames) × IsWithinPage oldest.accepted.access
    × CarriesBytes oldest.accepted.access.kind oldest.accepted.access.len oldest.accepted.access.bytes

-- the oldest of the row is made
pub record RowMakesOne (memory : List (List ℕ)) (old : FlightRow) (made : MadeAt) (new_memory : List (List ℕ)) (new : FlightRow) : Type 0 where
  pub oldest : NumberedAccess
  pub later : List NumberedAccess
  pub waiting : old.waiting ≡ oldest ∷ later
  pub inside : oldest.accepted.frame < length memory
  pub within : IsWithinPage oldest.accepted.access
  pub reply : made ≡ made_at old.device oldest.accepted
  pub performed : Performs oldest.accepted.access.kind memory oldest.accepted new_memory
  pub after : new ≡ record old { waiting = later }

abbrev pub RowMakes : List (List ℕ) → FlightRow → Option MadeAt → List (List ℕ) → FlightRow → Type 0
RowMakes memory old None new_memory new = (old.waiting ≡ []) × (new_memory ≡ memory) × (new ≡ old)
RowMakes memory old (Some made) new_memory new = RowMakesOne memory old made new_memory new

-- the oldest of these is a read
abbrev pub OldestIsRead : List NumberedAccess → Type 0
OldestIsRead [] = ⊥
OldestIsRead (oldest ∷ later) = oldest.accepted.access.kind ≡ Read

-- the oldest of these is a write of so many bytes
abbrev pub OldestWrites : List NumberedAccess → ℕ → Type 0
OldestWrites [] len = ⊥
OldestWrites (oldest ∷ later) len = (oldest.accepted.access.kind ≡ Write) × (oldest.accepted.access.len ≡ len)

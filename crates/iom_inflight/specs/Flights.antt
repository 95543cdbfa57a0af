-- The accesses in flight, those of each device in a row of its own.
use Rattle.std.specs.Prelude.{ℕ, ◌+◌, ◌==◌, nat_le, Bool, true, false, ◌&&◌, not, List, [], ◌∷◌, length, slice_get, Option, None, Some, IsSome, option_map, if◌then◌else◌}
use Rattle.std.specs.List.{list_all, list_any}
use Rattle.iom_base.specs.Accesses.{offset_of}
use Rattle.iom_base.specs.declared.access.AcceptedAccess.{AcceptedAccess}
use Rattle.iom_base.specs.declared.access.AccessKind.{AccessKind}
use Rattle.iom_base.specs.declared.access.AccessKind.TheVariants.{Read, Write}
use Rattle.iom_inflight.specs.declared.made.MadeAt.{MadeAt}

-- an access in flight, with its place in the order of acceptance over all devices, from 1
pub record NumberedAccess : Type 0 where
  pub accepted : AcceptedAccess
  pub number : ℕ

-- a device's: how many were ever accepted, and those in flight, the oldest first
pub record FlightRow : Type 0 where
  pub device : ℕ
  pub accepted : ℕ
  pub waiting : List NumberedAccess

-- all of them: the rows in the order in which the devices were added, and how many accesses were ever accepted
pub record Flights : Type 0 where
  pub rows : List FlightRow
  pub so_far : ℕ

abbrev pub no_flights : Flights
no_flights = record { rows = []; so_far = 0 }

-- the row of a device of which nothing was accepted yet
abbrev pub new_row : ℕ → FlightRow
new_row device = record { device = device; accepted = 0; waiting = [] }

-- the first row of this device
abbrev pub row_of : List FlightRow → ℕ → Option FlightRow
row_of [] device = None
row_of (row ∷ rows) device = if row.device == device then Some row else row_of rows device

-- the rows, where the first one of that device is this one
abbrev pub with_row : List FlightRow → FlightRow → List FlightRow
with_row [] own = []
with_row (row ∷ rows) own = if row.device == own.device then own ∷ rows else row ∷ with_row rows own

-- the device was added
abbrev pub IsAddedTo : Flights → ℕ → Type 0
IsAddedTo flights device = IsSome (row_of flights.rows device)

-- what is made of an access when its device makes it
abbrev pub made_at : ℕ → AcceptedAccess → MadeAt
made_at device made = record {
  device = device;
  frame = made.frame;
  offset = offset_of made.access;
  len = made.access.len;
  kind = made.access.kind;
}

-- how many accesses of the device are in flight
abbrev pub count_in : Option FlightRow → ℕ
count_in None = 0
count_in (Some row) = length row.waiting

-- how many accesses of the device were ever accepted
abbrev pub accepted_in : Option FlightRow → ℕ
accepted_in None = 0
accepted_in (Some row) = row.accepted

-- how many accesses of all these rows are in flight
abbrev pub count_all : List FlightRow → ℕ
count_all [] = 0
count_all (row ∷ rows) = length row.waiting + count_all rows

-- what is made of the access at this place, the oldest at 0
abbrev pub made_in : ℕ → List NumberedAccess → ℕ → Option MadeAt
made_in device waiting place = option_map (λ (own : NumberedAccess). made_at device own.accepted) (slice_get waiting place)

abbrev pub waiting_at : Option FlightRow → ℕ → Option MadeAt
waiting_at None place = None
waiting_at (Some row) place = made_in row.device row.waiting place

-- the oldest of these
abbrev pub first_made : ℕ → List NumberedAccess → Option MadeAt
first_made device [] = None
first_made device (oldest ∷ later) = Some (made_at device oldest.accepted)

-- the oldest access of a row
abbrev pub oldest_in : Option FlightRow → Option MadeAt
oldest_in None = None
oldest_in (Some row) = first_made row.device row.waiting

-- its number, in the order of acceptance over all devices
abbrev pub first_number : List NumberedAccess → Option ℕ
first_number [] = None
first_number (oldest ∷ later) = Some oldest.number

-- the same of the oldest access of a row
abbrev pub oldest_number_in : Option FlightRow → Option ℕ
oldest_number_in None = None
oldest_number_in (Some row) = first_number row.waiting

-- whether there is one
abbrev pub has_access : List NumberedAccess → Bool
has_access [] = false
has_access (oldest ∷ later) = true

-- the first device, in the order in which they were added, of which an access is in flight
abbrev pub first_busy : List FlightRow → Option ℕ
first_busy [] = None
first_busy (row ∷ rows) = if has_access row.waiting then Some row.device else first_busy rows

-- whether an access of any device is in flight
abbrev pub some_in_flight : Flights → Bool
some_in_flight flights = list_any (λ row. has_access row.waiting) flights.rows

abbrev pub is_same_kind : AccessKind → AccessKind → Bool
is_same_kind Read Read = true
is_same_kind Read Write = false
is_same_kind Write Read = false
is_same_kind Write Write = true

-- whether the access is of the kind, and was accepted up to this number
abbrev pub is_awaited : ℕ → AccessKind → NumberedAccess → Bool
is_awaited before kind access = is_same_kind access.accepted.access.kind kind && nat_le access.number before

-- whether none of the row is
abbrev pub is_row_drained : ℕ → AccessKind → FlightRow → Bool
is_row_drained before kind row = list_all (λ access. not (is_awaited before kind access)) row.waiting

-- whether no access of the kind that was accepted up to this number is in flight
abbrev pub are_drained : Flights → ℕ → AccessKind → Bool
are_drained flights before kind = list_all (is_row_drained before kind) flights.rows

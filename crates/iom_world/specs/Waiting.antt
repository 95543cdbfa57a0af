-- What a block device waits for: an access of its own that the IOMMU accepted, and that isn't made yet.
use Rattle.std.specs.Prelude.{◌≡◌, ⊤, ℕ, ◌-◌, ◌==◌, List, [], ◌∷◌, length, Option, None, Some, if◌then◌else◌}
use Rattle.iom_base.specs.declared.access.Access.{Access}
use Rattle.iom_base.specs.declared.access.AcceptedAccess.{AcceptedAccess}
use Rattle.iom_base.specs.Accesses.{offset_of}
use Rattle.iom_inflight.specs.Flights.{NumberedAccess, FlightRow}
use Rattle.iom_virtio_blk.specs.declared.front.Front.{Front}
use Rattle.iom_virtio_blk.specs.Blocks.{wanted_by}
use Rattle.iom_block_devices.specs.Wanted.{wanted_access}

-- the access of this number, where so many of the device were ever accepted, and these aren't made yet. They are made in their order: so these are the
-- last that were accepted, and the number of each is that of all but those behind it
abbrev pub access_numbered : (accepted : ℕ) → List NumberedAccess → (number : ℕ) → Option AcceptedAccess
access_numbered accepted [] number = None
access_numbered accepted (oldest ∷ later) number = if accepted - length later == number then Some oldest.accepted else access_numbered accepted later number

-- the same in a device's row, if it has one
abbrev pub in_flight_as : Option FlightRow → (number : ℕ) → Option AcceptedAccess
in_flight_as None number = None
in_flight_as (Some row) number = access_numbered row.accepted row.waiting number

-- it is what was wanted: of that kind, of as many bytes, of these bytes where it is a write, and at the same place of its page
pub record IsAsWanted (wanted : Access) (own : AcceptedAccess) : Type 0 where
  pub kind : own.access.kind ≡ wanted.kind
  pub len : own.access.len ≡ wanted.len
  pub bytes : own.access.bytes ≡ wanted.bytes
  pub offset : offset_of own.access ≡ offset_of wanted

-- there is one, and it is what is wanted
abbrev pub IsOwnAccess : Option AcceptedAccess → Option Access → Type 0
IsOwnAccess None wanted = ⊥
IsOwnAccess (Some own) None = ⊥
IsOwnAccess (Some own) (Some wanted) = IsAsWanted wanted own

-- a device that waits for its access of this number has that very access in flight, and it is the one that the device wants
abbrev pub WaitsFor : Option ℕ → Front → Option FlightRow → Type 0
WaitsFor None front row = ⊤
WaitsFor (Some number) front row = IsOwnAccess (in_flight_as row number) (wanted_access (wanted_by front))

-- the device, if there is one, waits only while its own access is in flight
abbrev pub WaitsInFlight : Option Front → Option FlightRow → Type 0
WaitsInFlight None row = ⊤
WaitsInFlight (Some front) row = WaitsFor front.waits front row

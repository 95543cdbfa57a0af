-- What stays true of the requests that are under way beside a board.
use Rattle.std.specs.Prelude.{◌≡◌, ℕ, ◌<◌, List, map, IsSome}
use Rattle.iom_base.specs.Sizes.{in_flight_limit}
use Rattle.iom_board.specs.BoardParts.{BoardParts}
use Rattle.iom_board.specs.Invariant.{device_ids}
use Rattle.iom_board.specs.Software.{ChangesAsSoftware}
use Rattle.iom_inflight.specs.Flights.{count_in, row_of}
use Rattle.iom_iommu.specs.Parts.{flights_of}
use Rattle.iom_walks.specs.Walks.{WalkRow, under_way_of}

-- the ids of the rows
abbrev pub walk_ids : List WalkRow → List ℕ
walk_ids rows = map (λ (row : WalkRow). row.device) rows

-- Each device has a row for its request, in the order of plugging; and one that is under way has its place among the device's eight accesses.
pub record AreBeside (parts : BoardParts) (rows : List WalkRow) : Type 0 where
  pub ids : walk_ids rows ≡ device_ids parts.devices
  pub room : (id : ℕ) → IsSome (under_way_of rows id) → count_in (row_of (flights_of parts.iommu).rows id) < in_flight_limit

-- so they are where the accesses in flight stay as they are, and the devices in their order
abbrev pub StaysBeside : Type 0
StaysBeside =
    (old new : BoardParts) (rows : List WalkRow) → AreBeside old rows → device_ids new.devices ≡ device_ids old.devices
    → flights_of new.iommu ≡ flights_of old.iommu → AreBeside new rows

-- so they are whatever software does
abbrev pub SoftwareStaysBeside : Type 0
SoftwareStaysBeside = (old new : BoardParts) (rows : List WalkRow) → AreBeside old rows → ChangesAsSoftware old new → AreBeside new rows

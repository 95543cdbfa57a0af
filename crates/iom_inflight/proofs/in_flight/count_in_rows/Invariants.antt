use Rattle.std.proofs.Common.{◌≡◌, ◌+◌, ◌*◌, ◌≤◌, drop}
use Rattle.iom_base.specs.Sizes.{in_flight_limit}
use Rattle.iom_inflight.specs.Flights.{count_all}
use Rattle.iom_inflight.proofs.in_flight.count_in_rows.Given as goal

-- so many in the rows before the place, and the others are in those from there on
abbrev pub invariant-loop-place : goal.invariant-loop-place
invariant-loop-place l = (l.total + count_all (drop l.place l.rows) ≡ count_all l.rows) × (l.total ≤ in_flight_limit * l.place)

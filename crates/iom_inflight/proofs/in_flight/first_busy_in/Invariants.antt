use Rattle.std.proofs.Common.{◌≡◌, drop}
use Rattle.iom_inflight.specs.Flights.{first_busy}
use Rattle.iom_inflight.proofs.in_flight.first_busy_in.Given as goal

-- nothing is in flight of the rows before the place
abbrev pub invariant-loop-place : goal.invariant-loop-place
invariant-loop-place l = first_busy (drop l.place l.rows) ≡ first_busy l.rows

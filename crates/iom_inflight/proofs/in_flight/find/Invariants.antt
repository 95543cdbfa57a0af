use Rattle.std.proofs.Common.{◌≡◌, ◌≢◌, ℕ, ◌<◌, Some, slice_get}
use Rattle.iom_inflight.specs.Flights.{FlightRow}
use Rattle.iom_inflight.proofs.in_flight.find.Given as goal

-- none of the rows so far is the device's
abbrev pub invariant-loop-place : goal.invariant-loop-place
invariant-loop-place l = (j : ℕ) (other : FlightRow) → j < l.place → slice_get l.rows j ≡ Some other → other.device ≢ l.device

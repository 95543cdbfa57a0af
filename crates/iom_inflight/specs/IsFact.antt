-- That the frames of all accesses in flight are among so many is a fact: it has one proof at most.
use Rattle.std.specs.Prelude.{ℕ, List, [], ◌∷◌}
use Rattle.std.specs.Coded.{Unit-prop}
use Rattle.std.proofs.Props.{props}
use Rattle.iom_inflight.specs.Flights.{NumberedAccess, FlightRow}
use Rattle.iom_inflight.specs.Invariant.{AreAccessesIn, AreRowsIn}

pub accesses_in_prop : (frames : ℕ) (waiting : List NumberedAccess) → IsProp (AreAccessesIn frames waiting)
accesses_in_prop frames [] = Unit-prop
accesses_in_prop frames (access ∷ later) = let rest = accesses_in_prop frames later in hlevel (props, rest)

pub rows_in_prop : (frames : ℕ) (rows : List FlightRow) → IsProp (AreRowsIn frames rows)
rows_in_prop frames [] = Unit-prop
rows_in_prop frames (row ∷ rows) =
    let first = accesses_in_prop frames row.waiting in let rest = rows_in_prop frames rows in hlevel (props, first, rest)

use Rattle.iom_inflight.proofs.Sames.{AreAlike}
use Rattle.iom_inflight.proofs.in_flight.are_same_rows.Given as goal

-- the rows are alike before the place
abbrev pub invariant-loop-place : goal.invariant-loop-place
invariant-loop-place l = AreAlike l.rows l.others l.place

use Rattle.iom_inflight.proofs.Sames.{AreAlike}
use Rattle.iom_inflight.proofs.rings.have_same_bytes.Given as goal

-- the rings are alike before the place
abbrev pub invariant-loop-place : goal.invariant-loop-place
invariant-loop-place l = AreAlike l.one.items l.other.items l.place

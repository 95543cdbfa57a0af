use Rattle.iom_inflight.proofs.Sames.{AreAlike}
use Rattle.iom_board.proofs.same.are_same_devices.Given as goal

-- the devices before the place are equal
abbrev pub invariant-loop-place : goal.invariant-loop-place
invariant-loop-place l = AreAlike l.devices l.others l.place

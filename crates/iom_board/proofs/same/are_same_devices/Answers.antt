use Rattle.std.proofs.Common.{refl, arith}
use Rattle.iom_inflight.proofs.Sames.{alike_all}
use Rattle.iom_board.proofs.same.are_same_devices.Goals as goal

pub returns : goal.returns
returns c = (λ same. alike_all c.args.devices.now c.args.others.now c.loop-place.place (omega arith) c.loop-place.invariant, λ same. refl)

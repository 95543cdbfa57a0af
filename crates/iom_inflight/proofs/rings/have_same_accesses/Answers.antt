use Rattle.std.proofs.Common.{refl, arith}
use Rattle.iom_inflight.proofs.Sames.{alike_all}
use Rattle.iom_inflight.proofs.rings.have_same_accesses.Goals as goal

pub returns : goal.returns
returns c = (λ same. alike_all c.args.one.now.items c.args.other.now.items c.loop-place.place (omega arith) c.loop-place.invariant, λ same. refl)

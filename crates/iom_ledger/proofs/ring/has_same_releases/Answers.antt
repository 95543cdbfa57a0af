use Rattle.std.proofs.Common.{refl, arith}
use Rattle.iom_ledger.proofs.SameLemmas.{same_by_place}
use Rattle.iom_ledger.proofs.ring.has_same_releases.Goals as goal

pub returns : goal.returns
returns c = (
  λ yes. same_by_place c.args.pending.now.items c.args.other.now.items (omega arith) (λ j lt. c.loop-n.invariant j (omega arith)),
  λ same. refl,
)

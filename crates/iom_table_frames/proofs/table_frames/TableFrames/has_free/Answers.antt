use Rattle.std.proofs.Common.{◌≡◌, ◌+◌, ◌-◌, suc, arith}
use Rattle.std.proofs.lemmas.Bool.{false≢true}
use Rattle.iom_table_frames.proofs.ChoiceLemmas.{HasFree-next, HasFree-none}
use Rattle.iom_table_frames.proofs.table_frames.TableFrames.has_free.Goals as goal

pub returns-in-None : goal.returns-in-None
returns-in-None c =
    let left : c.args.count - c.loop-counted.counted ≡ suc (c.args.count - (c.loop-counted.counted + 1)) = omega arith in (
      (λ same. absurd (false≢true same)),
      (λ has. absurd (HasFree-none c.args.self.now c.args.ledger.now c.args.named (c.args.count - c.loop-counted.counted) (c.args.count - (c.loop-counted.counted + 1)) c.loop-counted.limit left c.in-None.ensures (c.loop-counted.invariant.left.0 has))),
    )

pub loop-counted-preserved : goal.loop-counted-preserved
loop-counted-preserved c =
    let left : c.args.count - c.loop-counted.counted ≡ suc (c.args.count - (c.loop-counted.counted + 1)) = omega arith in
    let below = c.in-Some.ensures.below in
    let next = HasFree-next c.args.self.now c.args.ledger.now c.args.named (c.args.count - c.loop-counted.counted) (c.args.count - (c.loop-counted.counted + 1)) c.loop-counted.limit c.in-Some.frame left c.in-Some.ensures in
    record {
      within = omega arith;
      left = ((λ has. next.0 (c.loop-counted.invariant.left.0 has)), (λ rest. c.loop-counted.invariant.left.1 (next.1 rest)));
    }

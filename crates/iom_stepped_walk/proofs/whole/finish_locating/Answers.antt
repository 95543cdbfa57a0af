-- Each load leaves what ends as before.
use Rattle.std.proofs.Common.{◌∙◌, refl}
use Rattle.iom_stepped_walk.proofs.FinishLemmas.{directory_left, directory_next, directory_within}
use Rattle.iom_stepped_walk.proofs.whole.finish_locating.Goals as goal

pub loop-made-init : goal.loop-made-init
loop-made-init g c = record { same = refl; bounded = c.requires }

pub returns-in-Ended : goal.returns-in-Ended
returns-in-Ended g c = rw c.in-Ended.is at c.loop-made.invariant.same

pub loop-made-preserved : goal.loop-made-preserved
loop-made-preserved g c =
    let m = g.B.Bytes.frames_of c.args.memory.now in
    record {
      same = directory_next m c.in-GoesOn.walk c.load-progress.result c.load-progress.ensures ∙ (rw c.in-GoesOn.is at c.loop-made.invariant.same);
      bounded = directory_within m c.in-GoesOn.walk c.load-progress.result c.loop-made._made c.loop-made-test.true c.load-progress.ensures (rw c.in-GoesOn.is at c.loop-made.invariant.bounded);
    }

pub unreachable-requires : goal.unreachable-requires
unreachable-requires g c =
    directory_left (g.B.Bytes.frames_of c.args.memory.now) c.in-GoesOn-progress.field-0 c.loop-made._made c.loop-made-test.false (rw c.in-GoesOn-progress.is at c.loop-made.invariant.bounded)

pub returns : goal.returns
returns g c = rw c.in-Ended-progress.is at c.loop-made.invariant.same

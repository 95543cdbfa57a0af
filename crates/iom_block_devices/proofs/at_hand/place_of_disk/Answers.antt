use Rattle.std.proofs.Common.{arith}
use Rattle.iom_block_devices.proofs.DiskLemmas.{disk_at, none_later, no_disk}
use Rattle.iom_block_devices.proofs.at_hand.place_of_disk.Goals as goal

pub returns-then-at_hand-place : goal.returns-then-at_hand-place
returns-then-at_hand-place g c =
    disk_at g.D.Disk.shown c.args.at_hand.now c.args.number c.loop-place.place c.index-at_hand-place.result c.loop-place-test.true c.if-at_hand-place.true c.loop-place.invariant

pub loop-place-preserved : goal.loop-place-preserved
loop-place-preserved g c = none_later c.args.at_hand.now c.args.number c.loop-place.place c.index-at_hand-place.result c.if-at_hand-place.false c.loop-place.invariant

pub returns : goal.returns
returns g c = no_disk c.args.at_hand.now c.args.number (λ k other lt at. c.loop-place.invariant k other (omega arith) at)

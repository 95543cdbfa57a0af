use Rattle.std.proofs.Common.{arith}
use Rattle.iom_block_devices.proofs.PlaceLemmas.{place_at, none_later, no_place}
use Rattle.iom_block_devices.proofs.blocks.place_of.Goals as goal

pub returns-then-blocks-place : goal.returns-then-blocks-place
returns-then-blocks-place g c =
    place_at g.D.Disk.shown c.args.blocks.now c.args.id c.loop-place.place c.index-blocks-place.result c.loop-place-test.true c.if-blocks-place.true c.loop-place.invariant

pub loop-place-preserved : goal.loop-place-preserved
loop-place-preserved g c = none_later c.args.blocks.now c.args.id c.loop-place.place c.index-blocks-place.result c.if-blocks-place.false c.loop-place.invariant

pub returns : goal.returns
returns g c = no_place g.D.Disk.shown c.args.blocks.now c.args.id (λ k other lt at. c.loop-place.invariant k other (omega arith) at)

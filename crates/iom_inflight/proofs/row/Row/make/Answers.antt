-- A write that is made stands in its frame.
use Rattle.std.proofs.Common.{◌≡◌, ◌∙◌, Some, slice_get, refl, sym}
use Rattle.iom_inflight.proofs.RowCalls.{makes_write}
use Rattle.iom_inflight.proofs.row.Row.make.Goals as goal

pub returns-in-Write : goal.returns-in-Write
returns-in-Write c =
    let there : slice_get c.args.memory.now c.in_ok-made.made.frame ≡ Some c.unwrap-frame.result.now = sym c.frame_mut.ensures.value ∙ rw c.unwrap-frame.ensures refl in
    makes_write c.args.memory.now c.args.self.now c.in_ok-made.made c.unwrap-frame.result.now c.store_write.new.frame c.from.result c.store_write.new.self c.from.ensures
    c.in_ok-made.ensures c.in-Write.is c.requires there c.store_write.ensures.stored c.store_write.ensures.rest

-- A write that is accepted goes last, with its bytes.
use Rattle.std.proofs.Common.{refl, arith}
use Rattle.iom_inflight.proofs.Accesses.{rings_after_write}
use Rattle.iom_inflight.proofs.RowCalls.{full_row, accepts_write}
use Rattle.iom_inflight.proofs.row.Row.accept_write.Goals as goal

pub returns-then-len-ge-MAX_IN_FLIGHT : goal.returns-then-len-ge-MAX_IN_FLIGHT
returns-then-len-ge-MAX_IN_FLIGHT c = (full_row _ _ c.self.inside.waiting.items c.self.inside.bytes.items c.args.self.now c.self.view_is (omega arith), refl)

pub invariant_of-self : goal.invariant_of-self
invariant_of-self c =
    rings_after_write c.self.inside.waiting c.push_back.new.self c.self.inside.bytes c.fill_from_slice.new.self _ c.args.bytes.now c.fill_from_slice.result c.self.invariant refl c.requires.short
    (omega arith) c.push_back.ensures.items c.fill_from_slice.ensures.count c.fill_from_slice.ensures.items

pub returns : goal.returns
returns c =
    accepts_write _ _ c.self.inside.waiting c.push_back.new.self c.self.inside.bytes c.fill_from_slice.new.self _ c.args.bytes.now c.fill_from_slice.result c.args.self.now c.self.view_is c.self.invariant
    refl c.requires.short (omega arith) c.push_back.ensures.items c.fill_from_slice.ensures.count c.fill_from_slice.ensures.items

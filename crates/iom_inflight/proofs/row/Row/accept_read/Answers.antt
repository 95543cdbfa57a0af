-- A read that is accepted goes last; it keeps no bytes.
use Rattle.std.proofs.Common.{refl, arith}
use Rattle.iom_inflight.proofs.Accesses.{rings_after_read}
use Rattle.iom_inflight.proofs.RowCalls.{full_row, accepts_read}
use Rattle.iom_inflight.proofs.row.Row.accept_read.Goals as goal

pub returns-then-len-ge-MAX_IN_FLIGHT : goal.returns-then-len-ge-MAX_IN_FLIGHT
returns-then-len-ge-MAX_IN_FLIGHT c = (full_row _ _ c.self.inside.waiting.items c.self.inside.bytes.items c.args.self.now c.self.view_is (omega arith), refl)

pub invariant_of-self : goal.invariant_of-self
invariant_of-self c = rings_after_read c.self.inside.waiting c.push_back.new.self c.self.inside.bytes _ c.self.invariant refl c.push_back.ensures.items (omega arith)

pub returns : goal.returns
returns c = accepts_read _ _ c.self.inside.waiting c.push_back.new.self c.self.inside.bytes _ c.args.self.now c.self.view_is c.self.invariant refl c.push_back.ensures.items (omega arith)

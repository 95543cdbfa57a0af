-- How many are in flight is how many headers the ring has.
use Rattle.std.proofs.Common.{◌∙◌}
use Rattle.iom_inflight.proofs.RowCalls.{length_row}
use Rattle.iom_inflight.proofs.row.Row.count.Goals as goal

pub returns-clause-count : goal.returns-clause-count
returns-clause-count c = c.len.ensures.len ∙ length_row _ _ c.self.inside.waiting.items c.self.inside.bytes.items c.args.self.now c.self.view_is

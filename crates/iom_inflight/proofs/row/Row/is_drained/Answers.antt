-- None is awaited where no header is.
use Rattle.std.proofs.Common.{◌∙◌, ap}
use Rattle.iom_inflight.specs.Flights.{is_row_drained}
use Rattle.iom_inflight.proofs.Accesses.{drained_of}
use Rattle.iom_inflight.proofs.row.Row.is_drained.Goals as goal

pub returns : goal.returns
returns c =
    c.none_awaited.ensures ∙ drained_of c.args.before c.args.kind c.self.inside.waiting.items c.self.inside.bytes.items
    ∙ ap (is_row_drained c.args.before c.args.kind) c.self.view_is

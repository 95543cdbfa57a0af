-- One is in flight where the ring has a header.
use Rattle.std.proofs.Common.{◌∙◌, not, sym, ap}
use Rattle.iom_inflight.specs.Flights.{FlightRow, has_access}
use Rattle.iom_inflight.proofs.Accesses.{has_access_of}
use Rattle.iom_inflight.proofs.row.Row.has_access.Goals as goal

pub returns : goal.returns
returns c = ap not c.is_empty.ensures ∙ sym (has_access_of c.self.inside.waiting.items c.self.inside.bytes.items) ∙ ap (λ (r : FlightRow). has_access r.waiting) c.self.view_is

use Rattle.std.proofs.Common.{List, nat_eq, ap, ◌∙◌}
use Rattle.std.specs.Option.{option_and_then}
use Rattle.indexmap.specs.IndexMap.{get}
use Rattle.iom_ledger.specs.Counts.{row_of_frame}
use Rattle.iom_ledger.specs.declared.device_list.DevicePages.{DevicePages}
use Rattle.iom_ledger.specs.Rows.{pages_in}
use Rattle.iom_ledger.proofs.CountLemmas.{AreCounted-none, row_of-replicate}
use Rattle.iom_ledger.proofs.ledger.Ledger.new.Goals as goal

pub invariant_of-result-clause-counted : goal.invariant_of-result-clause-counted
invariant_of-result-clause-counted c =
    AreCounted-none c.new.result c.in_ok-new.field-0.rows.items
    (λ d a. ap (λ (devices : List DevicePages). option_and_then (λ pages. get nat_eq pages a) (pages_in devices d)) c.new.ensures)
    (λ f.
    let free = ap (λ rows. row_of_frame rows f) c.in_ok-new.ensures ∙ row_of-replicate c.args.frames f in
    (ap (λ row. row.grants) free, ap (λ row. row.pending) free))

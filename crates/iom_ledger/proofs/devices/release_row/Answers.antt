use Rattle.std.proofs.Common.{Some, sym, ap, ◌∙◌}
use Rattle.indexmap.proofs.CallerLemmas.{keys-with_value_at}
use Rattle.iom_ledger.specs.RowChanges.{released_row, held_frame}
use Rattle.iom_ledger.proofs.RowLemmas.{row_lent, released_where_it_stands}
use Rattle.iom_ledger.proofs.devices.release_row.Goals as goal

pub returns-clause-rows : goal.returns-clause-rows
returns-clause-rows c =
    let (row, stands, had) = c.in_ok-place.ensures.there in
    let lent = row_lent c.args.pages.now c.in_ok-place.place c.args.page row c.in_ok-get_index_mut.field-0.now stands c.in_ok-get_index_mut.ensures.value in
    released_where_it_stands c.args.pages.now c.in_ok-place.place c.args.page c.args.ticket row c.release.new.self c.place_of.ensures.unique stands had
    (c.release.ensures.row ∙ ap (λ r. released_row r c.args.ticket) lent)

pub returns-clause-frame : goal.returns-clause-frame
returns-clause-frame c =
    let (row, stands, had) = c.in_ok-place.ensures.there in
    let lent = row_lent c.args.pages.now c.in_ok-place.place c.args.page row c.in_ok-get_index_mut.field-0.now stands c.in_ok-get_index_mut.ensures.value in
    c.release.ensures.frame ∙ ap (λ r. held_frame (Some r)) lent ∙ sym (ap held_frame had)

pub returns-clause-order : goal.returns-clause-order
returns-clause-order c = keys-with_value_at c.args.pages.now c.in_ok-place.place c.release.new.self

use Rattle.std.proofs.Common.{◌≡◌, ◌∙◌, Some, length, slice_get, sym, ap, subst, MatchOption}
use Rattle.iom_ledger.specs.declared.page_row.PageRow.{PageRow}
use Rattle.iom_ledger.specs.RowsReaching.{NoRowNames, NoRowNamesWithin, IsNextRow}
use Rattle.iom_ledger.proofs.ReachLemmas.{row_of_entry, entries_are, no_row_names}
use Rattle.iom_ledger.proofs.reaching.reach_in.Goals as goal

pub returns-in_err-found : goal.returns-in_err-found
returns-in_err-found c =
    let own = sym c.in_ok-pages_of.ensures in
    let devices = c.args.devices.now in
    let none = no_row_names devices c.args.device c.args.frame c.args.from (length c.in_ok-pages_of.field-0.now.entries) c.in_ok-pages_of.field-0.now own
    c.in_err-found.ensures.unique c.in_err-found.ensures.none in
    subst (λ result. MatchOption result (NoRowNames devices c.args.device c.args.frame c.args.from) (IsNextRow devices c.args.device c.args.frame c.args.from))
    (sym c.from_residual-in_err-found.ensures)
    (subst (λ es. NoRowNamesWithin devices c.args.device c.args.frame c.args.from (length es)) (sym (entries_are devices c.args.device c.in_ok-pages_of.field-0.now own)) none)

pub returns : goal.returns
returns c =
    let own = sym c.in_ok-pages_of.ensures in
    let (from_there, at, frame_is) = c.in_ok-found.ensures.found in
    let row_is = c.in_ok-found.found.row in
    let as_told : row_is ≡ record { frame = c.args.frame; rights = row_is.rights; ticket = row_is.ticket } = ap (λ f. record { frame = f; rights = row_is.rights; ticket = row_is.ticket }) frame_is in
    let here = row_of_entry c.args.devices.now c.args.device c.in_ok-found.found.index c.in_ok-found.found.page row_is c.in_ok-pages_of.field-0.now own c.in_ok-found.ensures.unique at in
    record {
      from_there = from_there;
      listed = ap (λ es. slice_get es c.in_ok-found.found.index) (entries_are c.args.devices.now c.args.device c.in_ok-pages_of.field-0.now own) ∙ at ∙ ap (λ (r : PageRow). Some (c.in_ok-found.found.page, r)) as_told;
      row = here ∙ ap Some as_told;
      skipped = no_row_names c.args.devices.now c.args.device c.args.frame c.args.from c.in_ok-found.found.index c.in_ok-pages_of.field-0.now own c.in_ok-found.ensures.unique c.in_ok-found.ensures.skipped;
    }

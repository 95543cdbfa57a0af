use Rattle.std.proofs.Common.{nat_eq, is_none, sym, ap, ◌∙◌}
use Rattle.std.specs.Option.{option_and_then}
use Rattle.indexmap.specs.IndexMap.{get}
use Rattle.iom_ledger.proofs.RowLemmas.{found_row, list_any-lookup}
use Rattle.iom_ledger.proofs.lookups.holds_anything_in.Goals as goal

pub returns-in-Some : goal.returns-in-Some
returns-in-Some c =
    let device = c.in-Some.ensures in (
      (λ some.
          let (page, row, at, passes) = found_row (λ row. is_none row.ticket) c.in-Some.pages.now.entries c.some_is_held.ensures.unique (sym c.some_is_held.ensures.any ∙ some) in
          (page, row, ap (option_and_then (λ pages. get nat_eq pages page)) (sym device) ∙ at, passes)),
      (λ (page, row, at, passes).
          c.some_is_held.ensures.any ∙ list_any-lookup (λ row. is_none row.ticket) page c.in-Some.pages.now.entries row (ap (option_and_then (λ pages. get nat_eq pages page)) device ∙ at) passes),
    )

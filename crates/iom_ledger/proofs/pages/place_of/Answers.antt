use Rattle.std.proofs.Common.{◌≡◌, Some, nat_eq, sym, ap, subst, ◌∙◌}
use Rattle.indexmap.specs.IndexMap.{get}
use Rattle.iom_ledger.proofs.RowLemmas.{key_is}
use Rattle.iom_ledger.proofs.pages.place_of.Goals as goal

pub returns-then-key-page-clause-there : goal.returns-then-key-page-clause-there
returns-then-key-page-clause-there c =
    let own = c.if-key-page.true in (
      c.in_ok-key._row.now,
      sym c.in_ok-key.ensures.entry ∙ ap (λ k. Some (k, c.in_ok-key._row.now)) own,
      subst (λ k. get nat_eq c.args.pages.now k ≡ Some c.in_ok-key._row.now) own c.in_ok-key.ensures.value,
    )

pub returns-clause-there : goal.returns-clause-there
returns-clause-there c =
    let own = key_is c.args.pages.now.entries c.args.page c.in_ok-place._key.now (sym c.in_ok-place.ensures.key) in
    (c.in_ok-place._row.now, c.in_ok-place.ensures.entry ∙ ap (λ k. Some (k, c.in_ok-place._row.now)) (sym own), sym c.in_ok-place.ensures.value)

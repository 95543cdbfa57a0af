use Rattle.std.proofs.Common.{◌≡◌, ◌≢◌, ◌∙◌, ◌<◌, ◌≤◌, ℕ, None, Some, Option, length, slice_get, sym, ap, subst, MatchOption}
use Rattle.std.proofs.lemmas.List.{length-map}
use Rattle.std.proofs.lemmas.Option.{slice_get-map}
use Rattle.std.specs.Option.{option_map}
use Rattle.iom_base.specs.declared.rights.Rights.{Rights}
use Rattle.iom_ledger.specs.declared.ledger.Ledger.{Ledger}
use Rattle.iom_ledger.specs.declared.page_row.PageRow.{PageRow}
use Rattle.iom_ledger.specs.declared.reaching.Reach.{Reach}
use Rattle.iom_ledger.specs.Reaching.{ReachesUnder, IsOffFrame, NoneReachesWithin, IsNextReach}
use Rattle.iom_ledger.specs.Rows.{row_at, entries_of, held_of, released_of}
use Rattle.iom_ledger.specs.RowsReaching.{NoRowNamesWithin, NoRowNames, IsNextRow}
use Rattle.iom_ledger.specs.Shown.{held_in, released_in, pages_listed}
use Rattle.iom_ledger.proofs.ReachLemmas.{entry_of_page, not_held, not_lingering}
use Rattle.iom_ledger.proofs.ledger.Ledger.reach_from.Goals as goal

off : (ledger : Ledger) (device frame from to : ℕ) → NoRowNamesWithin ledger.devices device frame from to → NoneReachesWithin ledger device frame from to
unfolding held_in released_in pages_listed
off ledger device frame from to none k page le lt listed rights =
    let (row, at) = entry_of_page (entries_of ledger.devices device) k page listed in
    let (is, other) = none k page row le lt at in (
      subst (λ r. held_of r ≢ Some (frame, rights)) (sym is) (not_held row frame rights other),
      subst (λ r. option_map (λ (released : ℕ × (ℕ × Rights)). released.1) (released_of r) ≢ Some (frame, rights)) (sym is) (not_lingering row frame rights other),
    )

under : (ledger : Ledger) (device frame page : ℕ) (rights : Rights) (ticket : Option ℕ) → row_at ledger.devices device page ≡ Some (record { frame = frame; rights = rights; ticket = ticket })
    → ReachesUnder ledger device page (frame, rights) ticket
unfolding held_in released_in
under ledger device frame page rights None is = ap held_of is
under ledger device frame page rights (Some ticket) is = ap released_of is

listed : (ledger : Ledger) (device k page : ℕ) (row : PageRow) → slice_get (entries_of ledger.devices device) k ≡ Some (page, row) → slice_get (pages_listed ledger device) k ≡ Some page
unfolding pages_listed
listed ledger device k page row at = slice_get-map (λ (e : ℕ × PageRow). e.0) (entries_of ledger.devices device) k ∙ ap (option_map (λ (e : ℕ × PageRow). e.0)) at

all_listed : (ledger : Ledger) (device : ℕ) → length (pages_listed ledger device) ≡ length (entries_of ledger.devices device)
unfolding pages_listed
all_listed ledger device = length-map (entries_of ledger.devices device) (λ (e : ℕ × PageRow). e.0)

lifted : (ledger : Ledger) (device frame from : ℕ) (found : Option Reach) → MatchOption found (NoRowNames ledger.devices device frame from) (IsNextRow ledger.devices device frame from)
    → MatchOption found (NoneReachesWithin ledger device frame from (length (pages_listed ledger device))) (IsNextReach ledger device frame from)
lifted ledger device frame from None none =
    subst (NoneReachesWithin ledger device frame from) (sym (all_listed ledger device)) (off ledger device frame from (length (entries_of ledger.devices device)) none)
lifted ledger device frame from (Some reach) next = record {
  from_there = next.from_there;
  listed = listed ledger device reach.index reach.page _ next.listed;
  reaches = under ledger device frame reach.page reach.rights reach.ticket next.row;
  skipped = off ledger device frame from reach.index next.skipped;
}

pub returns : goal.returns
returns c = lifted c.args.self.now c.args.device c.args.frame c.args.from c.reach_in.result c.reach_in.ensures

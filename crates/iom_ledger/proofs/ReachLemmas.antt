-- Rows that name a frame, and what a ledger shows at their pages.
use Rattle.std.proofs.Common.{◌≡◌, ◌≢◌, ◌<◌, ◌≤◌, ℕ, zero, suc, List, [], ◌∷◌, Option, None, Some, length, map, slice_get, nat_eq, refl, sym, ap, ◌∙◌}
use Rattle.std.specs.Cmp.{nat_eq_equiv}
use Rattle.std.specs.Option.{option_and_then, option_map, option_map_or}
use Rattle.std.proofs.lemmas.Map.Entries.{lookup_from_place}
use Rattle.indexmap.specs.IndexMap.{get, IsUnique}
use Rattle.iom_base.specs.declared.rights.Rights.{Rights}
use Rattle.iom_ledger.specs.declared.page_row.PageRow.{PageRow}
use Rattle.iom_ledger.specs.History.{Pair}
use Rattle.iom_ledger.specs.Rows.{Devices, Pages, row_at, pages_in, entries_of, held_of, released_of, unless_released, if_released}
use Rattle.iom_ledger.specs.RowsReaching.{NoneNamesWithin, NoRowNamesWithin}

-- the row of a device's entry is that of its page
pub row_of_entry : (devices : Devices) (device k page : ℕ) (row : PageRow) (pages : Pages) → pages_in devices.list.items device ≡ Some pages → IsUnique nat_eq pages
    → slice_get pages.entries k ≡ Some (page, row) → row_at devices device page ≡ Some row
row_of_entry devices device k page row pages own unique at =
    ap (option_and_then (λ ps. get nat_eq ps page)) own ∙ lookup_from_place nat_eq_equiv pages.entries k page row unique at

-- a device's entries
pub entries_are : (devices : Devices) (device : ℕ) (pages : Pages) → pages_in devices.list.items device ≡ Some pages → entries_of devices device ≡ pages.entries
entries_are devices device pages own = ap (λ found. option_map_or (λ ps. ps.entries) found []) own

pub none_are : (devices : Devices) (device : ℕ) → pages_in devices.list.items device ≡ None → entries_of devices device ≡ []
none_are devices device own = ap (λ found. option_map_or (λ ps. ps.entries) found []) own

-- where none of them names the frame, no row of the device does
pub no_row_names : (devices : Devices) (device frame from to : ℕ) (pages : Pages) → pages_in devices.list.items device ≡ Some pages → IsUnique nat_eq pages
    → NoneNamesWithin pages.entries frame from to → NoRowNamesWithin devices device frame from to
no_row_names devices device frame from to pages own unique none k page row le lt at =
    let here = sym (ap (λ es. slice_get es k) (entries_are devices device pages own)) ∙ at in
    (row_of_entry devices device k page row pages own unique here, none k (page, row) le lt here)

-- the entry of a page that is listed
pub entry_of_page : (es : List (ℕ × PageRow)) (k page : ℕ) → slice_get (map (λ entry. entry.0) es) k ≡ Some page → (row : PageRow) × (slice_get es k ≡ Some (page, row))
entry_of_page [] k page at = cc
entry_of_page (e ∷ es) zero page at = let own : e.0 ≡ page = cc in (e.1, ap (λ p. Some (p, e.1)) own)
entry_of_page (e ∷ es) (suc k) page at = entry_of_page es k page at

-- a row that names another frame holds no pair with this one
pub not_held : (row : PageRow) (frame : ℕ) (rights : Rights) → row.frame ≢ frame → held_of (Some row) ≢ Some (frame, rights)
not_held row frame rights other = by row.ticket
  where
    by : (ticket : Option ℕ) → unless_released ticket (row.frame, row.rights) ≢ Some (frame, rights)
    by None = λ held. let pair : (row.frame, row.rights) ≡ (frame, rights) = cc in other (ap (λ (p : Pair). p.0) pair)
    by (Some ticket) = λ held. cc

-- nor does one linger there
pub not_lingering : (row : PageRow) (frame : ℕ) (rights : Rights) → row.frame ≢ frame → option_map (λ (released : ℕ × Pair). released.1) (released_of (Some row)) ≢ Some (frame, rights)
not_lingering row frame rights other = by row.ticket
  where
    by : (ticket : Option ℕ) → option_map (λ (released : ℕ × Pair). released.1) (if_released ticket (row.frame, row.rights)) ≢ Some (frame, rights)
    by None = λ lingers. cc
    by (Some ticket) = λ lingers. let pair : (row.frame, row.rights) ≡ (frame, rights) = cc in other (ap (λ (p : Pair). p.0) pair)

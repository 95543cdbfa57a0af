-- Rows that wait for a ticket, and rows that a search over the entries finds.
use Rattle.std.proofs.Common.{◌≡◌, ◌==◌, ℕ, suc, zero, length, slice_get, Bool, true, false, cond, List, [], ◌∷◌, Option, None, Some, nat_eq, refl, sym, ap, ◌∙◌, subst, arith, if◌then◌else◌}
use Rattle.std.specs.Cmp.{nat_eq_equiv}
use Rattle.std.specs.List.{list_any, IsDistinct}
use Rattle.std.specs.Map.{lookup, lookup_key, keys_of}
use Rattle.std.specs.Option.{option_and_then, option_map, option_map_or}
use Rattle.std.proofs.lemmas.Bool.{eqb-true, or_left, or_right}
use Rattle.std.proofs.lemmas.List.Folds.{Any-from_list_any}
use Rattle.std.proofs.lemmas.Map.Entries.{lookup_from_place}
use Rattle.std.proofs.lemmas.Option.{slice_get_read, slice_get-map}
use Rattle.indexmap.proofs.CallerLemmas.{updates-with_value_at}
use Rattle.indexmap.specs.IndexMap.{get, values, with_value_at, IsUnique}
use Rattle.iom_ledger.specs.declared.page_row.PageRow.{PageRow}
use Rattle.iom_ledger.specs.Rows.{Devices, Pages, row_at, pages_in, entries_of, waits_for, NoneWaitsFrom}
use Rattle.iom_ledger.specs.RowChanges.{released_row, released_row_if_any, unless_waiting, DropsSome}

-- where no entry waits for the ticket, no row does
unless_waiting-entry : (es : List (ℕ × PageRow)) (ticket page : ℕ) → ((k : ℕ) (e : ℕ × PageRow) → slice_get es k ≡ Some e → waits_for e.1.ticket ticket ≡ false)
    → unless_waiting (lookup (nat_eq page) es) ticket ≡ lookup (nat_eq page) es
unless_waiting-entry [] ticket page none = refl
unless_waiting-entry (e ∷ es) ticket page none = by (nat_eq page e.0) (unless_waiting-entry es ticket page (λ k d at. none (suc k) d at))
  where
    by : (b : Bool) → unless_waiting (lookup (nat_eq page) es) ticket ≡ lookup (nat_eq page) es
        → unless_waiting (cond b (Some e.1) (lookup (nat_eq page) es)) ticket ≡ cond b (Some e.1) (lookup (nat_eq page) es)
    by true rest = rw (none zero e refl) refl
    by false rest = rest

unless_waiting-row : (devices : Devices) (device page ticket : ℕ) → NoneWaitsFrom (entries_of devices device) 0 ticket
    → unless_waiting (row_at devices device page) ticket ≡ row_at devices device page
unless_waiting-row devices device page ticket none = by (pages_in devices.list.items device) none
  where
    by : (found : Option Pages) → NoneWaitsFrom (option_map_or (λ pages. pages.entries) found []) 0 ticket
        → unless_waiting (option_and_then (λ pages. get nat_eq pages page) found) ticket ≡ option_and_then (λ pages. get nat_eq pages page) found
    by None none = refl
    by (Some pages) none = unless_waiting-entry pages.entries ticket page (λ k e at. none k e (omega arith) at)

-- once no row of the device waits for the ticket, each that did is dropped
pub all_dropped_of : (old now : Devices) (device ticket : ℕ) → DropsSome old now device ticket → NoneWaitsFrom (entries_of now device) 0 ticket
    → (d a : ℕ) → row_at now d a ≡ (if device == d then unless_waiting (row_at old d a) ticket else row_at old d a)
all_dropped_of old now device ticket some none d a = by (device == d) refl (some d a)
  where
    by : (b : Bool) → (device == d) ≡ b
        → (if b then unless_waiting (row_at now d a) ticket else row_at now d a) ≡ (if b then unless_waiting (row_at old d a) ticket else row_at old d a)
        → row_at now d a ≡ (if b then unless_waiting (row_at old d a) ticket else row_at old d a)
    by true e same =
        sym (subst (λ x. unless_waiting (row_at now x a) ticket ≡ row_at now x a) (eqb-true device d e) (unless_waiting-row now device a ticket none)) ∙ same
    by false e same = same

-- a row that the pages have is among the entries
pub list_any-lookup : (test : PageRow → Bool) (page : ℕ) (es : List (ℕ × PageRow)) (row : PageRow) → lookup (nat_eq page) es ≡ Some row → test row ≡ true → list_any (λ e. test e.1) es ≡ true
list_any-lookup test page [] row at passes = cc
list_any-lookup test page (e ∷ es) row at passes = by (nat_eq page e.0) at (list_any-lookup test page es row)
  where
    by : (b : Bool) → cond b (Some e.1) (lookup (nat_eq page) es) ≡ Some row
        → (lookup (nat_eq page) es ≡ Some row → test row ≡ true → list_any (λ d. test d.1) es ≡ true) → list_any (λ d. test d.1) (e ∷ es) ≡ true
    by true here rest = let same : e.1 ≡ row = cc in or_left _ _ (ap test same ∙ passes)
    by false there rest = or_right _ _ (rest there passes)

-- a row among the entries is at some page
pub found_row : (test : PageRow → Bool) (es : List (ℕ × PageRow)) → IsDistinct nat_eq (keys_of es) → list_any (λ e. test e.1) es ≡ true
    → (page : ℕ) × (row : PageRow) × (lookup (nat_eq page) es ≡ Some row) × (test row ≡ true)
found_row test es pages any =
    let (k, e, below, at, passes) = Any-from_list_any (λ e. test e.1) es any in
    (e.0, e.1, lookup_from_place nat_eq_equiv es k e.0 e.1 pages (slice_get_read es (length es) k e refl below (sym at)), passes)

-- the page of an entry that is found for a page
pub key_is : (es : List (ℕ × PageRow)) (page key : ℕ) → lookup_key (nat_eq page) es ≡ Some key → page ≡ key
key_is [] page key found = cc
key_is (e ∷ es) page key found = by (nat_eq page e.0) refl found (key_is es page key)
  where
    by : (b : Bool) → nat_eq page e.0 ≡ b → cond b (Some e.0) (lookup_key (nat_eq page) es) ≡ Some key
        → (lookup_key (nat_eq page) es ≡ Some key → page ≡ key) → page ≡ key
    by true same here rest = let own : e.0 ≡ key = cc in eqb-true page e.0 same ∙ own
    by false other there rest = rest there

-- the row that is lent at an index is the row of the entry there
pub row_lent : (pages : Pages) (place page : ℕ) (row lent : PageRow) → slice_get pages.entries place ≡ Some (page, row) → Some lent ≡ slice_get (values pages) place → lent ≡ row
row_lent pages place page row lent at gives =
    let same : Some lent ≡ Some row = gives ∙ slice_get-map (λ e. e.1) pages.entries place ∙ ap (option_map (λ e. e.1)) at in
    cc

-- a row that is released where it stands is released, and each other stays
pub released_where_it_stands : (pages : Pages) (place page ticket : ℕ) (row now : PageRow) → IsUnique nat_eq pages → slice_get pages.entries place ≡ Some (page, row)
    → get nat_eq pages page ≡ Some row → now ≡ released_row row ticket
    → (a : ℕ) → get nat_eq (with_value_at pages place now) a ≡ (if page == a then released_row_if_any (get nat_eq pages a) ticket else get nat_eq pages a)
released_where_it_stands pages place page ticket row now unique at had is a =
    let updates = updates-with_value_at pages place now nat_eq_equiv unique page row at in
    by (page == a) refl (updates.0 a)
  where
    by : (b : Bool) → (page == a) ≡ b → get nat_eq (with_value_at pages place now) a ≡ cond b (Some now) (get nat_eq pages a)
        → get nat_eq (with_value_at pages place now) a ≡ cond b (released_row_if_any (get nat_eq pages a) ticket) (get nat_eq pages a)
    by true own says = says ∙ ap Some is ∙ sym (ap (λ r. released_row_if_any r ticket) (subst (λ k. get nat_eq pages k ≡ Some row) (eqb-true page a own) had))
    by false other says = says

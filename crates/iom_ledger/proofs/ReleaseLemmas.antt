-- The rows of a device are released one after another, in the order of its pages.
use Rattle.std.proofs.Common.{◌≡◌, ◌+◌, ◌<◌, ℕ, Bool, true, false, ◌==◌, ◌&&◌, ◌||◌, List, [], ◌∷◌, length, take, get_or, slice_get, map, Option, None, Some, IsSome, Contains, subst, nat_eq, refl, sym, ap, ◌∙◌, if◌then◌else◌, arith}
use Rattle.std.specs.List.{list_any}
use Rattle.std.specs.Map.{lookup}
use Rattle.std.specs.Option.{option_and_then, option_map_or}
use Rattle.std.proofs.lemmas.Bool.{eqb-true, or_parts}
use Rattle.std.proofs.lemmas.Map.Views.{Contains-from_any}
use Rattle.std.proofs.lemmas.List.Folds.{list_any_more}
use Rattle.std.proofs.lemmas.Option.{get_or_from_slice_get, slice_get_within, slice_get-get_or}
use Rattle.indexmap.specs.IndexMap.{get}
use Rattle.iom_base.specs.declared.rights.Rights.{Rights}
use Rattle.iom_ledger.specs.declared.page_row.PageRow.{PageRow}
use Rattle.iom_ledger.specs.Rows.{Devices, Pages, row_at, held_of, pages_in, pages_of}
use Rattle.iom_ledger.specs.RowChanges.{released_row_if_any, ticket_after, ReleasesRow, ReleasesRows, ReleasesRowsAt}

-- a row that was released is released no further
released_row-twice : (row : Option PageRow) (ticket : ℕ)
    → released_row_if_any (released_row_if_any row ticket) ticket ≡ released_row_if_any row ticket
released_row-twice None ticket = refl
released_row-twice (Some row) ticket = by row.ticket row.frame row.rights
  where
    by : (t : Option ℕ) (frame : ℕ) (rights : Rights)
        → ◌≡◌ {A = Option PageRow} (Some (record { frame = frame; rights = rights; ticket = ticket_after (ticket_after t ticket) ticket })) (Some (record { frame = frame; rights = rights; ticket = ticket_after t ticket }))
    by None frame rights = refl
    by (Some own) frame rights = refl

-- one row more is released
released_more : (here among named : Bool) (old now new : Option PageRow) (ticket : ℕ)
    → now ≡ (if here && among then released_row_if_any old ticket else old)
    → new ≡ (if here && named then released_row_if_any now ticket else now)
    → new ≡ (if here && (among || named) then released_row_if_any old ticket else old)
released_more false among named old now new ticket was is = is ∙ was
released_more true true true old now new ticket was is = is ∙ ap (λ row. released_row_if_any row ticket) was ∙ released_row-twice old ticket
released_more true true false old now new ticket was is = is ∙ was
released_more true false true old now new ticket was is = is ∙ ap (λ row. released_row_if_any row ticket) was
released_more true false false old now new ticket was is = is ∙ was

pub ReleasesRowsAt-more : (old now new : Devices) (device ticket n page : ℕ) (pages : List ℕ)
    → slice_get pages n ≡ Some page
    → ReleasesRowsAt old now device (take n pages) ticket → ReleasesRow now new device page ticket
    → ReleasesRowsAt old new device (take (n + 1) pages) ticket
ReleasesRowsAt-more old now new device ticket n page pages at some one d a =
    released_more (device == d) (list_any (nat_eq a) (take n pages)) (page == a) (row_at old d a) (row_at now d a) (row_at new d a) ticket (some d a) (one d a)
    ∙ ap (λ b. if (device == d) && b then released_row_if_any (row_at old d a) ticket else row_at old d a)
    (ap (λ b. list_any (nat_eq a) (take n pages) || b) (turned page a ∙ ap (nat_eq a) (sym (get_or_from_slice_get pages n page page at)))
    ∙ sym (list_any_more (nat_eq a) pages n page (slice_get_within pages n page at)))
  where
    turned : (x y : ℕ) → (x == y) ≡ nat_eq y x
    turned x y = grind arith

-- there is a page at each index
pub page_within : (pages : List ℕ) (n : ℕ) → n < length pages → None ≡ slice_get pages n → ⊥
page_within pages n below none = let some : slice_get pages n ≡ Some (get_or pages n 0) = slice_get-get_or pages n 0 below in cc

-- a page that isn't among those of the device has no row
lookup-absent : (es : List (ℕ × PageRow)) (page : ℕ)
    → list_any (nat_eq page) (map (λ entry. entry.0) es) ≡ false → lookup (nat_eq page) es ≡ None
lookup-absent [] page absent = refl
lookup-absent (e ∷ es) page absent =
    let parts = or_parts (nat_eq page e.0) (list_any (nat_eq page) (map (λ entry. entry.0) es)) absent in
    rw parts.0 (lookup-absent es page parts.1)

row_at-absent : (devices : Devices) (device page : ℕ)
    → list_any (nat_eq page) (pages_of devices device) ≡ false → row_at devices device page ≡ None
row_at-absent devices device page absent = by (pages_in devices.list.items device) absent
  where
    by : (found : Option Pages)
        → list_any (nat_eq page) (map (λ entry. entry.0) (option_map_or (λ pages. pages.entries) found [])) ≡ false
        → option_and_then (λ pages. get nat_eq pages page) found ≡ None
    by None absent = refl
    by (Some pages) absent = lookup-absent pages.entries page absent

nat_eq_equal : (x y : ℕ) → nat_eq x y ≡ true → x ≡ y
nat_eq_equal x y e = grind arith

-- so a page at which something is held is among them
pub held_listed : (devices : Devices) (device page : ℕ) → IsSome (held_of (row_at devices device page)) → Contains (pages_of devices device) page
held_listed devices device page held = by (list_any (nat_eq page) (pages_of devices device)) refl
  where
    by : (among : Bool) → list_any (nat_eq page) (pages_of devices device) ≡ among → Contains (pages_of devices device) page
    by true is = Contains-from_any nat_eq_equal page (pages_of devices device) is
    by false is = let none = subst (λ row. IsSome (held_of row)) (row_at-absent devices device page is) held in cc

-- once those at all pages of the device are released, all of the device are
pub ReleasesRows-all : (old new : Devices) (device ticket : ℕ)
    → ReleasesRowsAt old new device (pages_of old device) ticket → ReleasesRows old new device ticket
ReleasesRows-all old new device ticket all d a = all d a ∙ by (device == d) refl (list_any (nat_eq a) (pages_of old device)) refl
  where
    by : (b : Bool) → (device == d) ≡ b → (among : Bool) → list_any (nat_eq a) (pages_of old device) ≡ among
        → (if b && among then released_row_if_any (row_at old d a) ticket else row_at old d a) ≡ (if b then released_row_if_any (row_at old d a) ticket else row_at old d a)
    by false e among f = refl
    by true e true f = refl
    by true e false f =
        let none : row_at old d a ≡ None = ap (λ x. row_at old x a) (sym (eqb-true device d e)) ∙ row_at-absent old device a f in
        none ∙ ap (λ row. released_row_if_any row ticket) (sym none)

-- What is left of the rows once some of the releases under a ticket are confirmed.
use Rattle.std.proofs.Common.{◌≡◌, ◌+◌, ◌<◌, ℕ, Bool, true, false, not, ◌==◌, ◌||◌, ◌++◌, List, [], ◌∷◌, length, take, drop, get_or, filter, Option, None, Some, if◌then◌else◌, refl, sym, ap, ◌∙◌, subst, append_assoc, drop-cons, add-one}
use Rattle.std.proofs.lemmas.Bool.{eqb-true, and_parts, or_left, or_right, false≢true}
use Rattle.std.proofs.lemmas.List.{take_more}
use Rattle.std.proofs.lemmas.List.Elements.{filter-append}
use Rattle.std.proofs.lemmas.List.Folds.{list_any_more, list_any-append}
use Rattle.std.proofs.lemmas.Map.Views.{any-filter_same}
use Rattle.iom_base.specs.declared.rights.Rights.{Rights}
use Rattle.iom_ledger.specs.declared.page_row.PageRow.{PageRow}
use Rattle.iom_ledger.specs.declared.pending.Pending.{Pending}
use Rattle.iom_ledger.specs.Rows.{Devices, row_at, waits_for, names, ticket_of, is_named, AllNamed}
use Rattle.iom_ledger.specs.RowChanges.{unless_waiting, released_row_if_any, ticket_after, DropsRows}
use Rattle.iom_ledger.specs.Ring.{is_other, any_names, dropped}

-- a row that was dropped, or wasn't, is dropped no further
unless_waiting-twice : (row : Option PageRow) (ticket : ℕ) → unless_waiting (unless_waiting row ticket) ticket ≡ unless_waiting row ticket
unless_waiting-twice None ticket = refl
unless_waiting-twice (Some row) ticket = by (waits_for row.ticket ticket) refl
  where
    by : (b : Bool) → waits_for row.ticket ticket ≡ b → unless_waiting (if b then None else Some row) ticket ≡ (if b then None else Some row)
    by true e = refl
    by false e = rw e refl

-- one more release is confirmed
pub dropped_more : (before named : Bool) (old now new : Option PageRow) (ticket : ℕ)
    → now ≡ dropped before old ticket → new ≡ (if named then unless_waiting now ticket else now) → new ≡ dropped (before || named) old ticket
dropped_more true true old now new ticket was is = is ∙ ap (λ row. unless_waiting row ticket) was ∙ unless_waiting-twice old ticket
dropped_more true false old now new ticket was is = is ∙ was
dropped_more false true old now new ticket was is = is ∙ ap (λ row. unless_waiting row ticket) was
dropped_more false false old now new ticket was is = is ∙ was

pub rows_more : (s : List Pending) (n : ℕ) (release : Pending) (d a ticket : ℕ) (old now new : Option PageRow) → n < length s
    → now ≡ dropped (any_names (take n s) d a ticket) old ticket
    → new ≡ (if names (get_or s n release) d a ticket then unless_waiting now ticket else now)
    → new ≡ dropped (any_names (take (n + 1) s) d a ticket) old ticket
rows_more s n release d a ticket old now new lt was is =
    dropped_more (any_names (take n s) d a ticket) (names (get_or s n release) d a ticket) old now new ticket was is
    ∙ ap (λ named. dropped named old ticket) (sym (list_any_more (λ p. names p d a ticket) s n release lt))

-- the first of what is left is the next
pub split_at : (n : ℕ) (s more : List Pending) (release : Pending) → n < length s
    → drop n s ++ more ≡ get_or s n release ∷ (drop (n + 1) s ++ more)
split_at n s more release lt =
    ap (λ rest. rest ++ more) (drop-cons s n release lt ∙ ap (λ k. get_or s n release ∷ drop k s) (sym (add-one n)))

pub items_more : (ticket n : ℕ) (s : List Pending) (release : Pending) → n < length s
    → (drop (n + 1) s ++ filter (is_other ticket) (take n s)) ++ filter (is_other ticket) (get_or s n release ∷ [])
    ≡ drop (n + 1) s ++ filter (is_other ticket) (take (n + 1) s)
items_more ticket n s release lt =
    rw (take_more s n release lt, filter-append (is_other ticket) (take n s) (get_or s n release ∷ [])) (append_assoc (drop (n + 1) s) (filter (is_other ticket) (take n s)) (filter (is_other ticket) (get_or s n release ∷ [])))

-- once all releases were looked at, no row waits for the ticket, since each that did was named
pub all_dropped : (s : List Pending) (d a ticket : ℕ) (row : Option PageRow) → is_named s d a (ticket_of row) ≡ true
    → dropped (any_names s d a ticket) row ticket ≡ unless_waiting row ticket
all_dropped s d a ticket None named = by (any_names s d a ticket)
  where
    by : (b : Bool) → dropped b None ticket ≡ None
    by true = refl
    by false = refl
all_dropped s d a ticket (Some row) named = own row.ticket row.frame row.rights named
  where
    waits : (t frame : ℕ) (rights : Rights) (b c : Bool) → (ticket == t) ≡ b → any_names s d a ticket ≡ c → any_names s d a t ≡ true
        → dropped c (Some (record { frame = frame; rights = rights; ticket = Some t })) ticket
        ≡ unless_waiting (Some (record { frame = frame; rights = rights; ticket = Some t })) ticket
    waits t frame rights b true e any named = refl
    waits t frame rights true false e any named =
        absurd (false≢true (sym any ∙ subst (λ x. any_names s d a x ≡ true) (sym (eqb-true ticket t e)) named))
    waits t frame rights false false e any named = rw e refl

    held : (b : Bool) (frame : ℕ) (rights : Rights)
        → ◌≡◌ {A = Option PageRow} (if b then Some (record { frame = frame; rights = rights; ticket = None }) else Some (record { frame = frame; rights = rights; ticket = None })) (Some (record { frame = frame; rights = rights; ticket = None }))
    held true frame rights = refl
    held false frame rights = refl

    own : (t : Option ℕ) (frame : ℕ) (rights : Rights) → is_named s d a t ≡ true
        → dropped (any_names s d a ticket) (Some (record { frame = frame; rights = rights; ticket = t })) ticket
        ≡ unless_waiting (Some (record { frame = frame; rights = rights; ticket = t })) ticket
    own None frame rights named = held (any_names s d a ticket) frame rights
    own (Some t) frame rights named = waits t frame rights (ticket == t) (any_names s d a ticket) refl refl named

-- each row that still waits is named by a release that stays
stays_named : (s : List Pending) (d a ticket : ℕ) (row : Option PageRow) → is_named s d a (ticket_of row) ≡ true
    → is_named (filter (is_other ticket) s) d a (ticket_of (unless_waiting row ticket)) ≡ true
stays_named s d a ticket None named = refl
stays_named s d a ticket (Some row) named = own row.ticket row.frame row.rights named
  where
    waits : (t frame : ℕ) (rights : Rights) (b : Bool) → (ticket == t) ≡ b → any_names s d a t ≡ true
        → is_named (filter (is_other ticket) s) d a (ticket_of (if b then None else Some (record { frame = frame; rights = rights; ticket = Some t }))) ≡ true
    waits t frame rights true e named = refl
    waits t frame rights false e named =
        any-filter_same (λ p. names p d a t) (is_other ticket) true
        (λ p this. ap not (ap (λ x. ticket == x) (eqb-true p.ticket t (and_parts (p.ticket == t) _ this).0) ∙ e)) s
        ∙ named

    own : (t : Option ℕ) (frame : ℕ) (rights : Rights) → is_named s d a t ≡ true
        → is_named (filter (is_other ticket) s) d a (ticket_of (unless_waiting (Some (record { frame = frame; rights = rights; ticket = t })) ticket)) ≡ true
    own None frame rights named = refl
    own (Some t) frame rights named = waits t frame rights (ticket == t) refl named

pub AllNamed-confirmed : (old new : Devices) (s : List Pending) (ticket : ℕ) → AllNamed old s → DropsRows old new ticket
    → AllNamed new (filter (is_other ticket) s)
AllNamed-confirmed old new s ticket named drops d a =
    ap (λ row. is_named (filter (is_other ticket) s) d a (ticket_of row)) (drops d a) ∙ stays_named s d a ticket (row_at old d a) (named d a)

-- whoever named a row still does when there is one release more
named_more : (s : List Pending) (p : Pending) (d a : ℕ) (t : Option ℕ) → is_named s d a t ≡ true → is_named (s ++ p ∷ []) d a t ≡ true
named_more s p d a None named = refl
named_more s p d a (Some t) named = list_any-append (λ release. names release d a t) s (p ∷ []) ∙ or_left _ _ named

-- a release names what it releases
pub named_released : (s : List Pending) (p : Pending) (d a : ℕ) (b : Bool) (row : Option PageRow) → (b ≡ true → names p d a p.ticket ≡ true)
    → is_named s d a (ticket_of row) ≡ true → is_named (s ++ p ∷ []) d a (ticket_of (if b then released_row_if_any row p.ticket else row)) ≡ true
named_released s p d a false row own named = named_more s p d a (ticket_of row) named
named_released s p d a true None own named = refl
named_released s p d a true (Some row) own named = by row.ticket named
  where
    by : (t : Option ℕ) → is_named s d a t ≡ true → is_named (s ++ p ∷ []) d a (ticket_after t p.ticket) ≡ true
    by None named = list_any-append (λ release. names release d a p.ticket) s (p ∷ []) ∙ or_right _ _ (or_left _ _ (own refl))
    by (Some t) named = named_more s p d a (Some t) named

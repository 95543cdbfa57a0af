-- A confirmation of a ticket that isn't pending changes nothing.
use Rattle.std.proofs.Common.{◌≡◌, ℕ, Bool, true, false, ◌==◌, ◌||◌, List, [], ◌∷◌, filter, Contains, nat_eq, Option, None, Some, if◌then◌else◌, refl, sym, ap, ◌∙◌, subst}
use Rattle.std.proofs.lemmas.Bool.{eqb-true, eq-eqb, and_parts, or_parts, or_left, or_right, false≢true}
use Rattle.indexmap.proofs.CallerLemmas.{Contains-list_any}
use Rattle.iom_base.specs.declared.rights.Rights.{Rights}
use Rattle.iom_ledger.specs.declared.page_row.PageRow.{PageRow}
use Rattle.iom_ledger.specs.declared.pending.Pending.{Pending}
use Rattle.iom_ledger.specs.declared.ledger.Ledger.{Ledger}
use Rattle.iom_ledger.specs.Rows.{row_at, held_of, released_of, names, ticket_of, is_named, AllNamed}
use Rattle.iom_ledger.specs.RowChanges.{unless_waiting, DropsRows}
use Rattle.iom_ledger.specs.Shown.{held_in, released_in, pending_in}
use Rattle.iom_ledger.specs.Changes.{IsUnchanged}
use Rattle.iom_ledger.specs.Ring.{tickets, is_ticket_among, is_other, any_names}

-- a ticket that isn't contained is found nowhere
not_among : (ticket : ℕ) (ts : List ℕ) → (Contains ts ticket → ⊥) → is_ticket_among ticket ts ≡ false
not_among ticket ts absent = by (is_ticket_among ticket ts) refl
  where
    by : (b : Bool) → is_ticket_among ticket ts ≡ b → b ≡ false
    by true found = absurd (absent (Contains-list_any nat_eq eqb-true ts ticket found))
    by false found = refl

-- where no release is under the ticket, each stays
pub filter_absent : (ticket : ℕ) (s : List Pending) → is_ticket_among ticket (tickets s) ≡ false → filter (is_other ticket) s ≡ s
filter_absent ticket [] absent = refl
filter_absent ticket (p ∷ s) absent =
    let parts = or_parts (nat_eq ticket p.ticket) (is_ticket_among ticket (tickets s)) absent in
    rw parts.0 (ap (λ rest. p ∷ rest) (filter_absent ticket s parts.1))

-- a release that names a page under a ticket has that ticket
pub among_from_names : (s : List Pending) (d a ticket : ℕ) → any_names s d a ticket ≡ true → is_ticket_among ticket (tickets s) ≡ true
among_from_names [] d a ticket named = named
among_from_names (p ∷ s) d a ticket named = by (names p d a ticket) refl named (among_from_names s d a ticket)
  where
    by : (b : Bool) → names p d a ticket ≡ b → (b || any_names s d a ticket) ≡ true
        → (any_names s d a ticket ≡ true → is_ticket_among ticket (tickets s) ≡ true) → is_ticket_among ticket (tickets (p ∷ s)) ≡ true
    by true this either later = or_left _ _ (eq-eqb ticket p.ticket (sym (eqb-true p.ticket ticket (and_parts (p.ticket == ticket) _ this).0)))
    by false this either later = or_right _ _ (later either)

-- so no row waits for it
unless_waiting-absent : (s : List Pending) (d a ticket : ℕ) (row : Option PageRow) → is_ticket_among ticket (tickets s) ≡ false → is_named s d a (ticket_of row) ≡ true
    → unless_waiting row ticket ≡ row
unless_waiting-absent s d a ticket None absent named = refl
unless_waiting-absent s d a ticket (Some row) absent named = own row.ticket row.frame row.rights named
  where
    waits : (t frame : ℕ) (rights : Rights) (b : Bool) → (ticket == t) ≡ b → any_names s d a t ≡ true
        → ◌≡◌ {A = Option PageRow} (if b then None else Some (record { frame = frame; rights = rights; ticket = Some t })) (Some (record { frame = frame; rights = rights; ticket = Some t }))
    waits t frame rights true e named =
        let same = eqb-true ticket t e in
        absurd (false≢true (sym absent ∙ among_from_names s d a ticket (subst (λ x. any_names s d a x ≡ true) (sym same) named)))
    waits t frame rights false e named = refl

    own : (t : Option ℕ) (frame : ℕ) (rights : Rights) → is_named s d a t ≡ true
        → ◌≡◌ {A = Option PageRow} (unless_waiting (Some (record { frame = frame; rights = rights; ticket = t })) ticket)
        (Some (record { frame = frame; rights = rights; ticket = t }))
    own None frame rights named = refl
    own (Some t) frame rights named = waits t frame rights (ticket == t) refl named

pub IsUnchanged-confirmed : (old new : Ledger) (ticket : ℕ) → AllNamed old.devices old.pending.items → DropsRows old.devices new.devices ticket
    → new.pending.items ≡ filter (is_other ticket) old.pending.items → (Contains (pending_in old) ticket → ⊥) → IsUnchanged old new
unfolding held_in released_in pending_in
IsUnchanged-confirmed old new ticket named drops items absent =
    let none = not_among ticket (tickets old.pending.items) absent in
    let same : (d a : ℕ) → row_at new.devices d a ≡ row_at old.devices d a =
    λ d a. drops d a ∙ unless_waiting-absent old.pending.items d a ticket (row_at old.devices d a) none (named d a) in
    record {
      held = λ d a. ap held_of (same d a);
      lingering = λ d a. ap released_of (same d a);
      pending = ap tickets (items ∙ filter_absent ticket old.pending.items none);
    }

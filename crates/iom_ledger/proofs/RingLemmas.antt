-- The ring of the releases: tickets that ascend, and what confirming a ticket leaves.
use Rattle.std.proofs.Common.{◌≡◌, ◌+◌, ◌-◌, ◌<◌, ◌≤◌, ℕ, suc, zero, Bool, true, false, ◌==◌, ◌||◌, ◌++◌, List, [], ◌∷◌, length, take, drop, get_or, filter, nat_le, slice_get, Option, None, Some, refl, sym, ap, ◌∙◌, subst, drop-cons, add-one, arith}
use Rattle.circular_buffer.specs.Buffer.{last_item}
use Rattle.std.proofs.lemmas.Bool.{leb-true, le-leb, ne_eqb, and_parts, and_from, false≢true}
use Rattle.std.proofs.lemmas.List.{take_more, take-append-drop}
use Rattle.std.proofs.lemmas.List.Elements.{filter-append}
use Rattle.std.proofs.lemmas.List.Folds.{list_any-append}
use Rattle.iom_ledger.specs.declared.pending.Pending.{Pending}
use Rattle.iom_ledger.specs.Rows.{Devices, row_at, names, AllNamed}
use Rattle.iom_ledger.specs.RowChanges.{DropsRows, DropsNamed}
use Rattle.iom_ledger.specs.Ring.{tickets, is_ticket_among, all_from, is_ascending, is_other, any_names, dropped, DropsNamedBy, TakesFirst}
use Rattle.iom_ledger.proofs.PendingLemmas.{dropped_more, rows_more, all_dropped}
use Rattle.iom_ledger.proofs.UnknownTickets.{among_from_names}

-- one more release, from a ticket on
all_from-push : (ticket : ℕ) (s : List Pending) (p : Pending) → all_from ticket s ≡ true → ticket ≤ p.ticket → all_from ticket (s ++ p ∷ []) ≡ true
all_from-push ticket [] p from low = and_from (nat_le ticket p.ticket) true (le-leb ticket p.ticket low) refl
all_from-push ticket (q ∷ s) p from low =
    let parts = and_parts (nat_le ticket q.ticket) (all_from ticket s) from in
    and_from (nat_le ticket q.ticket) (all_from ticket (s ++ p ∷ [])) parts.0 (all_from-push ticket s p parts.1 low)

newest_from : (ticket : ℕ) (s : List Pending) (p : Pending) → all_from ticket (s ++ p ∷ []) ≡ true → ticket ≤ p.ticket
newest_from ticket [] p from = leb-true ticket p.ticket (and_parts (nat_le ticket p.ticket) true from).0
newest_from ticket (q ∷ s) p from = newest_from ticket s p (and_parts (nat_le ticket q.ticket) (all_from ticket (s ++ p ∷ [])) from).1

-- tickets ascend with one more that isn't below the newest
pub is_ascending-push : (s : List Pending) (p : Pending) → is_ascending s ≡ true → ((newest : Pending) → last_item s ≡ Some newest → newest.ticket ≤ p.ticket) → is_ascending (s ++ p ∷ []) ≡ true
is_ascending-push [] p ascends above = refl
is_ascending-push (q ∷ []) p ascends above =
    and_from (all_from q.ticket (p ∷ [])) true (and_from (nat_le q.ticket p.ticket) true (le-leb q.ticket p.ticket (above q refl)) refl) refl
is_ascending-push (q ∷ (r ∷ s)) p ascends above =
    let parts = and_parts (all_from q.ticket (r ∷ s)) (is_ascending (r ∷ s)) ascends in
    let place : length (q ∷ (r ∷ s)) - 1 ≡ suc (length (r ∷ s) - 1) = omega arith in
    let rest = is_ascending-push (r ∷ s) p parts.1 (λ newest last. above newest (ap (slice_get (q ∷ (r ∷ s))) place ∙ last)) in
    let first = leb-true q.ticket r.ticket (and_parts (nat_le q.ticket r.ticket) (all_from q.ticket s) parts.0).0 in
    let last = newest_from r.ticket s p (and_parts (all_from r.ticket (s ++ p ∷ [])) (is_ascending (s ++ p ∷ [])) rest).0 in
    and_from (all_from q.ticket ((r ∷ s) ++ p ∷ [])) (is_ascending ((r ∷ s) ++ p ∷ [])) (all_from-push q.ticket (r ∷ s) p parts.0 (omega arith)) rest

-- and with some of them less
all_from-filter : (test : Pending → Bool) (ticket : ℕ) (s : List Pending) → all_from ticket s ≡ true → all_from ticket (filter test s) ≡ true
all_from-filter test ticket [] from = refl
all_from-filter test ticket (p ∷ s) from =
    let parts = and_parts (nat_le ticket p.ticket) (all_from ticket s) from in
    by (test p) refl parts.0 (all_from-filter test ticket s parts.1)
  where
    by : (b : Bool) → test p ≡ b → nat_le ticket p.ticket ≡ true → all_from ticket (filter test s) ≡ true → all_from ticket (filter test (p ∷ s)) ≡ true
    by true e here rest = rw e (and_from (nat_le ticket p.ticket) (all_from ticket (filter test s)) here rest)
    by false e here rest = rw e rest

pub is_ascending-filter : (test : Pending → Bool) (s : List Pending) → is_ascending s ≡ true → is_ascending (filter test s) ≡ true
is_ascending-filter test [] ascends = refl
is_ascending-filter test (p ∷ s) ascends =
    let parts = and_parts (all_from p.ticket s) (is_ascending s) ascends in
    by (test p) refl (all_from-filter test p.ticket s parts.0) (is_ascending-filter test s parts.1)
  where
    by : (b : Bool) → test p ≡ b → all_from p.ticket (filter test s) ≡ true → is_ascending (filter test s) ≡ true → is_ascending (filter test (p ∷ s)) ≡ true
    by true e here rest = rw e (and_from (all_from p.ticket (filter test s)) (is_ascending (filter test s)) here rest)
    by false e here rest = rw e rest

pub is_ascending-drop : (n : ℕ) (s : List Pending) → is_ascending s ≡ true → is_ascending (drop n s) ≡ true
is_ascending-drop zero s ascends = ascends
is_ascending-drop (suc n) [] ascends = refl
is_ascending-drop (suc n) (p ∷ s) ascends = is_ascending-drop n s (and_parts (all_from p.ticket s) (is_ascending s) ascends).1

-- a ticket below the first of those that ascend is none of them
none_below : (ticket first : ℕ) (s : List Pending) → ticket < first → all_from first s ≡ true → is_ticket_among ticket (tickets s) ≡ false
none_below ticket first [] low from = refl
none_below ticket first (p ∷ s) low from =
    let parts = and_parts (nat_le first p.ticket) (all_from first s) from in
    let next = leb-true first p.ticket parts.0 in
    ap (λ b. b || is_ticket_among ticket (tickets s)) (ne_eqb ticket p.ticket (λ same. omega arith)) ∙ none_below ticket first s low parts.1

pub not_among_ascending : (ticket : ℕ) (s : List Pending) (oldest : Pending) → slice_get s 0 ≡ Some oldest → ticket < oldest.ticket → is_ascending s ≡ true → is_ticket_among ticket (tickets s) ≡ false
not_among_ascending ticket [] oldest first low ascends = cc
not_among_ascending ticket (p ∷ s) oldest first low ascends =
    let same : p ≡ oldest = cc in
    let below : ticket < p.ticket = subst (λ (q : Pending). ticket < q.ticket) (sym same) low in
    ap (λ b. b || is_ticket_among ticket (tickets s)) (ne_eqb ticket p.ticket (λ is. omega arith))
    ∙ none_below ticket p.ticket s below (and_parts (all_from p.ticket s) (is_ascending s) ascends).0

pub nil_from_front : (s : List Pending) → slice_get s 0 ≡ None → s ≡ []
nil_from_front [] none = refl
nil_from_front (p ∷ s) none = cc

-- nothing is taken
pub TakesFirst-none : (devices : Devices) (s : List Pending) (ticket : ℕ) → TakesFirst devices devices s s 0 ticket
TakesFirst-none devices s ticket = record { items = refl; under = refl; rows = λ d a. refl }

-- one more release at the front is taken
pub TakesFirst-more : (old now new : Devices) (before left after : List Pending) (n ticket : ℕ) (oldest : Pending) → n < length before → slice_get left 0 ≡ Some oldest → (ticket == oldest.ticket) ≡ true
    → after ≡ drop 1 left → DropsNamed now new oldest ticket → TakesFirst old now before left n ticket → TakesFirst old new before after (n + 1) ticket
TakesFirst-more old now new before left after n ticket oldest within first same is drops taken = record {
  items = is ∙ ap (drop 1) split;
  under =
      ap (filter (is_other ticket)) (take_more before n oldest within)
      ∙ filter-append (is_other ticket) (take n before) (get_or before n oldest ∷ [])
      ∙ ap (λ xs. xs ++ filter (is_other ticket) (get_or before n oldest ∷ [])) taken.under
      ∙ ap (λ p. filter (is_other ticket) (p ∷ [])) next
      ∙ (rw same refl);
  rows = λ d a.
      rows_more before n oldest d a ticket (row_at old d a) (row_at now d a) (row_at new d a) within (taken.rows d a)
      (subst (λ (p : Pending). row_at new d a ≡ dropped (names p d a ticket) (row_at now d a) ticket) (sym next) (drops d a));
}
  where
    split : left ≡ get_or before n oldest ∷ drop (n + 1) before
    split = taken.items ∙ drop-cons before n oldest within ∙ ap (λ k. get_or before n oldest ∷ drop k before) (sym (add-one n))

    next : get_or before n oldest ≡ oldest
    next = let here : ◌≡◌ {A = Option Pending} (Some (get_or before n oldest)) (Some oldest) = sym (ap (λ xs. slice_get xs 0) split) ∙ first in cc

-- where no release is under the ticket, no row is dropped
pub none_dropped : (devices : Devices) (s : List Pending) (ticket : ℕ) → is_ticket_among ticket (tickets s) ≡ false → DropsNamedBy devices devices s ticket
none_dropped devices s ticket absent d a = by (any_names s d a ticket) refl
  where
    by : (b : Bool) → any_names s d a ticket ≡ b → row_at devices d a ≡ dropped b (row_at devices d a) ticket
    by true named = absurd (false≢true (sym absent ∙ among_from_names s d a ticket named))
    by false none = refl

-- the releases at the front, and then those that are left
pub rows_of_both : (old mid new : Devices) (before left : List Pending) (n ticket : ℕ) → AllNamed old before → TakesFirst old mid before left n ticket → DropsNamedBy mid new left ticket → DropsRows old new ticket
rows_of_both old mid new before left n ticket named taken rest d a =
    dropped_more (any_names (take n before) d a ticket) (any_names left d a ticket) (row_at old d a) (row_at mid d a) (row_at new d a) ticket (taken.rows d a) (rest d a)
    ∙ ap (λ b. dropped b (row_at old d a) ticket) all
    ∙ all_dropped before d a ticket (row_at old d a) (named d a)
  where
    all : (any_names (take n before) d a ticket || any_names left d a ticket) ≡ any_names before d a ticket
    all =
        ap (λ s. any_names (take n before) d a ticket || any_names s d a ticket) taken.items
        ∙ sym (list_any-append (λ release. names release d a ticket) (take n before) (drop n before))
        ∙ ap (λ s. any_names s d a ticket) (take-append-drop n before)

pub items_of_both : (old mid : Devices) (before left after : List Pending) (n ticket : ℕ) → TakesFirst old mid before left n ticket → after ≡ filter (is_other ticket) left → after ≡ filter (is_other ticket) before
items_of_both old mid before left after n ticket taken rest =
    rest ∙ ap (filter (is_other ticket)) taken.items
    ∙ ap (λ xs. xs ++ filter (is_other ticket) (drop n before)) (sym taken.under)
    ∙ sym (filter-append (is_other ticket) (take n before) (drop n before))
    ∙ ap (filter (is_other ticket)) (take-append-drop n before)

pub nil_from_back : (s : List Pending) → last_item s ≡ None → s ≡ []
nil_from_back [] none = refl
nil_from_back (p ∷ []) none = cc
nil_from_back (p ∷ (q ∷ s)) none =
    let place : length (p ∷ (q ∷ s)) - 1 ≡ suc (length (q ∷ s) - 1) = omega arith in
    let rest = nil_from_back (q ∷ s) (ap (slice_get (p ∷ (q ∷ s))) (sym place) ∙ none) in
    cc

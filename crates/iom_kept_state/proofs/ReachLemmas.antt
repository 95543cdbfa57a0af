-- At which pages a ledger shows a frame as reached.
use Rattle.std.proofs.Common.{◌≡◌, ℕ, ◌+◌, ◌<◌, ◌≤◌, Bool, true, false, ◌==◌, List, [], Contains, map, length, is_some, slice_get, nat_eq, nat_lt, Option, None, Some, refl, sym, ap, ◌∙◌, subst, arith}
use Rattle.std.specs.Option.{option_and_then, option_map, option_map_or}
use Rattle.std.proofs.lemmas.Bool.{eqb-true}
use Rattle.std.proofs.lemmas.Bool.Decides.{nat_tests}
use Rattle.std.proofs.lemmas.Option.{slice_get_read, slice_get_within}
use Rattle.std.proofs.lemmas.Map.Views.{Contains-keys_from_lookup}
use Rattle.indexmap.specs.IndexMap.{get}
use Rattle.iom_base.specs.declared.rights.Rights.{Rights}
use Rattle.iom_base.specs.Rights.{allows}
use Rattle.iom_ledger.specs.declared.ledger.Ledger.{Ledger}
use Rattle.iom_ledger.specs.declared.reaching.Reach.{Reach}
use Rattle.iom_ledger.specs.declared.page_row.PageRow.{PageRow}
use Rattle.iom_ledger.specs.History.{Pair}
use Rattle.iom_ledger.specs.declared.device_list.Devices.{Devices}
use Rattle.iom_ledger.specs.Rows.{Pages, pages_in, row_at, pages_of, held_of, released_of}
use Rattle.iom_ledger.specs.Shown.{held_in, released_in, pages_listed}
use Rattle.iom_ledger.specs.Reaching.{ReachesUnder, NoneReachesWithin, IsNextReach}
use Rattle.iom_kept_state.specs.declared.wanted.Wanted.{Wanted}
use Rattle.iom_kept_state.specs.Wanted.{Counts, IsReach, ReachesAt, IsReached}

-- a row shows the pair so
abbrev RowShows : Option PageRow → Pair → Option ℕ → Type 0
RowShows row pair None = held_of row ≡ Some pair
RowShows row pair (Some ticket) = released_of row ≡ Some (ticket, pair)

-- one that shows a pair is there
some_row : (row : Option PageRow) (pair : Pair) (ticket : Option ℕ) → RowShows row pair ticket → (r : PageRow) × (row ≡ Some r)
some_row None pair None shows = cc
some_row None pair (Some ticket) shows = cc
some_row (Some r) pair ticket shows = (r, refl)

-- it shows one alone, in one way
one_shown : (row : Option PageRow) (pair pair' : Pair) (ticket ticket' : Option ℕ) → RowShows row pair ticket → RowShows row pair' ticket' → (pair ≡ pair') × (ticket ≡ ticket')
one_shown None pair pair' None ticket' shows shows' = cc
one_shown None pair pair' (Some t) ticket' shows shows' = cc
one_shown (Some r) pair pair' ticket ticket' shows shows' = by r.ticket ticket ticket' shows shows'
  where
    by : (own ticket ticket' : Option ℕ)
        → RowShows (Some (record { frame = r.frame; rights = r.rights; ticket = own })) pair ticket
        → RowShows (Some (record { frame = r.frame; rights = r.rights; ticket = own })) pair' ticket' → (pair ≡ pair') × (ticket ≡ ticket')
    by None None None shows shows' = let e : (r.frame, r.rights) ≡ pair = cc in let e' : (r.frame, r.rights) ≡ pair' = cc in (sym e ∙ e', refl)
    by None None (Some t') shows shows' = cc
    by None (Some t) ticket' shows shows' = cc
    by (Some o) None ticket' shows shows' = cc
    by (Some o) (Some t) None shows shows' = cc
    by (Some o) (Some t) (Some t') shows shows' =
        let e : (o, (r.frame, r.rights)) ≡ (t, pair) = cc in let e' : (o, (r.frame, r.rights)) ≡ (t', pair') = cc in
        (sym (ap (λ (p : ℕ × Pair). p.1) e) ∙ ap (λ (p : ℕ × Pair). p.1) e', ap Some (sym (ap (λ (p : ℕ × Pair). p.0) e) ∙ ap (λ (p : ℕ × Pair). p.0) e'))

-- what a ledger shows, by the row of the page
shown_by_row : (ledger : Ledger) (wanted : Wanted) (page : ℕ) (rights : Rights) (ticket : Option ℕ) → ReachesAt ledger wanted page rights ticket
    → RowShows (row_at ledger.devices wanted.device page) (wanted.place, rights) ticket
unfolding held_in released_in
shown_by_row ledger wanted page rights None reaches = reaches
shown_by_row ledger wanted page rights (Some ticket) reaches = reaches

shown_under : (ledger : Ledger) (device page : ℕ) (pair : Pair) (ticket : Option ℕ) → ReachesUnder ledger device page pair ticket → RowShows (row_at ledger.devices device page) pair ticket
unfolding held_in released_in
shown_under ledger device page pair None reaches = reaches
shown_under ledger device page pair (Some ticket) reaches = reaches

-- a page that has a row is listed
listed_row : (devices : Devices) (device page : ℕ) (row : PageRow) → row_at devices device page ≡ Some row → Contains (pages_of devices device) page
listed_row devices device page row at = by (pages_in devices.list.items device) refl
  where
    by : (own : Option Pages) → pages_in devices.list.items device ≡ own → Contains (pages_of devices device) page
    by None e = let none : option_and_then (λ (ps : Pages). get nat_eq ps page) None ≡ Some row = sym (ap (option_and_then (λ (ps : Pages). get nat_eq ps page)) e) ∙ at in cc
    by (Some pages) e =
        let found : get nat_eq pages page ≡ Some row = sym (ap (option_and_then (λ (ps : Pages). get nat_eq ps page)) e) ∙ at in
        subst (λ (keys : List ℕ). Contains keys page) (sym (ap (λ (own : Option Pages). map (λ (entry : ℕ × PageRow). entry.0) (option_map_or (λ (ps : Pages). ps.entries) own [])) e))
        (Contains-keys_from_lookup (λ x y. eqb-true x y) page pages.entries (ap is_some found))

-- a page at which the frame is reached is listed
pub listed_where_reached : (ledger : Ledger) (wanted : Wanted) (page : ℕ) (rights : Rights) (ticket : Option ℕ) → ReachesAt ledger wanted page rights ticket
    → (k : ℕ) × (slice_get (pages_listed ledger wanted.device) k ≡ Some page) × (k < length (pages_listed ledger wanted.device))
unfolding pages_listed
listed_where_reached ledger wanted page rights ticket reaches =
    let (row, at) = some_row (row_at ledger.devices wanted.device page) (wanted.place, rights) ticket (shown_by_row ledger wanted page rights ticket reaches) in
    let (k, below, is) = listed_row ledger.devices wanted.device page row at in
    (k, slice_get_read (pages_of ledger.devices wanted.device) (length (pages_of ledger.devices wanted.device)) k page refl below (sym is), below)

-- THE INVARIANT of the search: at none of the pages before this index is the frame reached so
abbrev pub NoneBefore : Wanted → Ledger → ℕ → Type 0
NoneBefore wanted ledger from =
    (k page : ℕ) (rights : Rights) (ticket : Option ℕ) → k < from → slice_get (pages_listed ledger wanted.device) k ≡ Some page
    → ReachesAt ledger wanted page rights ticket → (allows rights wanted.kind ≡ true) → Counts wanted ticket → ⊥

-- past the last page it is reached nowhere
pub reached_nowhere : (wanted : Wanted) (ledger : Ledger) (from : ℕ) → NoneBefore wanted ledger from → length (pages_listed ledger wanted.device) ≤ from → ¬ IsReached wanted ledger
reached_nowhere wanted ledger from none past (page, rights, ticket, reaches, allowed, counts) =
    let (k, at, below) = listed_where_reached ledger wanted page rights ticket reaches in
    none k page rights ticket (omega (arith, below, past)) at reaches allowed counts

-- none reaches the frame up to this index
skipped : (wanted : Wanted) (ledger : Ledger) (from to k page : ℕ) (rights : Rights) (ticket : Option ℕ) → NoneReachesWithin ledger wanted.device wanted.place from to
    → from ≤ k → k < to → slice_get (pages_listed ledger wanted.device) k ≡ Some page → ReachesAt ledger wanted page rights ticket → ⊥
skipped wanted ledger from to k page rights None none low high at reaches = (none k page low high at rights).0 reaches
skipped wanted ledger from to k page rights (Some t) none low high at reaches = (none k page low high at rights).1 (ap (option_map (λ (r : ℕ × Pair). r.1)) reaches)

pub none_from : (wanted : Wanted) (ledger : Ledger) (from to : ℕ) → NoneBefore wanted ledger from → NoneReachesWithin ledger wanted.device wanted.place from to → NoneBefore wanted ledger to
none_from wanted ledger from to before none k page rights ticket below at reaches allowed counts = by (nat_lt k from) refl
  where
    by : (b : Bool) → nat_lt k from ≡ b → ⊥
    by true e = before k page rights ticket (grind (arith, nat_tests)) at reaches allowed counts
    by false e = skipped wanted ledger from to k page rights ticket none (grind (arith, nat_tests)) below at reaches

-- the next reach isn't one
pub none_past : (wanted : Wanted) (ledger : Ledger) (from : ℕ) (reach : Reach) → NoneBefore wanted ledger from → IsNextReach ledger wanted.device wanted.place from reach → ¬ IsReach wanted reach
    → NoneBefore wanted ledger (reach.index + 1)
none_past wanted ledger from reach before next isn't k page rights ticket below at reaches allowed counts = by (k == reach.index) refl
  where
    by : (b : Bool) → (k == reach.index) ≡ b → ⊥
    by true e =
        let same : k ≡ reach.index = eqb-true k reach.index e in
        let both : Some reach.page ≡ Some page = sym next.listed ∙ ap (slice_get (pages_listed ledger wanted.device)) (sym same) ∙ at in
        let page_is : reach.page ≡ page = cc in
        let shown = subst (λ (p : ℕ). RowShows (row_at ledger.devices wanted.device p) (wanted.place, reach.rights) reach.ticket) page_is
        (shown_under ledger wanted.device reach.page (wanted.place, reach.rights) reach.ticket next.reaches) in
        let (pairs, tickets) = one_shown (row_at ledger.devices wanted.device page) (wanted.place, rights) (wanted.place, reach.rights) ticket reach.ticket
        (shown_by_row ledger wanted page rights ticket reaches) shown in
        isn't (subst (λ (r : Rights). allows r wanted.kind ≡ true) (ap (λ (p : Pair). p.1) pairs) allowed, subst (Counts wanted) tickets counts)
    by false e = none_from wanted ledger from reach.index before next.skipped k page rights ticket (grind (arith, nat_tests)) at reaches allowed counts

-- what is held there is a way
pub reached_as_held : (wanted : Wanted) (ledger : Ledger) (page place : ℕ) (rights : Rights) → wanted.held ≡ true → Some (place, rights) ≡ held_in ledger wanted.device page
    → place ≡ wanted.place → allows rights wanted.kind ≡ true → IsReached wanted ledger
reached_as_held wanted ledger page place rights counts held same allowed =
    (page, rights, None, sym held ∙ ap (λ (p : ℕ). Some (p, rights)) same, allowed, counts)

-- the next reach is a way
pub reached_by : (wanted : Wanted) (ledger : Ledger) (from : ℕ) (reach : Reach) → IsNextReach ledger wanted.device wanted.place from reach → IsReach wanted reach → IsReached wanted ledger
reached_by wanted ledger from reach next is = (reach.page, reach.rights, reach.ticket, under reach.ticket next.reaches, is.0, is.1)
  where
    under : (ticket : Option ℕ) → ReachesUnder ledger wanted.device reach.page (wanted.place, reach.rights) ticket → ReachesAt ledger wanted reach.page reach.rights ticket
    under None reaches = reaches
    under (Some t) reaches = reaches

-- it stands within the list
pub within_list : (wanted : Wanted) (ledger : Ledger) (from : ℕ) (reach : Reach) → IsNextReach ledger wanted.device wanted.place from reach → reach.index < length (pages_listed ledger wanted.device)
within_list wanted ledger from reach next = slice_get_within (pages_listed ledger wanted.device) reach.index reach.page next.listed

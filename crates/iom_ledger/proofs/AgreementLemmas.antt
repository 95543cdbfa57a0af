-- What a ledger's rows show, read off each history that the ledger agrees with.
use Rattle.std.proofs.Common.{◌≡◌, ℕ, ◌⊎◌, inl, inr, Bool, true, false, not, ◌==◌, ◌||◌, List, [], ◌∷◌, filter, map, Contains, Option, None, Some, is_some, if◌then◌else◌, refl, sym, ap, ◌∙◌, subst, arith}
use Rattle.std.specs.Option.{option_map, option_to_list}
use Rattle.std.proofs.lemmas.Bool.{eqb-true, false≢true}
use Rattle.std.proofs.lemmas.List.{append-nil}
use Rattle.std.proofs.lemmas.List.Elements.{Contains-push, Contains-push_cases}
use Rattle.iom_base.specs.declared.access.AccessKind.{AccessKind}
use Rattle.iom_base.specs.declared.access.AccessKind.TheVariants.{Read}
use Rattle.iom_base.specs.declared.rights.Rights.{Rights}
use Rattle.iom_base.specs.Rights.{allows}
use Rattle.iom_ledger.specs.declared.page_row.PageRow.{PageRow}
use Rattle.iom_ledger.specs.declared.pending.Pending.{Pending}
use Rattle.iom_ledger.specs.declared.entry.HistoryEntry.TheVariants.{Confirmed}
use Rattle.iom_ledger.specs.declared.ledger.Ledger.{Ledger}
use Rattle.iom_ledger.specs.History.{History, Pair, confirms, released_at, Holds, Lingers, May}
use Rattle.iom_ledger.specs.Pending.{tickets_of}
use Rattle.iom_ledger.specs.Rows.{Devices, row_at, pair_in_row, held_of, released_of, unless_released, if_released, waits_for}
use Rattle.iom_ledger.specs.Rows.{is_granted, has_granted_right, AllGranted}
use Rattle.iom_ledger.specs.RowChanges.{unless_waiting, DropsRows}
use Rattle.iom_ledger.specs.Shown.{AgreesAt, Agrees, IsFreeIn, held_in, released_in}
use Rattle.iom_ledger.specs.Changes.{ShowsConfirmation, unless_under}
use Rattle.iom_ledger.specs.Ring.{is_other}

-- a right that is granted allows to read
allows-granted : (rights : Rights) → is_granted rights ≡ true → allows rights Read ≡ true
allows-granted rights granted = by (rights.0 == 1) (rights.0 == 3) refl refl granted
  where
    by : (b c : Bool) → (rights.0 == 1) ≡ b → (rights.0 == 3) ≡ c → (b || c) ≡ true → allows rights Read ≡ true
    by true c e f either = let is : rights.0 ≡ 1 = eqb-true rights.0 1 e in rw is refl
    by false true e f either = let is : rights.0 ≡ 3 = eqb-true rights.0 3 f in rw is refl
    by false false e f either = absurd (false≢true either)

-- the row of a pair that is held
row_of_held : (row : Option PageRow) (pair : Pair) → held_of row ≡ Some pair → (r : PageRow) × (row ≡ Some r) × (pair_in_row r ≡ pair)
row_of_held None pair held = cc
row_of_held (Some row) pair held = by row.ticket row.frame row.rights held
  where
    by : (t : Option ℕ) (frame : ℕ) (rights : Rights) → unless_released t (frame, rights) ≡ Some pair
        → (r : PageRow) × (◌≡◌ {A = Option PageRow} (Some (record { frame = frame; rights = rights; ticket = t })) (Some r)) × (pair_in_row r ≡ pair)
    by None frame rights held = (record { frame = frame; rights = rights; ticket = None }, refl, cc)
    by (Some t) frame rights held = cc

-- the row of a pair that lingers
row_of_lingering : (row : Option PageRow) (ticket : ℕ) (pair : Pair) → Contains (option_to_list (released_of row)) (ticket, pair)
    → (r : PageRow) × (row ≡ Some r) × (pair_in_row r ≡ pair) × (is_some r.ticket ≡ true)
row_of_lingering None ticket pair (k, below, at) = absurd (omega arith)
row_of_lingering (Some row) ticket pair lingers = by row.ticket row.frame row.rights lingers
  where
    by : (t : Option ℕ) (frame : ℕ) (rights : Rights) → Contains (option_to_list (if_released t (frame, rights))) (ticket, pair)
        → (r : PageRow) × (◌≡◌ {A = Option PageRow} (Some (record { frame = frame; rights = rights; ticket = t })) (Some r)) × (pair_in_row r ≡ pair) × (is_some r.ticket ≡ true)
    by None frame rights (k, below, at) = absurd (omega arith)
    by (Some t) frame rights lingers =
        elim (Contains-push_cases [] (t, (frame, rights)) (ticket, pair) lingers) [
          | inl (k, below, at) ↦ absurd (omega arith)
          | inr same ↦ (record { frame = frame; rights = rights; ticket = Some t }, refl, ap (λ p. p.1) same, refl)
        ]

-- a row's pair is held or lingers
reached_from_row : (h : History) (device page : ℕ) (row : PageRow) → AgreesAt (held_of (Some row)) (released_of (Some row)) h device page
    → Holds h device page (pair_in_row row) ⊎ ((is_some row.ticket ≡ true) × Lingers h device page (pair_in_row row))
reached_from_row h device page row shows = by row.ticket row.frame row.rights shows
  where
    by : (t : Option ℕ) (frame : ℕ) (rights : Rights) → AgreesAt (unless_released t (frame, rights)) (if_released t (frame, rights)) h device page
        → Holds h device page (frame, rights) ⊎ ((is_some t ≡ true) × Lingers h device page (frame, rights))
    by None frame rights shows = inl shows.holds
    by (Some t) frame rights shows =
        inr (refl, (t, subst (λ l. Contains l (t, (frame, rights))) (sym shows.lingers) (Contains-push [] (t, (frame, rights)))))

-- some device has a row that names the frame
abbrev pub SomeRowNames : Devices → ℕ → Type 0
SomeRowNames devices frame =
    (device page : ℕ) × (row : PageRow) × (row_at devices device page ≡ Some row) × (row.frame ≡ frame)

-- a device that may reach a frame has a row that names it
pub some_row_from_May : (ledger : Ledger) (h : History) → Agrees ledger h → (device frame : ℕ) (kind : AccessKind) → May h device frame kind → SomeRowNames ledger.devices frame
unfolding held_in released_in
some_row_from_May ledger h agrees device frame kind (page, rights, reaches, allowed) = elim reaches [
  | inl held ↦
      let (r, at, pair) = row_of_held (row_at ledger.devices device page) (frame, rights) (sym (agrees.pages device page).holds ∙ held) in
      (device, page, r, at, ap (λ p. p.0) pair)
  | inr lingers ↦
      let (r, at, pair, released) = row_of_lingering (row_at ledger.devices device page) lingers.0 (frame, rights) (subst (λ l. Contains l (lingers.0, (frame, rights))) (agrees.pages device page).lingers lingers.1) in
      (device, page, r, at, ap (λ p. p.0) pair)
]

-- a device that has a row with the frame may read it
pub May_from_some_row : (ledger : Ledger) (h : History) → Agrees ledger h → AllGranted ledger.devices → (frame : ℕ) → SomeRowNames ledger.devices frame → (device : ℕ) × May h device frame Read
unfolding held_in released_in
May_from_some_row ledger h agrees granted frame (device, page, row, at, same) =
    let shows = subst (λ r. AgreesAt (held_of r) (released_of r) h device page) at (agrees.pages device page) in
    let right = allows-granted row.rights (sym (ap has_granted_right at) ∙ granted device page) in (
      device,
      (
        page,
        row.rights,
        elim (reached_from_row h device page row shows) [
          | inl held ↦ inl (held ∙ ap (λ f. Some (f, row.rights)) same)
          | inr lingers ↦ inr (subst (λ f. Lingers h device page (f, row.rights)) same lingers.1)
        ],
        right,
      ),
    )

-- a released row lingers, and what lingers has a released row
pub lingers_from_row : (ledger : Ledger) (h : History) → Agrees ledger h → (device page : ℕ) (row : PageRow) → row_at ledger.devices device page ≡ Some row → is_some row.ticket ≡ true
    → Lingers h device page (pair_in_row row)
unfolding held_in released_in
lingers_from_row ledger h agrees device page row at released =
    by row.ticket row.frame row.rights released (subst (λ r. AgreesAt (held_of r) (released_of r) h device page) at (agrees.pages device page))
  where
    by : (t : Option ℕ) (frame : ℕ) (rights : Rights) → is_some t ≡ true → AgreesAt (unless_released t (frame, rights)) (if_released t (frame, rights)) h device page
        → Lingers h device page (frame, rights)
    by None frame rights released shows = absurd (false≢true released)
    by (Some t) frame rights released shows =
        (t, subst (λ l. Contains l (t, (frame, rights))) (sym shows.lingers) (Contains-push [] (t, (frame, rights))))

pub row_from_lingers : (ledger : Ledger) (h : History) → Agrees ledger h → (device page : ℕ) (pair : Pair) → Lingers h device page pair
    → (r : PageRow) × (row_at ledger.devices device page ≡ Some r) × (is_some r.ticket ≡ true)
unfolding held_in released_in
row_from_lingers ledger h agrees device page pair lingers =
    let (r, at, same, released) = row_of_lingering (row_at ledger.devices device page) lingers.0 pair (subst (λ l. Contains l (lingers.0, pair)) (agrees.pages device page).lingers lingers.1) in
    (r, at, released)

-- the row of a pair that a ledger shows as lingering
row_of_released : (row : Option PageRow) (pair : Pair) → option_map (λ released. released.1) (released_of row) ≡ Some pair → (r : PageRow) × (row ≡ Some r) × (pair_in_row r ≡ pair)
row_of_released None pair lingers = cc
row_of_released (Some row) pair lingers = by row.ticket row.frame row.rights lingers
  where
    by : (t : Option ℕ) (frame : ℕ) (rights : Rights) → option_map (λ released. released.1) (if_released t (frame, rights)) ≡ Some pair
        → (r : PageRow) × (◌≡◌ {A = Option PageRow} (Some (record { frame = frame; rights = rights; ticket = t })) (Some r)) × (pair_in_row r ≡ pair)
    by None frame rights lingers = cc
    by (Some t) frame rights lingers = (record { frame = frame; rights = rights; ticket = Some t }, refl, cc)

-- where no row names the frame, the ledger shows it as free
pub IsFreeIn-from_rows : (ledger : Ledger) (frame : ℕ) → (SomeRowNames ledger.devices frame → ⊥) → IsFreeIn ledger frame
unfolding held_in released_in
IsFreeIn-from_rows ledger frame none device page rights = (
  (λ held.
      let (r, at, pair) = row_of_held (row_at ledger.devices device page) (frame, rights) held in
      none (device, page, r, at, ap (λ p. p.0) pair)),
  (λ lingers.
      let (r, at, pair) = row_of_released (row_at ledger.devices device page) (frame, rights) lingers in
      none (device, page, r, at, ap (λ p. p.0) pair)),
)

-- where a row names the frame, the ledger shows it as held or lingering
pub not_free_from_row : (ledger : Ledger) (frame : ℕ) → SomeRowNames ledger.devices frame → IsFreeIn ledger frame → ⊥
unfolding held_in released_in
not_free_from_row ledger frame (device, page, row, at, same) free =
    by row.ticket row.frame row.rights (ap held_of at) (ap (λ r. option_map (λ released. released.1) (released_of r)) at) same
  where
    by : (t : Option ℕ) (f : ℕ) (rights : Rights) → held_in ledger device page ≡ unless_released t (f, rights)
        → option_map (λ released. released.1) (released_in ledger device page) ≡ option_map (λ released. released.1) (if_released t (f, rights)) → f ≡ frame → ⊥
    by None f rights held lingers same = (free device page rights).0 (held ∙ ap (λ x. Some (x, rights)) same)
    by (Some t) f rights held lingers same = (free device page rights).1 (lingers ∙ ap (λ x. Some (x, rights)) same)

-- a filter by two tests is one filter after the other
filter-not_or : {X : Type 0} (p q : X → Bool) (xs : List X) → filter (λ x. not (p x || q x)) xs ≡ filter (λ x. not (p x)) (filter (λ x. not (q x)) xs)
filter-not_or p q [] = refl
filter-not_or p q (x ∷ xs) = by (p x) (q x) refl refl (filter-not_or p q xs)
  where
    by : (b c : Bool) → p x ≡ b → q x ≡ c → filter (λ y. not (p y || q y)) xs ≡ filter (λ y. not (p y)) (filter (λ y. not (q y)) xs)
        → filter (λ y. not (p y || q y)) (x ∷ xs) ≡ filter (λ y. not (p y)) (filter (λ y. not (q y)) (x ∷ xs))
    by true true e f rest = rw (e, f) rest
    by true false e f rest = rw (e, f, e) rest
    by false true e f rest = rw (e, f) rest
    by false false e f rest = rw (e, f, e) (ap (λ ys. x ∷ ys) rest)

-- the released pair that a filter by its ticket leaves
unless_under-filter : (ticket : ℕ) (released : Option (ℕ × Pair)) → filter (λ r. not (ticket == r.0)) (option_to_list released) ≡ option_to_list (unless_under ticket released)
unless_under-filter ticket None = refl
unless_under-filter ticket (Some released) = by (ticket == released.0) refl
  where
    by : (b : Bool) → (ticket == released.0) ≡ b → filter (λ r. not (ticket == r.0)) (released ∷ []) ≡ option_to_list (if b then None else Some released)
    by true e = rw e refl
    by false e = rw e refl

-- a ledger that drops what waits for a ticket agrees with the history that confirms it
pub Agrees-confirmed : (old new : Ledger) (ticket : ℕ) → ShowsConfirmation old new ticket → (h : History) → Agrees old h → Agrees new (Confirmed ticket ∷ h)
Agrees-confirmed old new ticket confirmed h agrees = record {
  pages = λ d a. record {
    holds = (agrees.pages d a).holds ∙ sym (confirmed.held d a);
    lingers =
        filter-not_or (λ r. ticket == r.0) (λ r. confirms h r.0) (released_at h d a)
        ∙ ap (filter (λ r. not (ticket == r.0))) (agrees.pages d a).lingers
        ∙ unless_under-filter ticket (released_in old d a)
        ∙ ap option_to_list (sym (confirmed.lingering d a));
  };
  pending =
      ap (filter (λ t. not ((ticket == t) || confirms h t))) (append-nil (tickets_of h))
      ∙ filter-not_or (λ t. ticket == t) (λ t. confirms h t) (tickets_of h)
      ∙ ap (filter (λ t. not (ticket == t))) agrees.pending
      ∙ sym confirmed.pending;
}

-- what a row shows once the ticket is confirmed
pub held_of-unless_waiting : (row : Option PageRow) (ticket : ℕ) → held_of (unless_waiting row ticket) ≡ held_of row
held_of-unless_waiting None ticket = refl
held_of-unless_waiting (Some row) ticket = by row.ticket row.frame row.rights
  where
    waits : (t frame : ℕ) (rights : Rights) (b : Bool) → held_of (if b then None else Some (record { frame = frame; rights = rights; ticket = Some t })) ≡ None
    waits t frame rights true = refl
    waits t frame rights false = refl

    by : (t : Option ℕ) (frame : ℕ) (rights : Rights)
        → held_of (unless_waiting (Some (record { frame = frame; rights = rights; ticket = t })) ticket) ≡ unless_released t (frame, rights)
    by None frame rights = refl
    by (Some t) frame rights = waits t frame rights (ticket == t)

pub released_of-unless_waiting : (row : Option PageRow) (ticket : ℕ) → released_of (unless_waiting row ticket) ≡ unless_under ticket (released_of row)
released_of-unless_waiting None ticket = refl
released_of-unless_waiting (Some row) ticket = by row.ticket row.frame row.rights
  where
    waits : (t frame : ℕ) (rights : Rights) (b : Bool)
        → released_of (if b then None else Some (record { frame = frame; rights = rights; ticket = Some t })) ≡ (if b then None else Some (t, (frame, rights)))
    waits t frame rights true = refl
    waits t frame rights false = refl

    by : (t : Option ℕ) (frame : ℕ) (rights : Rights)
        → released_of (unless_waiting (Some (record { frame = frame; rights = rights; ticket = t })) ticket)
        ≡ unless_under ticket (if_released t (frame, rights))
    by None frame rights = refl
    by (Some t) frame rights = waits t frame rights (ticket == t)

has_granted_right-unless_waiting : (row : Option PageRow) (ticket : ℕ) → has_granted_right row ≡ true → has_granted_right (unless_waiting row ticket) ≡ true
has_granted_right-unless_waiting None ticket granted = refl
has_granted_right-unless_waiting (Some row) ticket granted = by (waits_for row.ticket ticket)
  where
    by : (b : Bool) → has_granted_right (if b then None else Some row) ≡ true
    by true = refl
    by false = granted

pub AllGranted-confirmed : (old new : Devices) (ticket : ℕ) → AllGranted old → DropsRows old new ticket → AllGranted new
AllGranted-confirmed old new ticket granted drops d a =
    ap has_granted_right (drops d a) ∙ has_granted_right-unless_waiting (row_at old d a) ticket (granted d a)

-- the tickets of the releases that stay
pub tickets-filter : (ticket : ℕ) (s : List Pending) → map (λ p. p.ticket) (filter (is_other ticket) s) ≡ filter (λ t. not (ticket == t)) (map (λ p. p.ticket) s)
tickets-filter ticket [] = refl
tickets-filter ticket (p ∷ s) = by (ticket == p.ticket) refl (tickets-filter ticket s)
  where
    by : (b : Bool) → (ticket == p.ticket) ≡ b → map (λ q. q.ticket) (filter (is_other ticket) s) ≡ filter (λ t. not (ticket == t)) (map (λ q. q.ticket) s)
        → map (λ q. q.ticket) (filter (is_other ticket) (p ∷ s)) ≡ filter (λ t. not (ticket == t)) (map (λ q. q.ticket) (p ∷ s))
    by true e rest = rw e rest
    by false e rest = rw e (ap (λ ts. p.ticket ∷ ts) rest)

-- How one more entry changes what a device may reach.
use Rattle.std.proofs.Common.{◌≡◌, ℕ, ◌⊎◌, inl, inr, Bool, true, false, not, ◌==◌, ◌&&◌, ◌||◌, List, [], ◌∷◌, filter, cond, Contains, Option, None, Some, if◌then◌else◌, refl, sym, ap, ◌∙◌, subst, arith}
use Rattle.std.proofs.lemmas.Bool.{false≢true, eqb-true, and_parts}
use Rattle.std.proofs.lemmas.List.Elements.{Contains-push, Contains-push_cases, Contains-append_cases, Contains-append_left, Contains-append_right}
use Rattle.iom_base.specs.declared.access.AccessKind.{AccessKind}
use Rattle.iom_base.specs.declared.rights.Rights.{Rights}
use Rattle.iom_ledger.specs.declared.entry.HistoryEntry.{HistoryEntry}
use Rattle.iom_ledger.specs.declared.entry.HistoryEntry.TheVariants.{Granted, Released, AllReleased, Confirmed}
use Rattle.iom_ledger.specs.History.{History, Pair, is_about, granted_by, held_at, released_by, released_at, confirms, Holds, Lingers, May}

-- the first element, or one of the others
pub cons_cases : {X : Type 0} (x : X) (xs : List X) (y : X) → Contains (x ∷ xs) y → (x ≡ y) ⊎ Contains xs y
cons_cases x xs y c = elim (Contains-append_cases (x ∷ []) xs y c) [
  | inl first ↦ elim (Contains-push_cases [] x y first) [ inl (k, below, at) ↦ absurd (omega arith) | inr same ↦ inl same ]
  | inr later ↦ inr later
]

pub contains_head : {X : Type 0} (x : X) (xs : List X) → Contains (x ∷ xs) x
contains_head x xs = Contains-append_left (x ∷ []) xs x (Contains-push [] x)

pub contains_tail : {X : Type 0} (x : X) (xs : List X) (y : X) → Contains xs y → Contains (x ∷ xs) y
contains_tail x xs y c = Contains-append_right (x ∷ []) xs y c

-- what a filter keeps was there, and passes
pub contains_from_filter : {X : Type 0} (p : X → Bool) (xs : List X) (x : X) → Contains (filter p xs) x → Contains xs x × (p x ≡ true)
contains_from_filter p [] x (k, below, at) = absurd (omega arith)
contains_from_filter p (a ∷ xs) x c = by (p a) refl c (contains_from_filter p xs x)
  where
    by : (b : Bool) → p a ≡ b → Contains (cond b (a ∷ filter p xs) (filter p xs)) x → (Contains (filter p xs) x → Contains xs x × (p x ≡ true))
        → Contains (a ∷ xs) x × (p x ≡ true)
    by false e h rest = (contains_tail a xs x (rest h).0, (rest h).1)
    by true e h rest = elim (cons_cases a (filter p xs) x h) [
      | inl same ↦ (subst (λ y. Contains (a ∷ xs) y) same (contains_head a xs), subst (λ y. p y ≡ true) same e)
      | inr later ↦ (contains_tail a xs x (rest later).0, (rest later).1)
    ]

-- what passes is kept
pub contains_filter : {X : Type 0} (p : X → Bool) (xs : List X) (x : X) → Contains xs x → p x ≡ true → Contains (filter p xs) x
contains_filter p [] x (k, below, at) passes = absurd (omega arith)
contains_filter p (a ∷ xs) x c passes = by (p a) refl (cons_cases a xs x c) (λ later. contains_filter p xs x later passes)
  where
    by : (b : Bool) → p a ≡ b → (a ≡ x) ⊎ Contains xs x → (Contains xs x → Contains (filter p xs) x) → Contains (cond b (a ∷ filter p xs) (filter p xs)) x
    by false e (inl same) rest = absurd (false≢true (sym e ∙ ap p same ∙ passes))
    by false e (inr later) rest = rest later
    by true e (inl same) rest = subst (λ y. Contains (a ∷ filter p xs) y) same (contains_head a (filter p xs))
    by true e (inr later) rest = contains_tail a (filter p xs) x (rest later)

-- the entry grants the frame to the device
abbrev pub NamesFrame : HistoryEntry → ℕ → ℕ → Type 0
NamesFrame (Granted d a named rights) device frame = (d ≡ device) × (named ≡ frame)
NamesFrame (Released d a ticket) device frame = ⊥
NamesFrame (AllReleased d ticket) device frame = ⊥
NamesFrame (Confirmed ticket) device frame = ⊥

-- a ticket that isn't confirmed was not before
unconfirmed_before : (entry : HistoryEntry) (h : History) (t : ℕ) → not (confirms (entry ∷ h) t) ≡ true → not (confirms h t) ≡ true
unconfirmed_before (Granted d a frame rights) h t u = u
unconfirmed_before (Released d a ticket) h t u = u
unconfirmed_before (AllReleased d ticket) h t u = u
unconfirmed_before (Confirmed ticket) h t u = by (ticket == t) (confirms h t) u
  where
    by : (b c : Bool) → not (b || c) ≡ true → not c ≡ true
    by true c x = absurd (false≢true x)
    by false c x = x

-- what an entry releases was held
pub released_was_held : (entry : HistoryEntry) (held : Option Pair) (t : ℕ) (pair : Pair) → Contains (released_by entry held) (t, pair) → held ≡ Some pair
released_was_held (Granted d a frame rights) held t pair (k, below, at) = absurd (omega arith)
released_was_held (Confirmed ticket) held t pair (k, below, at) = absurd (omega arith)
released_was_held (Released d a ticket) None t pair (k, below, at) = absurd (omega arith)
released_was_held (AllReleased d ticket) None t pair (k, below, at) = absurd (omega arith)
released_was_held (Released d a ticket) (Some p) t pair c = only c
  where
    only : Contains {X = ℕ × Pair} ((ticket, p) ∷ []) (t, pair) → Some p ≡ Some pair
    only c = elim (cons_cases (ticket, p) [] (t, pair) c) [ inl same ↦ ap (λ x. Some x.1) same | inr (k, below, at) ↦ absurd (omega arith) ]
released_was_held (AllReleased d ticket) (Some p) t pair c = only c
  where
    only : Contains {X = ℕ × Pair} ((ticket, p) ∷ []) (t, pair) → Some p ≡ Some pair
    only c = elim (cons_cases (ticket, p) [] (t, pair) c) [ inl same ↦ ap (λ x. Some x.1) same | inr (k, below, at) ↦ absurd (omega arith) ]

-- what lingers was held, or lingered, before
lingers_before : (entry : HistoryEntry) (h : History) (d p : ℕ) (pair : Pair) → Lingers (entry ∷ h) d p pair → Holds h d p pair ⊎ Lingers h d p pair
lingers_before entry h d p pair (t, c) =
    let kept = contains_from_filter _ (released_at (entry ∷ h) d p) (t, pair) c in
    elim (Contains-append_cases (if is_about entry (held_at h d p) d p then released_by entry (held_at h d p) else []) (released_at h d p) (t, pair) kept.0) [
      | inl new ↦ inl (by (is_about entry (held_at h d p) d p) new)
      | inr old ↦ inr (t, contains_filter (λ r. not (confirms h r.0)) (released_at h d p) (t, pair) old (unconfirmed_before entry h t kept.1))
    ]
  where
    by : (b : Bool) → Contains (if b then released_by entry (held_at h d p) else []) (t, pair) → held_at h d p ≡ Some pair
    by true x = released_was_held entry (held_at h d p) t pair x
    by false (k, below, at) = absurd (omega arith)

-- what is held was held before, or is granted to that device now
holds_before : (entry : HistoryEntry) (h : History) (d p frame : ℕ) (rights : Rights) → Holds (entry ∷ h) d p (frame, rights)
    → NamesFrame entry d frame ⊎ Holds h d p (frame, rights)
holds_before entry h d p frame rights holds = by (is_about entry (held_at h d p) d p) refl holds
  where
    granted : (e : HistoryEntry) → is_about e (held_at h d p) d p ≡ true → granted_by e ≡ Some (frame, rights) → NamesFrame e d frame
    granted (Granted x a named r) about same =
        let pairs : ◌≡◌ {A = Pair} (named, r) (frame, rights) = cc in
        (eqb-true x d (and_parts (x == d) (a == p) about).0, ap (λ (pair : Pair). pair.0) pairs)
    granted (Released x a ticket) about same = cc
    granted (AllReleased x ticket) about same = cc
    granted (Confirmed ticket) about same = cc

    by : (b : Bool) → is_about entry (held_at h d p) d p ≡ b → (if b then granted_by entry else held_at h d p) ≡ Some (frame, rights)
        → NamesFrame entry d frame ⊎ Holds h d p (frame, rights)
    by true about x = inl (granted entry about x)
    by false about x = inr x

-- a device reaches a frame only where it did before, or the frame is granted to that device now
pub reach_before : (entry : HistoryEntry) (h : History) (device frame : ℕ) (kind : AccessKind) → May (entry ∷ h) device frame kind
    → NamesFrame entry device frame ⊎ May h device frame kind
reach_before entry h device frame kind (page, rights, reaches, allowed) = elim reaches [
  | inl holds ↦ elim (holds_before entry h device page frame rights holds) [
    | inl named ↦ inl named
    | inr held ↦ inr (page, rights, inl held, allowed)
  ]
  | inr lingers ↦ inr (page, rights, lingers_before entry h device page (frame, rights) lingers, allowed)
]

-- a grant where nothing is held takes nothing away
pub reach_after_grant : (h : History) (d a named : ℕ) (r : Rights) → held_at h d a ≡ None
    → (device frame : ℕ) (kind : AccessKind) → May h device frame kind → May (Granted d a named r ∷ h) device frame kind
reach_after_grant h d a named r empty device frame kind (page, rights, reaches, allowed) = (page, rights, by ((d == device) && (a == page)) refl reaches, allowed)
  where
    by : (b : Bool) → ((d == device) && (a == page)) ≡ b → Holds h device page (frame, rights) ⊎ Lingers h device page (frame, rights)
        → Holds (Granted d a named r ∷ h) device page (frame, rights) ⊎ Lingers (Granted d a named r ∷ h) device page (frame, rights)
    by false e (inl holds) = inl (rw e holds)
    by false e (inr lingers) = inr (rw e lingers)
    by true e (inr lingers) = inr (rw e lingers)
    by true e (inl holds) =
        let parts = and_parts (d == device) (a == page) e in
        let there : held_at h device page ≡ None = subst (λ x. held_at h x page ≡ None) (eqb-true d device parts.0) (subst (λ y. held_at h d y ≡ None) (eqb-true a page parts.1) empty) in
        cc

-- a release under a new ticket takes nothing away yet
pub reach_after_release : (h : History) (d a ticket : ℕ) → confirms h ticket ≡ false
    → (device frame : ℕ) (kind : AccessKind) → May h device frame kind → May (Released d a ticket ∷ h) device frame kind
reach_after_release h d a ticket fresh device frame kind (page, rights, reaches, allowed) = (page, rights, by ((d == device) && (a == page)) refl reaches, allowed)
  where
    by : (b : Bool) → ((d == device) && (a == page)) ≡ b → Holds h device page (frame, rights) ⊎ Lingers h device page (frame, rights)
        → Holds (Released d a ticket ∷ h) device page (frame, rights) ⊎ Lingers (Released d a ticket ∷ h) device page (frame, rights)
    by false e (inl holds) = inl (rw e holds)
    by false e (inr lingers) = inr (rw e lingers)
    by true e (inl holds) = inr (ticket, rw (e, holds, fresh) (contains_head (ticket, (frame, rights)) _))
    by true e (inr lingers) = inr (
      lingers.0,
      rw e (contains_filter (λ r. not (confirms h r.0)) _ (lingers.0, (frame, rights))
          (Contains-append_right _ (released_at h device page) (lingers.0, (frame, rights)) (contains_from_filter _ (released_at h device page) (lingers.0, (frame, rights)) lingers.1).0)
          (contains_from_filter _ (released_at h device page) (lingers.0, (frame, rights)) lingers.1).1),
    )

-- and so does a release of all that the device holds
pub reach_after_release_of_all : (h : History) (d ticket : ℕ) → confirms h ticket ≡ false
    → (device frame : ℕ) (kind : AccessKind) → May h device frame kind → May (AllReleased d ticket ∷ h) device frame kind
reach_after_release_of_all h d ticket fresh device frame kind (page, rights, reaches, allowed) =
    (page, rights, by (d == device) refl (held_at h device page) refl reaches, allowed)
  where
    by : (b : Bool) → (d == device) ≡ b → (held : Option Pair) → held_at h device page ≡ held → Holds h device page (frame, rights) ⊎ Lingers h device page (frame, rights)
        → Holds (AllReleased d ticket ∷ h) device page (frame, rights) ⊎ Lingers (AllReleased d ticket ∷ h) device page (frame, rights)
    by false e held is (inl holds) = inl (rw e holds)
    by false e held is (inr lingers) = inr (rw e lingers)
    by true e held is (inl holds) =
        inr (ticket, rw (e, holds, fresh) (contains_head (ticket, (frame, rights)) (filter (λ r. not (confirms h r.0)) (released_at h device page))))
    by true e None is (inr lingers) = inr (rw (e, is) lingers)
    by true e (Some pair) is (inr lingers) = inr (
      lingers.0,
      rw (e, is) (contains_filter (λ r. not (confirms h r.0)) ((ticket, pair) ∷ released_at h device page) (lingers.0, (frame, rights))
          (contains_tail (ticket, pair) (released_at h device page) (lingers.0, (frame, rights)) (contains_from_filter _ (released_at h device page) (lingers.0, (frame, rights)) lingers.1).0)
          (contains_from_filter _ (released_at h device page) (lingers.0, (frame, rights)) lingers.1).1),
    )

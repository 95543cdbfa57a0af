-- What is held or lingers, after one more entry of the history.
use Rattle.std.proofs.Common.{◌≡◌, ◌≢◌, ℕ, ◌⊎◌, inl, inr, Bool, true, false, not, ◌==◌, ◌&&◌, ◌||◌, [], ◌∷◌, Contains, Option, None, Some, is_some, if◌then◌else◌, refl, sym, ap, ◌∙◌, subst, arith}
use Rattle.std.proofs.lemmas.Bool.{false≢true, eqb-true, and_parts}
use Rattle.std.proofs.lemmas.List.Elements.{Contains-append_cases, Contains-append_right}
use Rattle.iom_base.specs.declared.rights.Rights.{Rights}
use Rattle.iom_ledger.specs.declared.entry.HistoryEntry.{HistoryEntry}
use Rattle.iom_ledger.specs.declared.entry.HistoryEntry.TheVariants.{Granted, Released, AllReleased, Confirmed}
use Rattle.iom_ledger.specs.History.{History, Pair, is_about, held_at, released_by, released_at, lingering_at, confirms, Holds}
use Rattle.iom_coherence.specs.Backing.{ComesFrom, IsBacked}
use Rattle.iom_coherence.specs.Holdings.{AreApart, HoldsOrLingers}
use Rattle.iom_coherence.specs.Scene.{Copy}
use Rattle.iom_coherence.proofs.ListLemmas.{cons_cases, in_none, contains_head, contains_from_filter, contains_filter}

-- it lingers at the page
abbrev pub Lingering : History → ℕ → ℕ → ℕ → Pair → Type 0
Lingering h d a t pair = Contains (lingering_at h d a) (t, pair)

-- of what lingers something else is true too
pub still : (h : History) (S T : ℕ → Type 0) (d a : ℕ) (pair : Pair)
    → ((t : ℕ) → S t → T t) → HoldsOrLingers h S d a pair → HoldsOrLingers h T d a pair
still h S T d a pair go (inl holds) = inl holds
still h S T d a pair go (inr (t, lingers, s)) = inr (t, lingers, go t s)

-- what lingers isn't confirmed
pub unconfirmed : (h : History) (d a t : ℕ) (pair : Pair) → Lingering h d a t pair → not (confirms h t) ≡ true
unconfirmed h d a t pair c = (contains_from_filter (λ r. not (confirms h r.0)) (released_at h d a) (t, pair) c).1

-- what lingered lingers, where the entry confirms no ticket
lingers_on : (entry : HistoryEntry) (h : History) (d a t : ℕ) (pair : Pair) → not (confirms (entry ∷ h) t) ≡ true → Lingering h d a t pair → Lingering (entry ∷ h) d a t pair
lingers_on entry h d a t pair opens c =
    contains_filter (λ r. not (confirms (entry ∷ h) r.0)) (released_at (entry ∷ h) d a) (t, pair)
    (Contains-append_right _ (released_at h d a) (t, pair) (contains_from_filter (λ r. not (confirms h r.0)) (released_at h d a) (t, pair) c).0) opens

-- what lingers after the entry lingered before, or the entry released it
lingered : (entry : HistoryEntry) (h : History) (d a t : ℕ) (pair : Pair) → (not (confirms (entry ∷ h) t) ≡ true → not (confirms h t) ≡ true) → Lingering (entry ∷ h) d a t pair
    → ((is_about entry (held_at h d a) d a ≡ true) × Contains (released_by entry (held_at h d a)) (t, pair)) ⊎ Lingering h d a t pair
lingered entry h d a t pair before c =
    let kept = contains_from_filter (λ r. not (confirms (entry ∷ h) r.0)) (released_at (entry ∷ h) d a) (t, pair) c in
    elim (Contains-append_cases (if is_about entry (held_at h d a) d a then released_by entry (held_at h d a) else []) (released_at h d a) (t, pair) kept.0) [
      | inl new ↦ by (is_about entry (held_at h d a) d a) refl new
      | inr old ↦ inr (contains_filter (λ r. not (confirms h r.0)) (released_at h d a) (t, pair) old (before kept.1))
    ]
  where
    by : (b : Bool) → is_about entry (held_at h d a) d a ≡ b → Contains (if b then released_by entry (held_at h d a) else []) (t, pair)
        → ((is_about entry (held_at h d a) d a ≡ true) × Contains (released_by entry (held_at h d a)) (t, pair)) ⊎ Lingering h d a t pair
    by true e x = inl (e, x)
    by false e x = absurd (in_none (t, pair) x)

-- a grant where nothing is held
pub granted : (h : History) (S : ℕ → Type 0) (device page frame : ℕ) (rights : Rights) → held_at h device page ≡ None
    → (d a : ℕ) (pair : Pair) → HoldsOrLingers h S d a pair → HoldsOrLingers (Granted device page frame rights ∷ h) S d a pair
granted h S device page frame rights empty d a pair (inr (t, lingers, s)) =
    inr (t, lingers_on (Granted device page frame rights) h d a t pair (unconfirmed h d a t pair lingers) lingers, s)
granted h S device page frame rights empty d a pair (inl holds) = by ((device == d) && (page == a)) refl
  where
    by : (b : Bool) → ((device == d) && (page == a)) ≡ b → HoldsOrLingers (Granted device page frame rights ∷ h) S d a pair
    by false e = inl (rw e holds)
    by true e =
        let parts = and_parts (device == d) (page == a) e in
        let there : held_at h d a ≡ None = subst (λ x. held_at h x a ≡ None) (eqb-true device d parts.0) (subst (λ y. held_at h device y ≡ None) (eqb-true page a parts.1) empty) in
        cc

-- the page is given
pub holds_granted : (h : History) (device page frame : ℕ) (rights : Rights) → Holds (Granted device page frame rights ∷ h) device page (frame, rights)
holds_granted h device page frame rights = by (device == device) (page == page) refl refl
  where
    by : (b c : Bool) → (device == device) ≡ b → (page == page) ≡ c → Holds (Granted device page frame rights ∷ h) device page (frame, rights)
    by true true e f = rw (e, f) refl
    by true false e f = grind (arith, e, f)
    by false true e f = grind (arith, e, f)
    by false false e f = grind (arith, e, f)

pub lingers_granted : (h : History) (device page frame : ℕ) (rights : Rights) (d a t : ℕ) (pair : Pair) → Lingering (Granted device page frame rights ∷ h) d a t pair → Lingering h d a t pair
lingers_granted h device page frame rights d a t pair c = elim (lingered (Granted device page frame rights) h d a t pair (λ u. u) c) [
  | inl new ↦ absurd (in_none (t, pair) new.1)
  | inr old ↦ old
]

-- a release under a ticket that isn't confirmed
pub released : (h : History) (S T : ℕ → Type 0) (device page ticket : ℕ) → confirms h ticket ≡ false
    → (d a : ℕ) (pair : Pair) → ((t : ℕ) → S t → T t) → (device ≡ d → page ≡ a → T ticket)
    → HoldsOrLingers h S d a pair → HoldsOrLingers (Released device page ticket ∷ h) T d a pair
released h S T device page ticket fresh d a pair go new (inr (t, lingers, s)) =
    inr (t, lingers_on (Released device page ticket) h d a t pair (unconfirmed h d a t pair lingers) lingers, go t s)
released h S T device page ticket fresh d a pair go new (inl holds) = by ((device == d) && (page == a)) refl
  where
    by : (b : Bool) → ((device == d) && (page == a)) ≡ b → HoldsOrLingers (Released device page ticket ∷ h) T d a pair
    by false e = inl (rw e holds)
    by true e =
        let parts = and_parts (device == d) (page == a) e in
        inr (ticket, rw (e, holds, fresh) (contains_head (ticket, pair) _), new (eqb-true device d parts.0) (eqb-true page a parts.1))

pub lingers_released : (h : History) (device page ticket d a t : ℕ) (pair : Pair) → Lingering (Released device page ticket ∷ h) d a t pair → ((t ≡ ticket) × Holds h d a pair) ⊎ Lingering h d a t pair
lingers_released h device page ticket d a t pair c = elim (lingered (Released device page ticket) h d a t pair (λ u. u) c) [
  | inl new ↦ inl (by (held_at h d a) new.1)
  | inr old ↦ inr old
]
  where
    by : (held : Option Pair) → Contains (released_by (Released device page ticket) held) (t, pair) → (t ≡ ticket) × (held ≡ Some pair)
    by None x = absurd (in_none (t, pair) x)
    by (Some p) x = elim (cons_cases (ticket, p) [] (t, pair) x) [
      | inl same ↦ (sym (ap (λ (y : ℕ × Pair). y.0) same), ap (λ (y : ℕ × Pair). Some y.1) same)
      | inr none ↦ absurd (in_none (t, pair) none)
    ]

-- all that the device held is released under a ticket that isn't confirmed
pub all_released : (h : History) (S T : ℕ → Type 0) (device ticket : ℕ) → confirms h ticket ≡ false
    → (d a : ℕ) (pair : Pair) → ((t : ℕ) → S t → T t) → (device ≡ d → T ticket)
    → HoldsOrLingers h S d a pair → HoldsOrLingers (AllReleased device ticket ∷ h) T d a pair
all_released h S T device ticket fresh d a pair go new (inr (t, lingers, s)) =
    inr (t, lingers_on (AllReleased device ticket) h d a t pair (unconfirmed h d a t pair lingers) lingers, go t s)
all_released h S T device ticket fresh d a pair go new (inl holds) = by (device == d) refl
  where
    by : (b : Bool) → (device == d) ≡ b → HoldsOrLingers (AllReleased device ticket ∷ h) T d a pair
    by false e = inl (rw (holds, e) refl)
    by true e = inr (ticket, rw (holds, e, fresh) (contains_head (ticket, pair) _), new (eqb-true device d e))

pub lingers_all_released : (h : History) (device ticket d a t : ℕ) (pair : Pair) → Lingering (AllReleased device ticket ∷ h) d a t pair → ((t ≡ ticket) × Holds h d a pair) ⊎ Lingering h d a t pair
lingers_all_released h device ticket d a t pair c = elim (lingered (AllReleased device ticket) h d a t pair (λ u. u) c) [
  | inl new ↦ inl (by (held_at h d a) new.1)
  | inr old ↦ inr old
]
  where
    by : (held : Option Pair) → Contains (released_by (AllReleased device ticket) held) (t, pair) → (t ≡ ticket) × (held ≡ Some pair)
    by None x = absurd (in_none (t, pair) x)
    by (Some p) x = elim (cons_cases (ticket, p) [] (t, pair) x) [
      | inl same ↦ (sym (ap (λ (y : ℕ × Pair). y.0) same), ap (λ (y : ℕ × Pair). Some y.1) same)
      | inr none ↦ absurd (in_none (t, pair) none)
    ]

-- the device holds nothing then
pub none_held : (h : History) (device ticket a : ℕ) → held_at (AllReleased device ticket ∷ h) device a ≡ None
none_held h device ticket a = by (device == device) (held_at h device a) refl refl
  where
    by : (b : Bool) (held : Option Pair) → (device == device) ≡ b → held_at h device a ≡ held → held_at (AllReleased device ticket ∷ h) device a ≡ None
    by true None e f = rw (e, f) refl
    by true (Some p) e f = rw (e, f) refl
    by false held e f = grind (arith, e)

-- another device holds what it held
pub held_elsewhere : (h : History) (device ticket d a : ℕ) → (device == d) ≡ false → held_at (AllReleased device ticket ∷ h) d a ≡ held_at h d a
held_elsewhere h device ticket d a e = rw e refl

-- a ticket is confirmed, of which it isn't true
pub confirmed : (h : History) (S T : ℕ → Type 0) (ticket : ℕ) (d a : ℕ) (pair : Pair) → ((t : ℕ) → S t → (ticket ≢ t) × T t)
    → HoldsOrLingers h S d a pair → HoldsOrLingers (Confirmed ticket ∷ h) T d a pair
confirmed h S T ticket d a pair go (inl holds) = inl holds
confirmed h S T ticket d a pair go (inr (t, lingers, s)) =
    inr (t, lingers_on (Confirmed ticket) h d a t pair (by (ticket == t) refl) lingers, (go t s).1)
  where
    by : (b : Bool) → (ticket == t) ≡ b → not (confirms (Confirmed ticket ∷ h) t) ≡ true
    by true e = absurd ((go t s).0 (eqb-true ticket t e))
    by false e = rw e (unconfirmed h d a t pair lingers)

pub lingers_confirmed : (h : History) (ticket d a t : ℕ) (pair : Pair) → Lingering (Confirmed ticket ∷ h) d a t pair → Lingering h d a t pair
lingers_confirmed h ticket d a t pair c = elim (lingered (Confirmed ticket) h d a t pair (before (ticket == t) (confirms h t)) c) [
  | inl new ↦ absurd (in_none (t, pair) new.1)
  | inr old ↦ old
]
  where
    before : (b c : Bool) → not (b || c) ≡ true → not c ≡ true
    before true c x = absurd (false≢true x)
    before false c x = x

-- what held nothing holds nothing after a release
pub none_after_release : (h : History) (device page ticket d a : ℕ) → held_at h d a ≡ None → held_at (Released device page ticket ∷ h) d a ≡ None
none_after_release h device page ticket d a none = by ((device == d) && (page == a)) refl
  where
    by : (b : Bool) → ((device == d) && (page == a)) ≡ b → held_at (Released device page ticket ∷ h) d a ≡ None
    by true e = rw e refl
    by false e = rw e none

pub none_after_all_released : (h : History) (device ticket d a : ℕ) → held_at h d a ≡ None → held_at (AllReleased device ticket ∷ h) d a ≡ None
none_after_all_released h device ticket d a none = by (device == d) refl
  where
    by : (b : Bool) → (device == d) ≡ b → held_at (AllReleased device ticket ∷ h) d a ≡ None
    by true e = rw (none, e) refl
    by false e = rw (e, none) refl

-- nothing is held or lingers
pub never : (h : History) (S : ℕ → Type 0) (d a : ℕ) (pair : Pair) → held_at h d a ≡ None → ((t : ℕ) → Lingering h d a t pair → ⊥) → HoldsOrLingers h S d a pair → ⊥
never h S d a pair none nothing (inl holds) = let both : ◌≡◌ {A = Option Pair} None (Some pair) = sym none ∙ holds in cc
never h S d a pair none nothing (inr (t, lingers, s)) = nothing t lingers

-- Nothing lingers where something is held.

pub apart-granted : (h : History) (device page frame : ℕ) (rights : Rights) → AreApart h → ((released : ℕ × Pair) → ¬ Contains (lingering_at h device page) released)
    → AreApart (Granted device page frame rights ∷ h)
apart-granted h device page frame rights apart free d a t held was holds lingers = by ((device == d) && (page == a)) refl
  where
    old : Lingering h d a t was
    old = lingers_granted h device page frame rights d a t was lingers

    by : (b : Bool) → ((device == d) && (page == a)) ≡ b → ⊥
    by true e =
        let parts = and_parts (device == d) (page == a) e in
        free (t, was) (subst (λ x. Contains (lingering_at h x page) (t, was)) (sym (eqb-true device d parts.0)) (subst (λ y. Contains (lingering_at h d y) (t, was)) (sym (eqb-true page a parts.1)) old))
    by false e = apart d a t held was (subst (λ b. (if b then Some (frame, rights) else held_at h d a) ≡ Some held) e holds) old

pub apart-released : (h : History) (device page ticket : ℕ) → AreApart h → AreApart (Released device page ticket ∷ h)
apart-released h device page ticket apart d a t held was holds lingers = by ((device == d) && (page == a)) refl
  where
    by : (b : Bool) → ((device == d) && (page == a)) ≡ b → ⊥
    by true e = let none : ◌≡◌ {A = Option Pair} None (Some held) = subst (λ b. (if b then None else held_at h d a) ≡ Some held) e holds in cc
    by false e = elim (lingered (Released device page ticket) h d a t was (λ u. u) lingers) [
      | inl new ↦ absurd (false≢true (sym e ∙ new.0))
      | inr old ↦ apart d a t held was (subst (λ b. (if b then None else held_at h d a) ≡ Some held) e holds) old
    ]

pub apart-all_released : (h : History) (device ticket : ℕ) → AreApart h → AreApart (AllReleased device ticket ∷ h)
apart-all_released h device ticket apart d a t held was holds lingers = by (device == d) refl
  where
    by : (b : Bool) → (device == d) ≡ b → ⊥
    by true e =
        let gone : held_at (AllReleased device ticket ∷ h) d a ≡ None = subst (λ x. held_at (AllReleased device ticket ∷ h) x a ≡ None) (eqb-true device d e) (none_held h device ticket a) in
        let none : ◌≡◌ {A = Option Pair} None (Some held) = sym gone ∙ holds in cc
    by false e = elim (lingered (AllReleased device ticket) h d a t was (λ u. u) lingers) [
      | inl new ↦ absurd (false≢true (sym e ∙ (and_parts (device == d) (is_some (held_at h d a)) new.0).0))
      | inr old ↦ apart d a t held was (sym (held_elsewhere h device ticket d a e) ∙ holds) old
    ]

pub apart-confirmed : (h : History) (ticket : ℕ) → AreApart h → AreApart (Confirmed ticket ∷ h)
apart-confirmed h ticket apart d a t held was holds lingers = apart d a t held was holds (lingers_confirmed h ticket d a t was lingers)

-- what is held or lingers where this is held is this
pub current : (h : History) (S : ℕ → Type 0) (d a : ℕ) (pair held : Pair) → AreApart h → Holds h d a held → HoldsOrLingers h S d a pair → pair ≡ held
current h S d a pair held apart holds (inl here) = let both : ◌≡◌ {A = Option Pair} (Some pair) (Some held) = sym here ∙ holds in cc
current h S d a pair held apart holds (inr (t, lingers, s)) = absurd (apart d a t held pair holds lingers)

-- What a copy comes from, after more entries.

-- where the pair that it comes from goes on so, the copy does
pub backed : (two : Bool) (h g : History) (S T : ℕ → Type 0) (copy : Copy)
    → ((granted : ℕ) (rights : Rights) → ComesFrom two granted rights copy.page copy.pair.1 → HoldsOrLingers h S copy.device granted (copy.pair.0, rights)
    → HoldsOrLingers g T copy.device granted (copy.pair.0, rights))
    → IsBacked two h S copy → IsBacked two g T copy
backed two h g S T copy go (granted, rights, comes, old) = (granted, rights, comes, go granted rights comes old)

-- in as many stages
pub backed-as : (now was : Bool) (h : History) (S : ℕ → Type 0) (copy : Copy) → now ≡ was → IsBacked was h S copy → IsBacked now h S copy
backed-as now was h S copy same old = subst (λ both. IsBacked both h S copy) (sym same) old

pub backed-still : (two : Bool) (h : History) (S T : ℕ → Type 0) (copy : Copy) → ((t : ℕ) → S t → T t) → IsBacked two h S copy → IsBacked two h T copy
backed-still two h S T copy go old = backed two h h S T copy (λ a r comes was. still h S T copy.device a (copy.pair.0, r) go was) old

-- nothing is held or lingers
pub backed-never : (two : Bool) (h : History) (S : ℕ → Type 0) (copy : Copy) → ((a : ℕ) → held_at h copy.device a ≡ None)
    → ((a t : ℕ) (pair : Pair) → Lingering h copy.device a t pair → ⊥) → IsBacked two h S copy → ⊥
backed-never two h S copy none nothing (a, r, comes, old) = never h S copy.device a (copy.pair.0, r) (none a) (λ t c. nothing a t (copy.pair.0, r) c) old

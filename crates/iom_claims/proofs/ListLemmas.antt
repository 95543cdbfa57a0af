-- What a list contains, once some of it is dropped, and what a search in it finds.
use Rattle.std.proofs.Common.{◌≡◌, ◌⊎◌, inl, inr, Bool, true, false, ◌||◌, List, [], ◌∷◌, filter, find, cond, Contains, None, Some, refl, sym, ap, ◌∙◌, subst, arith}
use Rattle.std.specs.List.{list_any}
use Rattle.std.proofs.lemmas.Bool.{false≢true}
use Rattle.std.proofs.lemmas.List.Elements.{Contains-push, Contains-push_cases, Contains-append_cases, Contains-append_left, Contains-append_right}

-- the first element, or one of the others
pub cons_cases : {X : Type 0} (x : X) (xs : List X) (y : X) → Contains (x ∷ xs) y → (x ≡ y) ⊎ Contains xs y
cons_cases x xs y c = elim (Contains-append_cases (x ∷ []) xs y c) [
  | inl first ↦ elim (Contains-push_cases [] x y first) [ inl (k, below, at) ↦ absurd (omega arith) | inr same ↦ inl same ]
  | inr later ↦ inr later
]

pub contains_head : {X : Type 0} (x : X) (xs : List X) → Contains (x ∷ xs) x
contains_head x xs = Contains-append_left (x ∷ []) xs x (Contains-push [] x)

pub contains_tail : {X : Type 0} (x : X) (xs : List X) (y : X) → Contains xs y → Contains (x ∷ xs) y
contains_tail x xs y c = Contains-append_right (x ∷ []) xs y c

-- what a filter keeps was there, and passes
pub contains_from_filter : {X : Type 0} (p : X → Bool) (xs : List X) (x : X) → Contains (filter p xs) x → Contains xs x × (p x ≡ true)
contains_from_filter p [] x (k, below, at) = absurd (omega arith)
contains_from_filter p (a ∷ xs) x c = by (p a) refl c (contains_from_filter p xs x)
  where
    by : (b : Bool) → p a ≡ b → Contains (cond b (a ∷ filter p xs) (filter p xs)) x → (Contains (filter p xs) x → Contains xs x × (p x ≡ true))
        → Contains (a ∷ xs) x × (p x ≡ true)
    by false e h rest = (contains_tail a xs x (rest h).0, (rest h).1)
    by true e h rest = elim (cons_cases a (filter p xs) x h) [
      | inl same ↦ (subst (λ y. Contains (a ∷ xs) y) same (contains_head a xs), subst (λ y. p y ≡ true) same e)
      | inr later ↦ (contains_tail a xs x (rest later).0, (rest later).1)
    ]

-- what passes is kept
pub contains_filter : {X : Type 0} (p : X → Bool) (xs : List X) (x : X) → Contains xs x → p x ≡ true → Contains (filter p xs) x
contains_filter p [] x (k, below, at) passes = absurd (omega arith)
contains_filter p (a ∷ xs) x c passes = by (p a) refl (cons_cases a xs x c) (λ later. contains_filter p xs x later passes)
  where
    by : (b : Bool) → p a ≡ b → (a ≡ x) ⊎ Contains xs x → (Contains xs x → Contains (filter p xs) x) → Contains (cond b (a ∷ filter p xs) (filter p xs)) x
    by false e (inl same) rest = absurd (false≢true (sym e ∙ ap p same ∙ passes))
    by false e (inr later) rest = rest later
    by true e (inl same) rest = subst (λ y. Contains (a ∷ filter p xs) y) same (contains_head a (filter p xs))
    by true e (inr later) rest = contains_tail a (filter p xs) x (rest later)

-- what a search finds is there, and passes
pub found_by : {X : Type 0} (p : X → Bool) (xs : List X) (x : X) → find p xs ≡ Some x → Contains xs x × (p x ≡ true)
found_by p [] x found = cc
found_by p (a ∷ xs) x found = by (p a) refl found (found_by p xs x)
  where
    by : (b : Bool) → p a ≡ b → cond b (Some a) (find p xs) ≡ Some x → (find p xs ≡ Some x → Contains xs x × (p x ≡ true)) → Contains (a ∷ xs) x × (p x ≡ true)
    by true e here rest = let same : a ≡ x = cc in (subst (λ y. Contains (a ∷ xs) y) same (contains_head a xs), subst (λ y. p y ≡ true) same e)
    by false e there rest = (contains_tail a xs x (rest there).0, (rest there).1)

-- where it finds nothing, nothing passes
pub none_by : {X : Type 0} (p : X → Bool) (xs : List X) → find p xs ≡ None → (x : X) → Contains xs x → p x ≡ false
none_by p [] none x (k, below, at) = absurd (omega arith)
none_by p (a ∷ xs) none x c = by (p a) refl none (cons_cases a xs x c) (λ there later. none_by p xs there x later)
  where
    by : (b : Bool) → p a ≡ b → cond b (Some a) (find p xs) ≡ None → (a ≡ x) ⊎ Contains xs x → (find p xs ≡ None → Contains xs x → p x ≡ false) → p x ≡ false
    by true e some c rest = cc
    by false e none (inl same) rest = sym (ap p same) ∙ e
    by false e none (inr later) rest = rest none later

-- where any passes, some element does
pub passing_from_any : {X : Type 0} (p : X → Bool) (xs : List X) → list_any p xs ≡ true → (x : X) × Contains xs x × (p x ≡ true)
passing_from_any p [] any = absurd (false≢true any)
passing_from_any {X} p (a ∷ xs) any = by (p a) refl any (passing_from_any p xs)
  where
    by : (b : Bool) → p a ≡ b → (b || list_any p xs) ≡ true → (list_any p xs ≡ true → (x : X) × Contains xs x × (p x ≡ true)) → (x : X) × Contains (a ∷ xs) x × (p x ≡ true)
    by true e any rest = (a, contains_head a xs, e)
    by false e any rest = let (x, c, passes) = rest any in (x, contains_tail a xs x c, passes)

-- and the other way round
pub any_from_passing : {X : Type 0} (p : X → Bool) (xs : List X) (x : X) → Contains xs x → p x ≡ true → list_any p xs ≡ true
any_from_passing p [] x (k, below, at) passes = absurd (omega arith)
any_from_passing p (a ∷ xs) x c passes = by (p a) refl (cons_cases a xs x c) (λ later. any_from_passing p xs x later passes)
  where
    by : (b : Bool) → p a ≡ b → (a ≡ x) ⊎ Contains xs x → (Contains xs x → list_any p xs ≡ true) → (b || list_any p xs) ≡ true
    by true e c rest = refl
    by false e (inl same) rest = absurd (false≢true (sym e ∙ ap p same ∙ passes))
    by false e (inr later) rest = rest later

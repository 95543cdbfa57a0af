-- What lists contain.
use Rattle.std.proofs.Common.{zero, suc, ◌≡◌, ◌⊎◌, inl, inr, ℕ, Bool, true, false, List, [], ◌∷◌, filter, map, drop, cond, remove, slice_get, Contains, Some, subst, arith}
use Rattle.std.proofs.lemmas.List.Elements.{Contains-push_cases, Contains-append_cases}
use Rattle.iom_reach.proofs.TransitionLemmas.{contains_head, contains_tail}

pub in_none : {X : Type 0} (x : X) → Contains [] x → ⊥
in_none x (k, below, at) = absurd (omega arith)

-- the first element, or one of the others
pub cons_cases : {X : Type 0} (x : X) (xs : List X) (y : X) → Contains (x ∷ xs) y → (x ≡ y) ⊎ Contains xs y
cons_cases x xs y c = elim (Contains-append_cases (x ∷ []) xs y c) [
  | inl first ↦ elim (Contains-push_cases [] x y first) [ inl none ↦ absurd (in_none y none) | inr same ↦ inl same ]
  | inr later ↦ inr later
]

pub contains_map : {X Y : Type 0} (f : X → Y) (xs : List X) (x : X) → Contains xs x → Contains (map f xs) (f x)
contains_map f [] x c = absurd (in_none x c)
contains_map f (a ∷ xs) x c = elim (cons_cases a xs x c) [
  | inl same ↦ subst (λ y. Contains (f a ∷ map f xs) (f y)) same (contains_head (f a) (map f xs))
  | inr later ↦ contains_tail (f a) (map f xs) (f x) (contains_map f xs x later)
]

pub map_cases : {X Y : Type 0} (f : X → Y) (xs : List X) (y : Y) → Contains (map f xs) y → (x : X) × Contains xs x × (f x ≡ y)
map_cases f [] y c = absurd (in_none y c)
map_cases f (a ∷ xs) y c = elim (cons_cases (f a) (map f xs) y c) [
  | inl same ↦ (a, contains_head a xs, same)
  | inr later ↦ let (x, there, is) = map_cases f xs y later in (x, contains_tail a xs x there, is)
]

-- where each element is another's, so is what they are mapped to
pub map_among : {X Y : Type 0} (f : X → Y) (some all : List X) → ((x : X) → Contains some x → Contains all x) → (y : Y) → Contains (map f some) y → Contains (map f all) y
map_among f some all among y c =
    let (x, there, is) = map_cases f some y c in
    subst (λ z. Contains (map f all) z) is (contains_map f all x (among x there))

pub remove_among : {X : Type 0} (xs : List X) (place : ℕ) (x : X) → Contains (remove xs place) x → Contains xs x
remove_among [] zero x c = c
remove_among [] (suc place) x c = c
remove_among (a ∷ xs) zero x c = contains_tail a xs x c
remove_among (a ∷ xs) (suc place) x c = elim (cons_cases a (remove xs place) x c) [
  | inl same ↦ subst (λ y. Contains (a ∷ xs) y) same (contains_head a xs)
  | inr later ↦ contains_tail a xs x (remove_among xs place x later)
]

pub drop_among : {X : Type 0} (n : ℕ) (xs : List X) (x : X) → Contains (drop n xs) x → Contains xs x
drop_among zero xs x c = c
drop_among (suc n) [] x c = c
drop_among (suc n) (a ∷ xs) x c = contains_tail a xs x (drop_among n xs x c)

pub filter_among : {X : Type 0} (p : X → Bool) (xs : List X) (x : X) → Contains (filter p xs) x → Contains xs x
filter_among p [] x c = absurd (in_none x c)
filter_among p (a ∷ xs) x c = by (p a) c (filter_among p xs x)
  where
    by : (b : Bool) → Contains (cond b (a ∷ filter p xs) (filter p xs)) x → (Contains (filter p xs) x → Contains xs x) → Contains (a ∷ xs) x
    by false h rest = contains_tail a xs x (rest h)
    by true h rest = elim (cons_cases a (filter p xs) x h) [
      | inl same ↦ subst (λ y. Contains (a ∷ xs) y) same (contains_head a xs)
      | inr later ↦ contains_tail a xs x (rest later)
    ]

pub get_contains : {X : Type 0} (xs : List X) (place : ℕ) (x : X) → slice_get xs place ≡ Some x → Contains xs x
get_contains [] place x at = absurd (cc)
get_contains (a ∷ xs) zero x at = subst (λ y. Contains (a ∷ xs) y) (let same : Some a ≡ Some x = at in cc) (contains_head a xs)
get_contains (a ∷ xs) (suc place) x at = contains_tail a xs x (get_contains xs place x at)

-- two functions with the same values are the same
pub same_function : {A B : Type 0} (f g : A → B) → ((x : A) → f x ≡ g x) → f ≡ g
same_function f g same = λ i x. same x i

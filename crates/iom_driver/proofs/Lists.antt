-- Items of a list after one is set, or one more is there.
use Rattle.std.proofs.Common.{suc, zero, ◌≡◌, ◌≢◌, ◌==◌, ◌<◌, ◌⊎◌, ◌∙◌, ℕ, false, List, [], ◌∷◌, ◌++◌, take, length, Option, None, Some, IfSome, slice_get, set, get_or, replicate, refl, sym, ap, inl, inr, arith}
use Rattle.std.proofs.lemmas.Bool.Decides.{eqb_tells}
use Rattle.std.proofs.lemmas.List.{length-set, get_or-set_same, get_or-set_other}
use Rattle.std.proofs.lemmas.Option.{slice_get_read, slice_get_cases, slice_get_past, slice_get-get_or, get_or_from_slice_get}

-- the item that was set
pub get_set_same : {X : Type 0} (xs : List X) (i : ℕ) (x : X) → i < length xs → slice_get (set xs i x) i ≡ Some x
get_set_same xs i x lt = slice_get_read (set xs i x) (length (set xs i x)) i x refl (rw (length-set xs i x) lt) (sym (get_or-set_same xs i x x lt))

-- the others
pub get_set_other : {X : Type 0} (xs : List X) (i k : ℕ) (x : X) → k ≢ i → slice_get (set xs i x) k ≡ slice_get xs k
get_set_other xs i k x ne =
    elim ((slice_get_cases xs k).1) [
      | inl y ↦ slice_get-get_or (set xs i x) k x (rw (length-set xs i x) y.1) ∙ ap Some (get_or-set_other xs i k x x ne) ∙ sym (slice_get-get_or xs k x y.1)
      | inr y ↦ slice_get_past (set xs i x) k (rw (length-set xs i x) y.0) ∙ sym y.1
    ]

-- an item that is there stands below the length
pub get_within : {X : Type 0} (xs : List X) (k : ℕ) (x : X) → slice_get xs k ≡ Some x → k < length xs
get_within [] k x at = cc
get_within (y ∷ xs) zero x at = omega arith
get_within (y ∷ xs) (suc k) x at = omega (arith, get_within xs k x at)

-- an item below the length is there
pub get_there : {X : Type 0} (xs : List X) (k : ℕ) → k < length xs → (x : X) × (slice_get xs k ≡ Some x)
get_there [] k lt = absurd (omega arith)
get_there (y ∷ xs) zero lt = (y, refl)
get_there (y ∷ xs) (suc k) lt = get_there xs k (omega arith)

-- each of some copies
pub get_replicate : {X : Type 0} (n k : ℕ) (x : X) → k < n → slice_get (replicate n x) k ≡ Some x
get_replicate zero k x lt = absurd (omega arith)
get_replicate (suc n) zero x lt = refl
get_replicate (suc n) (suc k) x lt = get_replicate n k x (omega arith)

-- the item that is read at an index
pub read_is : {X : Type 0} (xs : List X) (k : ℕ) (x y : X) → slice_get xs k ≡ Some x → y ≡ get_or xs k y → y ≡ x
read_is xs k x y at read = read ∙ get_or_from_slice_get xs k x y at

-- two different numbers don't compare equal
pub differs : (a b : ℕ) → a ≢ b → (a == b) ≡ false
differs a b ne = elim (eqb_tells a b) [ inl e ↦ absurd (ne e.1) | inr n ↦ n.0 ]

-- an item of a list with one set is that one, or as it was
pub get_set : {X : Type 0} (xs : List X) (i k : ℕ) (x y : X) → i < length xs → slice_get (set xs i x) k ≡ Some y → ((k ≡ i) × (y ≡ x)) ⊎ ((k ≢ i) × (slice_get xs k ≡ Some y))
get_set xs i k x y lt at =
    elim (eqb_tells k i) [
      | inl e ↦ inl (e.1, (let same : Some x ≡ Some y = sym (get_set_same xs i x lt) ∙ ap (λ j. slice_get (set xs i x) j) (sym e.1) ∙ at in (let back : x ≡ y = cc in sym back)))
      | inr ne ↦ inr (ne.1, sym (get_set_other xs i k x ne.1) ∙ at)
    ]

-- two lists of the same items
pub same_items : {X : Type 0} (xs ys : List X) → ((k : ℕ) → slice_get xs k ≡ slice_get ys k) → xs ≡ ys
same_items [] [] same = refl
same_items {X = X} [] (y ∷ ys) same = absurd (none_some y (same 0))
  where
    none_some : (y : X) → ◌≡◌ {A = Option X} None (Some y) → ⊥
    none_some y e = cc
same_items {X = X} (x ∷ xs) [] same = absurd (some_none x (same 0))
  where
    some_none : (x : X) → ◌≡◌ {A = Option X} (Some x) None → ⊥
    some_none x e = cc
same_items {X = X} (x ∷ xs) (y ∷ ys) same =
    let first : ◌≡◌ {A = Option X} (Some x) (Some y) = same 0 in
    let head : x ≡ y = cc in
    ap (λ z. z ∷ xs) head ∙ ap (λ zs. y ∷ zs) (same_items xs ys (λ k. same (suc k)))

-- one item more of a list's beginning
pub take_more : {X : Type 0} (xs : List X) (k : ℕ) (x : X) → slice_get xs k ≡ Some x → take (suc k) xs ≡ take k xs ++ x ∷ []
take_more [] k x at = cc
take_more (y ∷ ys) zero x at = let same : y ≡ x = cc in ap (λ z. z ∷ []) same
take_more (y ∷ ys) (suc k) x at = ap (λ zs. y ∷ zs) (take_more ys k x at)

-- what holds of the value that is there
pub of_some : {A : Type 0} (P : A → Type 0) (o : Option A) (x : A) → o ≡ Some x → IfSome o P → P x
of_some P o x is holds = rw is at holds

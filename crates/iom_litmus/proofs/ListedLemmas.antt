-- What stands in a list that grows, and in the front of one.
use Rattle.std.proofs.Common.{◌≡◌, ◌⊎◌, inl, inr, ℕ, ◌+◌, ◌<◌, ◌≤◌, zero, suc, List, [], ◌∷◌, ◌++◌, length, take, drop, get_or, refl, sym, ap, ◌∙◌, subst, arith, add-one}
use Rattle.iom_litmus.specs.Listed.{IsListed, AreListedOnce, KeepsListed}

pub IsListed-push : {X : Type 0} (xs : List X) (y x : X) → IsListed xs x → IsListed (xs ++ y ∷ []) x
IsListed-push [] y x listed = absurd listed
IsListed-push (first ∷ rest) y x (inl same) = inl same
IsListed-push (first ∷ rest) y x (inr listed) = inr (IsListed-push rest y x listed)

pub last_is_listed : {X : Type 0} (xs : List X) (y : X) → IsListed (xs ++ y ∷ []) y
last_is_listed [] y = inl refl
last_is_listed (first ∷ rest) y = inr (last_is_listed rest y)

pub IsListed-push_cases : {X : Type 0} (xs : List X) (y x : X) → IsListed (xs ++ y ∷ []) x → IsListed xs x ⊎ (y ≡ x)
IsListed-push_cases [] y x (inl same) = inr same
IsListed-push_cases [] y x (inr listed) = absurd listed
IsListed-push_cases (first ∷ rest) y x (inl same) = inl (inl same)
IsListed-push_cases (first ∷ rest) y x (inr listed) = elim (IsListed-push_cases rest y x listed) [ inl there ↦ inl (inr there) | inr same ↦ inr same ]

pub AreListedOnce-push : {X : Type 0} (xs : List X) (y : X) → AreListedOnce xs → ¬ IsListed xs y → AreListedOnce (xs ++ y ∷ [])
AreListedOnce-push [] y once new = (λ none. none, tt)
AreListedOnce-push (first ∷ rest) y (apart, once) new =
    ((λ listed. elim (IsListed-push_cases rest y first listed) [ inl there ↦ apart there | inr same ↦ new (inl (sym same)) ]), AreListedOnce-push rest y once (λ there. new (inr there)))

pub KeepsListed-push : {X : Type 0} (first old new : List X) (x : X) → KeepsListed first old → new ≡ old ++ x ∷ [] → KeepsListed first new
KeepsListed-push first old new x keeps is y listed = subst (λ xs. IsListed xs y) (sym is) (IsListed-push old x y (keeps y listed))

pub pushed_is_listed : {X : Type 0} (old new : List X) (x : X) → new ≡ old ++ x ∷ [] → IsListed new x
pushed_is_listed old new x is = subst (λ xs. IsListed xs x) (sym is) (last_is_listed old x)

-- what stands at a place of a list
pub at_is_listed : {X : Type 0} (xs : List X) (k : ℕ) (d x : X) → k < length xs → get_or xs k d ≡ x → IsListed xs x
at_is_listed [] k d x within at = absurd (omega arith)
at_is_listed (first ∷ rest) zero d x within at = inl at
at_is_listed (first ∷ rest) (suc k) d x within at = inr (at_is_listed rest k d x (omega arith) at)

taken_cases : {X : Type 0} (xs : List X) (k : ℕ) (d x : X) → k < length xs → IsListed (take (suc k) xs) x → IsListed (take k xs) x ⊎ (get_or xs k d ≡ x)
taken_cases [] k d x within listed = absurd (omega arith)
taken_cases (first ∷ rest) zero d x within (inl same) = inr same
taken_cases (first ∷ rest) zero d x within (inr listed) = absurd listed
taken_cases (first ∷ rest) (suc k) d x within (inl same) = inl (inl same)
taken_cases (first ∷ rest) (suc k) d x within (inr listed) = elim (taken_cases rest k d x (omega arith) listed) [ inl there ↦ inl (inr there) | inr same ↦ inr same ]

-- of the first elements of a list, one more
pub more_taken_cases : {X : Type 0} (xs : List X) (k : ℕ) (d x : X) → k < length xs → IsListed (take (k + 1) xs) x → IsListed (take k xs) x ⊎ (get_or xs k d ≡ x)
more_taken_cases xs k d x within listed = taken_cases xs k d x within (subst (λ n. IsListed (take n xs) x) (add-one k) listed)

pub none_is_taken : {X : Type 0} (xs : List X) (x : X) → ¬ IsListed (take 0 xs) x
none_is_taken [] x listed = listed
none_is_taken (first ∷ rest) x listed = listed

pub all_are_taken : {X : Type 0} (xs : List X) (x : X) → IsListed xs x → IsListed (take (length xs) xs) x
all_are_taken [] x listed = listed
all_are_taken (first ∷ rest) x (inl same) = inl same
all_are_taken (first ∷ rest) x (inr listed) = inr (all_are_taken rest x listed)

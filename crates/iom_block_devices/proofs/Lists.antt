-- Items of lists by their places.
use Rattle.std.proofs.Common.{suc, zero, ◌≡◌, ◌≢◌, ◌==◌, ◌<◌, ℕ, false, List, [], ◌∷◌, length, Some, slice_get, refl, arith, inl, inr}
use Rattle.std.proofs.lemmas.Bool.Decides.{eqb_tells}

-- an item below the length is there
pub get_there : {X : Type 0} (xs : List X) (k : ℕ) → k < length xs → (x : X) × (slice_get xs k ≡ Some x)
get_there [] k lt = absurd (omega arith)
get_there (y ∷ xs) zero lt = (y, refl)
get_there (y ∷ xs) (suc k) lt = get_there xs k (omega arith)

-- and one that is there stands below it
pub get_lt : {X : Type 0} (xs : List X) (k : ℕ) (x : X) → slice_get xs k ≡ Some x → k < length xs
get_lt [] k x at = cc
get_lt (y ∷ xs) zero x at = omega arith
get_lt (y ∷ xs) (suc k) x at = let rest = get_lt xs k x at in omega (arith, rest)

-- two different numbers don't compare equal
pub differs : (a b : ℕ) → a ≢ b → (a == b) ≡ false
differs a b ne = elim (eqb_tells a b) [ inl e ↦ absurd (ne e.1) | inr n ↦ n.0 ]

-- Whether a frame is in a list.
use Rattle.std.proofs.Common.{◌≡◌, ◌&&◌, ◌||◌, ℕ, Bool, true, false, not, List, [], ◌∷◌, ◌++◌, refl, nat_eq}
use Rattle.iom_judge.specs.Happenings.{is_in}

either : (t p q r : Bool) → p ≡ (q || r) → (t || p) ≡ ((t || q) || r)
either true p q r same = refl
either false p q r same = same

-- in either of two lists, or in both, one behind the other
pub is_in_both : (frame : ℕ) (first second : List ℕ) → is_in frame (first ++ second) ≡ (is_in frame first || is_in frame second)
is_in_both frame [] second = refl
is_in_both frame (it ∷ rest) second = either (nat_eq it frame) (is_in frame (rest ++ second)) (is_in frame rest) (is_in frame second) (is_in_both frame rest second)

-- neither the one nor the other
pub neither : (g p q : Bool) → ((g && not p) && not q) ≡ (g && not (p || q))
neither true true q = refl
neither true false q = refl
neither false p q = refl

-- What a mask over an entry's eight flags says of each of them. All 256 are gone through.
use Rattle.std.proofs.Common.{◌≡◌, ◌==◌, ◌&&◌, ◌||◌, ◌<◌, ℕ, Bool, not, true, refl, sym, ap, ◌∙◌}
use Rattle.std.specs.Int.RustNames.{bit_and}
use Rattle.std.proofs.lemmas.Bool.{agree_below_at, eq-eqb}

-- whether the flag is among these
abbrev has : ℕ → ℕ → Bool
has flags flag = bit_and flags flag == flag

-- V isn't among these, W is without R, or no reserved bit may be set and one is
abbrev invalid : Bool → ℕ → Bool
invalid unreserved f = not (has f 1) || ((has f 4 && not (has f 2)) || not unreserved)

abbrev pointer : ℕ → Bool
pointer f = not (has f 2) && not (has f 8)

abbrev clean : ℕ → Bool
clean f = not (has f 64) && (not (has f 128) && not (has f 16))

abbrev user_leaf : ℕ → Bool
user_leaf f = has f 2 && (has f 16 && has f 64)

-- of V, R, W, X, U, A and D there is V alone
pub pointer_mask : (f r : ℕ) → f < 256 → r ≡ 0
    → (bit_and f 223 == 1) ≡ (not (invalid (r == 0) f) && (pointer f && clean f))
pointer_mask f r small none =
    agree_below_at (λ f. bit_and f 223 == 1) (λ f. not (invalid true f) && (pointer f && clean f)) 256 f refl small
    ∙ ap (λ b. not (invalid b f) && (pointer f && clean f)) (sym (eq-eqb r 0 none))

-- V, R, U and A are there
pub leaf_mask : (f r : ℕ) → f < 256 → r ≡ 0
    → (bit_and f 83 == 83) ≡ (not (invalid (r == 0) f) && (not (pointer f) && user_leaf f))
leaf_mask f r small none =
    agree_below_at (λ f. bit_and f 83 == 83) (λ f. not (invalid true f) && (not (pointer f) && user_leaf f)) 256 f refl small
    ∙ ap (λ b. not (invalid b f) && (not (pointer f) && user_leaf f)) (sym (eq-eqb r 0 none))

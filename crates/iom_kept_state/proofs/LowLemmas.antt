-- The frames that were ever granted have numbers of 40 bits.
use Rattle.std.proofs.Common.{◌≡◌, ℕ, ◌<◌, ◌^◌, Bool, true, false, List, All, length, get_or, nat_lt, refl, subst, arith}
use Rattle.std.proofs.lemmas.Bool.Decides.{nat_tests}
use Rattle.std.proofs.lemmas.List.{get_or_past}
use Rattle.iom_kept_state.specs.Grants.{frame_at_place}
use Rattle.iom_kept_state.proofs.PastLemmas.{IsNamedAt}

-- each of these is low
abbrev pub AreLow : List ℕ → Type 0
AreLow names = All (λ (frame : ℕ). frame < 2 ^ 40) names

-- what stands at a place is low, as is 0, which stands where nothing does
pub low_at_place : (names : List ℕ) (place : ℕ) → AreLow names → frame_at_place names place < 2 ^ 40
low_at_place names place all = by (nat_lt place (length names)) refl
  where
    zero_low : (frame : ℕ) → frame ≡ 0 → frame < 2 ^ 40
    zero_low frame zero = omega arith

    by : (b : Bool) → nat_lt place (length names) ≡ b → frame_at_place names place < 2 ^ 40
    by true within = all place 0 (grind (arith, nat_tests))
    by false past = zero_low (get_or names place 0) (get_or_past names place 0 (grind (arith, nat_tests)))

-- a frame that has a place is low
pub low_where_named : (names : List ℕ) (place frame : ℕ) → AreLow names → IsNamedAt names place frame → frame < 2 ^ 40
low_where_named names place frame all named = subst (λ (f : ℕ). f < 2 ^ 40) named.named (low_at_place names place all)

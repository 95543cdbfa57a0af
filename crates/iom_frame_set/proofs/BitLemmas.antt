-- Bits of one word.
use Rattle.std.proofs.Common.{◌≡◌, ◌↔◌, ◌⊎◌, inl, inr, ℕ, suc, ◌+◌, ◌-◌, ◌*◌, ◌^◌, ◌%◌, ◌<◌, ◌≤◌, min, bit_and, sym, ap, ◌∙◌, subst, arith}
use Rattle.std.proofs.Math.Nat.{pow-succ'}
use Rattle.std.specs.Int.{bit_at}
use Rattle.std.specs.Int.Count.{count_leading_zeros}
use Rattle.std.proofs.lemmas.Bool.{cases_lt}
use Rattle.std.proofs.lemmas.Nat.{one_shl, leading_top}
use Rattle.std.proofs.lemmas.Nat.Bits.{bit_at_and, bit_at-lt, bit_at_ones, bit_at_ones_above, bit_at_above, bit_at_cat_high}
use Rattle.iom_frame_set.specs.Spans.{IsHighestBit}

-- the bits of 2 ^ place - 1
pub ones_are_below : (place k : ℕ) → place < 64 → (bit_at (1 * 2 ^ place % 2 ^ 64 - 1) k ≡ 1) ↔ (k < place)
ones_are_below place k within = rw (one_shl place 64 within) (by (cases_lt k place))
  where
    by : (k < place) ⊎ (place ≤ k) → (bit_at (2 ^ place - 1) k ≡ 1) ↔ (k < place)
    by (inl below) = (λ _. below, λ _. bit_at_ones place k below)
    by (inr above) = let none = bit_at_ones_above place k above in (λ one. absurd (omega (arith, sym none ∙ one)), λ below. absurd (omega arith))

-- a bit that two words have
had : (m x y : ℕ) → m ≡ min x y → x < 2 → y < 2 → (m ≡ 1) ↔ ((x ≡ 1) × (y ≡ 1))
had m x y is small short = (λ one. (omega arith, omega arith), λ both. let a : x ≡ 1 = both.0 in let b : y ≡ 1 = both.1 in omega arith)

pub bit_of_both : (a b k : ℕ) → (bit_at (bit_and a b) k ≡ 1) ↔ ((bit_at a k ≡ 1) × (bit_at b k ≡ 1))
bit_of_both a b k = had (bit_at (bit_and a b) k) (bit_at a k) (bit_at b k) (bit_at_and a b k) (bit_at-lt a k) (bit_at-lt b k)

-- the bit that is worth most of a number from 2 ^ j on and below 2 ^ (j + 1)
top_bit : (word j : ℕ) → 2 ^ j ≤ word → word < 2 ^ suc j → bit_at word j ≡ 1
top_bit word j low high =
    let rest : word - 2 ^ j < 2 ^ j = omega (arith, pow-succ' 2 j) in
    let whole : word ≡ 1 * 2 ^ j + (word - 2 ^ j) = omega arith in
    let none : j - j ≡ 0 = omega arith in
    ap (λ w. bit_at w j) whole ∙ bit_at_cat_high 1 j (word - 2 ^ j) j rest (omega arith) ∙ ap (λ k. bit_at 1 k) none

pub highest_of : (word : ℕ) → (word ≡ 0 → ⊥) → word < 2 ^ 64 → IsHighestBit word (63 - count_leading_zeros 64 word)
highest_of word some fits =
    let (j, sum, low, high) = leading_top 64 word (omega (arith, some)) fits in
    let place : 63 - count_leading_zeros 64 word ≡ j = omega arith in
    subst (λ (p : ℕ). IsHighestBit word p) (sym place)
    (record { within = omega arith; set = top_bit word j low high; highest = λ k above. bit_at_above word (suc j) k high (omega arith) })

-- A number's hexadecimal digits without leading zeros are put from the last one on.
use Rattle.std.proofs.Common.{◌≡◌, ℕ, zero, suc, ◌+◌, ◌-◌, ◌/◌, ◌%◌, ◌^◌, ◌<◌, ◌≤◌, false, cond, List, [], ◌∷◌, length, drop, set, ◌*◌, refl, ap, sym, subst, ◌∙◌, arith, pow-suc, add-one}
use Rattle.std.specs.Fmt.{digits, digits_onto}
use Rattle.std.proofs.lemmas.Bool.{eq-eqb, ne_eqb}
use Rattle.std.proofs.lemmas.List.{drop-set, drop_all, length-set}
use Rattle.iom_script.specs.Digits.{hex_digit, hexadecimal}

-- so many digits of the number, and others behind them
unfoldable pub hex_onto : ℕ → ℕ → List ℕ → List ℕ
hex_onto count n others = digits_onto count 16 false n others

-- all of its digits
pub all_digits : (n : ℕ) → hex_onto 64 n [] ≡ hexadecimal n
unfolding hex_onto digits
all_digits n = refl

-- the last of several
next_digit : (count n : ℕ) (others : List ℕ) → 16 ≤ n → hex_onto (suc count) n others ≡ hex_onto count (n / 16) (hex_digit (n % 16) ∷ others)
unfolding hex_onto
next_digit count n others some =
    ap (λ t. cond t (hex_digit (n % 16) ∷ others) (digits_onto count 16 false (n / 16) (hex_digit (n % 16) ∷ others))) (ne_eqb (n / 16) 0 (λ e. omega arith))

-- the only one
only_digit : (count n : ℕ) (others : List ℕ) → n < 16 → hex_onto (suc count) n others ≡ hex_digit n ∷ others
unfolding hex_onto
only_digit count n others few =
    let same : n % 16 ≡ n = omega arith in
    ap (λ t. cond t (hex_digit (n % 16) ∷ others) (digits_onto count 16 false (n / 16) (hex_digit (n % 16) ∷ others))) (eq-eqb (n / 16) 0 (omega arith))
    ∙ ap (λ d. hex_digit d ∷ others) same

-- so much of the number is left, and goes before the digits that are written
pub record LeftOf (number rest start : ℕ) (places : List ℕ) : Type 0 where
  pub room : length places ≡ 16
  pub within : start ≤ 15
  pub below : rest < 16 ^ (start + 1)
  pub written : hex_onto (49 + start) rest (drop (start + 1) places) ≡ hexadecimal number

pub nothing_written : (number : ℕ) (places : List ℕ) → length places ≡ 16 → number < 2 ^ 64 → LeftOf number number 15 places
nothing_written number places room fits =
    record { room = room; within = omega arith; below = omega (arith, fits); written = ap (hex_onto 64 number) (drop_all 16 places (omega (arith, room))) ∙ all_digits number }

-- there is a place before it, where more than one digit is left
pub place_before : (number rest start : ℕ) (places : List ℕ) → LeftOf number rest start places → 16 ≤ rest → 1 ≤ start
place_before number rest zero places left some = absurd (omega (arith, left.below))
place_before number rest (suc start) places left some = omega arith

-- one digit more
pub digit_written : (number rest start : ℕ) (places : List ℕ) → LeftOf number rest start places → 16 ≤ rest → LeftOf number (rest / 16) (start - 1) (set places start (hex_digit (rest % 16)))
digit_written number rest start places left some =
    let before = place_before number rest start places left some in
    let digit = hex_digit (rest % 16) in
    let place : start - 1 + 1 ≡ start = omega arith in
    let count : 49 + start ≡ suc (49 + (start - 1)) = omega arith in
    record {
      room = length-set places start digit ∙ left.room;
      within = omega (arith, left.within);
      below = subst (λ k. rest / 16 < 16 ^ k) (sym place) (let whole : rest < 16 ^ start * 16 = rw (add-one, pow-suc) at left.below in omega (arith, whole));
      written = ap (λ k. hex_onto (49 + (start - 1)) (rest / 16) (drop k (set places start digit))) place
          ∙ ap (hex_onto (49 + (start - 1)) (rest / 16)) (drop-set places start digit (omega (arith, left.room, left.within)))
          ∙ sym (next_digit (49 + (start - 1)) rest (drop (start + 1) places) some)
          ∙ ap (λ k. hex_onto k rest (drop (start + 1) places)) (sym count) ∙ left.written;
    }

-- the first digit
pub all_written : (number rest start : ℕ) (places : List ℕ) → LeftOf number rest start places → rest < 16 → drop start (set places start (hex_digit rest)) ≡ hexadecimal number
all_written number rest start places left few =
    let count : 49 + start ≡ suc (48 + start) = omega arith in
    drop-set places start (hex_digit rest) (omega (arith, left.room, left.within))
    ∙ sym (only_digit (48 + start) rest (drop (start + 1) places) few)
    ∙ ap (λ k. hex_onto k rest (drop (start + 1) places)) (sym count) ∙ left.written

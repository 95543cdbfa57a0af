-- How many numbers are in two sets, by the bits of their words.
use Rattle.std.proofs.Common.{◌≡◌, ◌≢◌, ◌↔◌, ◌⊎◌, inl, inr, ℕ, suc, zero, ◌+◌, ◌*◌, ◌/◌, ◌%◌, ◌^◌, ◌<◌, ◌≤◌, Bool, true, false, ◌==◌, ◌&&◌, List, [], ◌∷◌, ◌++◌, length, length-append, bit_and, count_ones, if◌then◌else◌, refl, sym, ap, ◌∙◌, subst, arith}
use Rattle.std.specs.Int.{bit_at}
use Rattle.std.proofs.lemmas.Bool.{cases_lt, eqb-true, eq-eqb, false≢true}
use Rattle.std.proofs.lemmas.Nat.{ones_cat, ones_le_self, zero_from_ones, shr_split, mod_below, pow_pos, div_below}
use Rattle.std.proofs.lemmas.Nat.Bits.{bit_at-lt, bit_at-zero, bit_at_cat_low, bit_at_above, same_from_bits_below}
use Rattle.iom_frame_set.specs.Sets.{Words, nth_word, has, in_both, common_below}
use Rattle.iom_frame_set.proofs.BitLemmas.{bit_of_both}
use Rattle.iom_frame_set.proofs.SetLemmas.{has_place}
use Rattle.iom_frame_set.proofs.SummaryLemmas.{bit_not_one}

-- how many of the lowest bits of a word are set
abbrev bits_below : ℕ → ℕ → ℕ
bits_below word zero = 0
bits_below word (suc n) = bits_below word n + bit_at word n

bits_same : (a b n : ℕ) → ((k : ℕ) → k < n → bit_at a k ≡ bit_at b k) → bits_below a n ≡ bits_below b n
bits_same a b zero same = refl
bits_same a b (suc n) same =
    ap (λ m. m + bit_at a n) (bits_same a b n (λ k below. same k (omega arith))) ∙ ap (λ m. bits_below b n + m) (same n (omega arith))

bits_few : (word n : ℕ) → bits_below word n ≤ n
bits_few word zero = omega arith
bits_few word (suc n) = omega (arith, bits_few word n, bit_at-lt word n)

-- a number below 2 has as many ones as it is
one_of_two : (n : ℕ) → n ≤ 1 → (n ≡ 0 → ⊥) → n ≡ 1
one_of_two zero low some = absurd (some refl)
one_of_two (suc zero) low some = refl
one_of_two (suc (suc n)) low some = absurd (omega arith)

ones_of_bit : (bit : ℕ) → bit < 2 → count_ones bit ≡ bit
ones_of_bit zero small = let few = ones_le_self 0 in omega arith
ones_of_bit (suc zero) small = one_of_two (count_ones 1) (ones_le_self 1) (λ none. let no : 1 ≡ 0 = zero_from_ones 1 none in absurd (omega arith))
ones_of_bit (suc (suc bit)) small = absurd (omega arith)

-- a word of n bits has as many ones as of these are set
ones_of_bits : (n word : ℕ) → word < 2 ^ n → count_ones word ≡ bits_below word n
ones_of_bits zero word fits = let few = ones_le_self word in omega arith
ones_of_bits (suc n) word fits =
    let low : word % 2 ^ n < 2 ^ n = mod_below word (2 ^ n) (pow_pos n) in
    let top : word / 2 ^ n < 2 = div_below word (2 ^ n) 2 (pow_pos n) (omega arith) in
    let bit : bit_at word n ≡ word / 2 ^ n = omega arith in
    let whole = shr_split word n in
    ap count_ones (sym whole) ∙ ones_cat n (word / 2 ^ n) (word % 2 ^ n) low
    ∙ ap (λ m. m + count_ones (word % 2 ^ n)) (ones_of_bit (word / 2 ^ n) top ∙ sym bit)
    ∙ ap (λ m. bit_at word n + m)
    (ones_of_bits n (word % 2 ^ n) low
    ∙ bits_same (word % 2 ^ n) word n (λ k below. sym (bit_at_cat_low (word / 2 ^ n) n (word % 2 ^ n) k below) ∙ ap (λ w. bit_at w k) whole))
    ∙ omega arith

-- one number more
longer : (a b : Words) (n bit : ℕ) → bit < 2 → (bit ≡ 1) ↔ (in_both a b n ≡ true) → length (common_below a b (suc n)) ≡ length (common_below a b n) + bit
unfolding common_below
longer a b n bit small is = by (in_both a b n) refl
  where
    by : (t : Bool) → in_both a b n ≡ t → length (if t then common_below a b n ++ n ∷ [] else common_below a b n) ≡ length (common_below a b n) + bit
    by true e = let one : bit ≡ 1 = is.1 e in length-append (common_below a b n) (n ∷ []) ∙ ap (λ k. length (common_below a b n) + k) (sym one)
    by false e = let none : bit ≡ 0 = bit_not_one bit small (λ one. false≢true (sym e ∙ is.0 one)) in omega arith

-- the numbers of a word of each set, below a place
module _ (a b : Words) (index places here there ones : ℕ) (within : places ≤ 64) (is_here : here ≡ nth_word a index) (is_there : there ≡ nth_word b index) (below : (k : ℕ) → k < 64 → (bit_at ones k ≡ 1) ↔ (k < places)) where
  abbrev masked : ℕ
  masked = bit_and (bit_and here there) ones

  one_place : (words : Words) (word k : ℕ) → word ≡ nth_word words index → k < 64 → has words (64 * index + k) ≡ (bit_at word k == 1)
  one_place words word k is small = has_place words index k (64 * index + k) small refl ∙ ap (λ w. bit_at w k == 1) (sym is)

  both_set : (t s : Bool) → (t && s) ≡ true → (t ≡ true) × (s ≡ true)
  both_set true s e = (refl, e)
  both_set false s e = absurd (false≢true e)

  set_in_both : (k : ℕ) → k < places → (bit_at masked k ≡ 1) ↔ (in_both a b (64 * index + k) ≡ true)
  set_in_both k small =
      let first = one_place a here k is_here (omega arith) in
      let second = one_place b there k is_there (omega arith) in (
        (λ one.
            let pair = (bit_of_both here there k).0 ((bit_of_both (bit_and here there) ones k).0 one).0 in
            ap (λ t. t && has b (64 * index + k)) (first ∙ eq-eqb _ 1 pair.0) ∙ second ∙ eq-eqb _ 1 pair.1),
        (λ both.
            let pair = both_set (has a (64 * index + k)) (has b (64 * index + k)) both in
            (bit_of_both (bit_and here there) ones k).1
            ((bit_of_both here there k).1 (eqb-true (bit_at here k) 1 (sym first ∙ pair.0), eqb-true (bit_at there k) 1 (sym second ∙ pair.1)), (below k (omega arith)).1 small)),
      )

  counted_to : (n : ℕ) → n ≤ places → length (common_below a b (64 * index + n)) ≡ length (common_below a b (64 * index)) + bits_below masked n
  counted_to zero le =
      let here : 64 * index + 0 ≡ 64 * index = omega arith in
      let none : length (common_below a b (64 * index)) ≡ length (common_below a b (64 * index)) + 0 = omega arith in
      ap (λ n. length (common_below a b n)) here ∙ none
  counted_to (suc n) le =
      let next : 64 * index + suc n ≡ suc (64 * index + n) = omega arith in
      ap (λ m. length (common_below a b m)) next
      ∙ longer a b (64 * index + n) (bit_at masked n) (bit_at-lt masked n) (set_in_both n (omega arith))
      ∙ ap (λ m. m + bit_at masked n) (counted_to n (omega arith)) ∙ omega arith

  -- no bit from the place on is set
  none_above : (k : ℕ) → k < 64 → places ≤ k → bit_at masked k ≡ 0
  none_above k small over =
      bit_not_one (bit_at masked k) (bit_at-lt masked k)
      (λ one. let low = (below k small).0 ((bit_of_both (bit_and here there) ones k).0 one).1 in absurd (omega (arith, low)))

  ones_masked : masked < 2 ^ 64 → count_ones masked ≡ bits_below masked places
  ones_masked fits = ones_of_bits places masked (subst (λ m. m < 2 ^ places) (sym same) low)
    where
      low : masked % 2 ^ places < 2 ^ places
      low = mod_below masked (2 ^ places) (pow_pos places)

      by : (k : ℕ) → k < 64 → (k < places) ⊎ (places ≤ k) → bit_at masked k ≡ bit_at (masked % 2 ^ places) k
      by k small (inl under) =
          ap (λ w. bit_at w k) (sym (shr_split masked places)) ∙ bit_at_cat_low (masked / 2 ^ places) places (masked % 2 ^ places) k under
      by k small (inr over) = none_above k small over ∙ sym (bit_at_above (masked % 2 ^ places) places k low over)

      lower : masked % 2 ^ places < 2 ^ 64
      lower = omega arith

      same : masked ≡ masked % 2 ^ places
      same = same_from_bits_below 64 masked (masked % 2 ^ places) fits lower (λ k small. by k small (cases_lt k places))

  pub count_of_word : masked < 2 ^ 64 → (count : ℕ) → count ≡ count_ones masked
      → (length (common_below a b (64 * index + places)) ≡ length (common_below a b (64 * index)) + count) × (count ≤ places)
  count_of_word fits count is =
      let as_many : count ≡ bits_below masked places = is ∙ ones_masked fits in (
        counted_to places (omega arith) ∙ ap (λ m. length (common_below a b (64 * index)) + m) (sym as_many),
        omega (arith, as_many, bits_few masked places),
      )

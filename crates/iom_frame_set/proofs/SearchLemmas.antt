-- The highest number that is in two sets, by the bits of a word and by the words that are filled in both.
use Rattle.std.proofs.Common.{◌≡◌, ◌↔◌, ◌⊎◌, inl, inr, ℕ, ◌+◌, ◌-◌, ◌*◌, ◌/◌, ◌%◌, ◌<◌, ◌≤◌, Bool, true, false, ◌==◌, ◌&&◌, bit_and, MatchOption, Option, None, Some, refl, sym, ap, ◌∙◌, subst, arith}
use Rattle.std.specs.Int.{bit_at}
use Rattle.std.proofs.lemmas.Bool.{cases_lt, eqb-true, eq-eqb}
use Rattle.iom_frame_set.specs.Sets.{Words, nth_word, has, in_both}
use Rattle.iom_frame_set.specs.Spans.{NoneIsInBoth, IsHighestInBoth, IsSummary, IsHighestBit}
use Rattle.iom_frame_set.proofs.BitLemmas.{bit_of_both}
use Rattle.iom_frame_set.proofs.SetLemmas.{has_place}
use Rattle.iom_frame_set.proofs.SummaryLemmas.{none_unfilled}

-- a number isn't in both sets where it isn't in one of them
not_both : (b c : Bool) → (b ≡ true → c ≡ true → ⊥) → (b && c) ≡ false
not_both true true none = absurd (none refl refl)
not_both true false none = refl
not_both false c none = refl

not_first : (b c : Bool) → b ≡ false → (b && c) ≡ false
not_first true c none = cc
not_first false c none = refl

not_second : (b c : Bool) → c ≡ false → (b && c) ≡ false
not_second true c none = none
not_second false c none = refl

-- the numbers of a word of each set, below a place
module _ (a b : Words) (index places here there ones : ℕ) (within : places ≤ 64) (is_here : here ≡ nth_word a index) (is_there : there ≡ nth_word b index) (below : (k : ℕ) → k < 64 → (bit_at ones k ≡ 1) ↔ (k < places)) where
  abbrev masked : ℕ
  masked = bit_and (bit_and here there) ones

  -- a number of the word, by its bit in each
  both_place : (k n : ℕ) → k < 64 → n ≡ 64 * index + k → in_both a b n ≡ ((bit_at here k == 1) && (bit_at there k == 1))
  both_place k n small at =
      ap (λ t. t && has b n) (has_place a index k n small at ∙ ap (λ w. bit_at w k == 1) (sym is_here))
      ∙ ap (λ t. (bit_at here k == 1) && t) (has_place b index k n small at ∙ ap (λ w. bit_at w k == 1) (sym is_there))

  none_at : (k n : ℕ) → k < places → n ≡ 64 * index + k → bit_at masked k ≡ 0 → in_both a b n ≡ false
  none_at k n small at is_zero =
      both_place k n (omega arith) at
      ∙ not_both (bit_at here k == 1) (bit_at there k == 1)
      (λ one other.
      let pair = (bit_of_both here there k).1 (eqb-true (bit_at here k) 1 one, eqb-true (bit_at there k) 1 other) in
      let both = (bit_of_both (bit_and here there) ones k).1 (pair, (below k (omega arith)).1 small) in
      absurd (omega (arith, sym is_zero ∙ both)))

  pub none_of_masked : ((k : ℕ) → bit_at masked k ≡ 0) → NoneIsInBoth a b (64 * index) (64 * index + places)
  none_of_masked empty n from to =
      let k : ℕ = n - 64 * index in
      none_at k n (omega arith) (omega arith) (empty k)

  pub highest_of_masked : (bit n : ℕ) → n ≡ 64 * index + bit → IsHighestBit masked bit → IsHighestInBoth a b (64 * index) (64 * index + places) n
  highest_of_masked bit n at top =
      let (pair, mask) = (bit_of_both (bit_and here there) ones bit).0 top.set in
      let (one, other) = (bit_of_both here there bit).0 pair in
      let small = (below bit top.within).0 mask in
      record {
        not_before = omega arith;
        below = omega arith;
        inside = both_place bit n top.within at ∙ ap (λ t. t && (bit_at there bit == 1)) (eq-eqb _ 1 one) ∙ eq-eqb _ 1 other;
        highest = λ higher above to.
            let k : ℕ = higher - 64 * index in
            none_at k higher (omega arith) (omega arith) (top.highest k (omega arith));
      }

-- spans that follow one another
pub none_in_spans : (a b : Words) (from middle limit : ℕ) → NoneIsInBoth a b from middle → NoneIsInBoth a b middle limit → NoneIsInBoth a b from limit
none_in_spans a b from middle limit first second n low high = by (cases_lt n middle)
  where
    by : (n < middle) ⊎ (middle ≤ n) → in_both a b n ≡ false
    by (inl here) = first n low here
    by (inr over) = second n over high

pub highest_in_spans : (a b : Words) (from start middle limit n : ℕ) → from ≤ start → middle ≤ limit → IsHighestInBoth a b start middle n → NoneIsInBoth a b middle limit → IsHighestInBoth a b from limit n
highest_in_spans a b from start middle limit n low high top none =
    let not_before = top.not_before in
    let below = top.below in
    record { not_before = omega arith; below = omega arith; inside = top.inside; highest = λ higher above to. by higher above to (cases_lt higher middle) }
  where
    by : (higher : ℕ) → n < higher → higher < limit → (higher < middle) ⊎ (middle ≤ higher) → in_both a b higher ≡ false
    by higher above to (inl here) = top.highest higher above here
    by higher above to (inr over) = none higher over to

-- two sets with the numbers of their filled words
module _ (a filled_a b filled_b : Words) (is_a : IsSummary a filled_a) (is_b : IsSummary b filled_b) where
  -- where the word of a number isn't filled in both, the number isn't in both
  none_unfilled_both : (n : ℕ) → in_both filled_a filled_b (n / 64) ≡ false → in_both a b n ≡ false
  none_unfilled_both n none = by (has filled_a (n / 64)) refl none
    where
      by : (t : Bool) → has filled_a (n / 64) ≡ t → (t && has filled_b (n / 64)) ≡ false → in_both a b n ≡ false
      by true is none = not_second (has a n) (has b n) (none_unfilled b filled_b n is_b none)
      by false is none = not_first (has a n) (has b n) (none_unfilled a filled_a n is_a is)

  none_in_words : (from below : ℕ) → NoneIsInBoth filled_a filled_b from below → NoneIsInBoth a b (64 * from) (64 * below)
  none_in_words from below none n low high = none_unfilled_both n (none (n / 64) (omega arith) (omega arith))

  -- where no word below is filled in both, and no number from there on is in both
  pub none_at_all : (below limit : ℕ) → NoneIsInBoth filled_a filled_b 0 below → NoneIsInBoth a b (64 * below) limit → NoneIsInBoth a b 0 limit
  none_at_all below limit none above = none_in_spans a b 0 (64 * below) limit (none_in_words 0 below none) above

  -- the highest word below that is filled in both: no number above it is in both
  none_over : (index below limit : ℕ) → IsHighestInBoth filled_a filled_b 0 below index → NoneIsInBoth a b (64 * below) limit → NoneIsInBoth a b (64 * index + 64) limit
  none_over index below limit top above n low high =
      none_in_spans a b (64 * (index + 1)) (64 * below) limit (none_in_words (index + 1) below (λ i from to. top.highest i (omega arith) to)) above n (omega arith) high

  -- its own numbers are looked at
  pub none_from_word : (index below limit : ℕ) → IsHighestInBoth filled_a filled_b 0 below index → NoneIsInBoth a b (64 * index) (64 * index + 64) → NoneIsInBoth a b (64 * below) limit
      → NoneIsInBoth a b (64 * index) limit
  none_from_word index below limit top none above = none_in_spans a b (64 * index) (64 * index + 64) limit none (none_over index below limit top above)

  pub highest_from_word : (index below limit n : ℕ) → 64 * below ≤ limit → IsHighestInBoth filled_a filled_b 0 below index → IsHighestInBoth a b (64 * index) (64 * index + 64) n
      → NoneIsInBoth a b (64 * below) limit → IsHighestInBoth a b 0 limit n
  highest_from_word index below limit n within top found above =
      let lower = top.below in
      highest_in_spans a b 0 (64 * index) (64 * index + 64) limit n (omega arith) (omega arith) found (none_over index below limit top above)

-- what is said of two sets is said of what they are seen as
pub of_both : (P : Words → Words → Type 0) (a now_a b now_b : Words) → a ≡ now_a → b ≡ now_b → P a b → P now_a now_b
of_both P a now_a b now_b is_a is_b fact = subst (λ x. P x now_b) is_a (subst (λ y. P a y) is_b fact)

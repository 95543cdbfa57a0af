-- The numbers of the words that aren't 0, and how a change of a word changes them.
use Rattle.std.proofs.Common.{◌≡◌, ◌≢◌, ◌⊎◌, inl, inr, ℕ, suc, zero, ◌+◌, ◌-◌, ◌*◌, ◌^◌, ◌/◌, ◌<◌, ◌≤◌, Bool, true, false, not, ◌==◌, length, max, if◌then◌else◌, refl, sym, ap, ◌∙◌, arith}
use Rattle.std.specs.Int.{bit_at}
use Rattle.std.proofs.lemmas.Bool.{cases_eq, eqb-true, eqb-false, eq-eqb, ne_eqb, not-false, false≢true}
use Rattle.std.proofs.lemmas.Nat.Bits.{bit_at-zero, bit_at-lt, same_from_bits_below}
use Rattle.iom_frame_set.specs.Sets.{Words, nth_word, has, room, InsertsFrame, RemovesFrame}
use Rattle.iom_frame_set.specs.Spans.{KeepsWords, KeepsOtherWords, IsSummary}
use Rattle.iom_frame_set.proofs.SetLemmas.{HasSame-words, has_place, has_zero}

-- a bit that isn't 1 is 0
pub bit_not_one : (x : ℕ) → x < 2 → (x ≡ 1 → ⊥) → x ≡ 0
bit_not_one zero below none = refl
bit_not_one (suc zero) below none = absurd (none refl)
bit_not_one (suc (suc x)) below none = absurd (omega arith)

-- a word that has no number is 0
zero_from_none : (words : Words) (index word : ℕ) → word < 2 ^ 64 → word ≡ nth_word words index → ((k : ℕ) → k < 64 → has words (64 * index + k) ≡ false) → word ≡ 0
zero_from_none words index word fits is none = same_from_bits_below 64 word 0 fits (omega arith) (λ k small. by k small (none k small) ∙ sym (bit_at-zero k))
  where
    by : (k : ℕ) → k < 64 → has words (64 * index + k) ≡ false → bit_at word k ≡ 0
    by k small absent =
        bit_not_one (bit_at word k) (bit_at-lt word k)
        (λ one. false≢true (sym absent ∙ has_place words index k (64 * index + k) small refl ∙ ap (λ w. bit_at w k == 1) (sym is) ∙ ap (λ b. b == 1) one))

-- where the word of a number isn't filled, the number isn't in the set
pub none_unfilled : (words filled : Words) (n : ℕ) → IsSummary words filled → has filled (n / 64) ≡ false → has words n ≡ false
none_unfilled words filled n is none =
    has_zero words n (eqb-true (nth_word words (n / 64)) 0 (not-false (nth_word words (n / 64) == 0) (sym (is.has_filled (n / 64)) ∙ none)))

-- at first no word is filled, or each is
pub IsSummary-empty : (words filled : Words) → ((i : ℕ) → nth_word words i ≡ 0) → length words.kept ≡ 0 → ((i : ℕ) → has filled i ≡ false) → IsSummary words filled
IsSummary-empty words filled none short empty = record { has_filled = λ i. empty i ∙ sym (ap (λ w. not (w == 0)) (none i)); roomy = omega arith }

pub IsSummary-full : (words filled : Words) → ((i : ℕ) → nth_word words i ≡ 2 ^ 64 - 1) → length words.kept ≡ 0 → ((i : ℕ) → has filled i ≡ true) → IsSummary words filled
IsSummary-full words filled all short full = record { has_filled = λ i. full i ∙ sym (ap (λ w. not (w == 0)) (all i)); roomy = omega arith }

-- the words stay, and there is room for their numbers
pub IsSummary-same : (words now filled then_filled : Words) → KeepsWords words now → KeepsWords filled then_filled → length now.kept ≤ room then_filled → IsSummary words filled
    → IsSummary now then_filled
IsSummary-same words now filled then_filled same same_filled roomy is = record {
  has_filled = λ i. HasSame-words filled then_filled same_filled i ∙ is.has_filled i ∙ ap (λ w. not (w == 0)) (sym (same i));
  roomy = roomy;
}

-- a number more, and its word is filled
pub IsSummary-inserted : (words now filled now_filled : Words) (frame : ℕ) → InsertsFrame words now frame → KeepsOtherWords words now (frame / 64) → length now.kept ≡ length words.kept
    → InsertsFrame filled now_filled (frame / 64) → length now_filled.kept ≡ length filled.kept → IsSummary words filled → IsSummary now now_filled
IsSummary-inserted words now filled now_filled frame inserted others long filled_too long_too is = record {
  has_filled = λ i. filled_too i ∙ by i (frame / 64 == i) refl;
  roomy = let roomy = is.roomy in omega arith;
}
  where
    inside : has now frame ≡ true
    inside = inserted frame ∙ ap (λ b. if b then true else has words frame) (eq-eqb frame frame refl)

    by : (i : ℕ) (same : Bool) → (frame / 64 == i) ≡ same → (if same then true else has filled i) ≡ not (nth_word now i == 0)
    by i true e =
        sym (ap not (ne_eqb (nth_word now i) 0 (λ is_zero. false≢true (sym (has_zero now frame (ap (nth_word now) (eqb-true (frame / 64) i e) ∙ is_zero)) ∙ inside))))
    by i false e = is.has_filled i ∙ ap (λ w. not (w == 0)) (sym (others i (λ same. eqb-false (frame / 64) i e (sym same))))

-- a number less, and its word still isn't 0
pub IsSummary-left : (words now filled : Words) (frame word : ℕ) → RemovesFrame words now frame → KeepsOtherWords words now (frame / 64) → length now.kept ≡ length words.kept → word < 2 ^ 64
    → word ≡ nth_word now (frame / 64) → (word ≡ 0 → ⊥) → IsSummary words filled → IsSummary now filled
IsSummary-left words now filled frame word removed others long fits at some is = record {
  has_filled = λ i. is.has_filled i ∙ by i (cases_eq i (frame / 64));
  roomy = let roomy = is.roomy in omega arith;
}
  where
    absent : (t : Bool) (n : ℕ) → has words n ≡ false → (if t then false else has words n) ≡ false
    absent true n none = refl
    absent false n none = none

    left : nth_word words (frame / 64) ≡ 0 → word ≡ 0
    left is_zero =
        zero_from_none now (frame / 64) word fits at
        (λ k small.
        let n : ℕ = 64 * (frame / 64) + k in
        let place : n / 64 ≡ frame / 64 = omega arith in
        removed n ∙ absent (frame == n) n (has_zero words n (ap (nth_word words) place ∙ is_zero)))

    by : (i : ℕ) → (i ≡ frame / 64) ⊎ (i ≢ frame / 64) → not (nth_word words i == 0) ≡ not (nth_word now i == 0)
    by i (inl same) =
        ap not (ne_eqb (nth_word words i) 0 (λ is_zero. some (left (ap (nth_word words) (sym same) ∙ is_zero))))
        ∙ sym (ap not (ne_eqb (nth_word now i) 0 (λ is_zero. some (at ∙ ap (nth_word now) (sym same) ∙ is_zero))))
    by i (inr other) = ap (λ w. not (w == 0)) (sym (others i other))

-- there is room for the number of each word that was made
pub room_for_each : (words now filled now_filled : Words) (frame : ℕ) → length words.kept ≤ room filled → length filled.kept ≤ length now_filled.kept → frame / 64 < room now_filled
    → length now.kept ≤ max (length words.kept) (frame / 64 + 1) → length now.kept ≤ room now_filled
room_for_each words now filled now_filled frame roomy grows within no_further = omega arith

-- Which frames a set has, by its words and their bits.
use Rattle.std.proofs.Common.{◌≡◌, ◌≢◌, ◌⊎◌, inl, inr, ℕ, suc, zero, ◌+◌, ◌-◌, ◌*◌, ◌^◌, ◌/◌, ◌%◌, ◌<◌, ◌≤◌, Bool, true, false, ◌==◌, List, [], ◌∷◌, ◌++◌, length, get_or, set, if◌then◌else◌, refl, sym, ap, ◌∙◌, arith}
use Rattle.std.specs.Int.{bit_at}
use Rattle.std.proofs.lemmas.Bool.{cases_eq, eqb-true, eqb-false, eq-eqb}
use Rattle.std.proofs.lemmas.List.{get_or-set_same, get_or-set_other}
use Rattle.std.proofs.lemmas.Nat.Bits.{bit_at-zero, bit_at_ones}
use Rattle.iom_frame_set.specs.Sets.{Words, nth_word, has, HasSame, InsertsFrame, RemovesFrame}
use Rattle.iom_frame_set.specs.Spans.{KeepsWords}

-- where each word is 0 there is no frame, and where each is all ones there is each frame
pub IsEmpty-zero : (words : Words) → ((i : ℕ) → nth_word words i ≡ 0) → (f : ℕ) → has words f ≡ false
unfolding has
IsEmpty-zero words none f = ap (λ w. bit_at w (f % 64) == 1) (none (f / 64)) ∙ ap (λ b. b == 1) (bit_at-zero (f % 64))

pub IsFull-ones : (words : Words) → ((i : ℕ) → nth_word words i ≡ 2 ^ 64 - 1) → (f : ℕ) → has words f ≡ true
unfolding has
IsFull-ones words all f = ap (λ w. bit_at w (f % 64) == 1) (all (f / 64)) ∙ eq-eqb _ 1 (bit_at_ones 64 (f % 64) (omega arith))

-- one more word is kept, which is as those beyond
pub index_push : (words : List ℕ) (beyond i : ℕ) → get_or (words ++ beyond ∷ []) i beyond ≡ get_or words i beyond
index_push [] beyond zero = refl
index_push [] beyond (suc i) = refl
index_push (w ∷ words) beyond zero = refl
index_push (w ∷ words) beyond (suc i) = index_push words beyond i

-- the words, this one written
abbrev pub written : Words → ℕ → ℕ → Words
written words index now = record { kept = set words.kept index now; beyond = words.beyond }

-- one bit of one word is written
has-written : (words : Words) (frame now : ℕ) (v : Bool) → frame / 64 < length words.kept → (bit_at now (frame % 64) == 1) ≡ v
    → ((k : ℕ) → k < 64 → k ≢ frame % 64 → bit_at now k ≡ bit_at (nth_word words (frame / 64)) k)
    → (f : ℕ) → has (written words (frame / 64) now) f ≡ (if frame == f then v else has words f)
unfolding has
has-written words frame now v within bit others f = by (frame == f) refl (cases_eq (f / 64) (frame / 64))
  where
    here : nth_word (written words (frame / 64) now) (frame / 64) ≡ now
    here = get_or-set_same words.kept (frame / 64) now words.beyond within

    by : (same : Bool) → (frame == f) ≡ same → (f / 64 ≡ frame / 64) ⊎ (f / 64 ≢ frame / 64)
        → (bit_at (nth_word (written words (frame / 64) now) (f / 64)) (f % 64) == 1) ≡ (if same then v else bit_at (nth_word words (f / 64)) (f % 64) == 1)
    by true e place =
        let is : frame ≡ f = eqb-true frame f e in
        ap (λ x. bit_at (nth_word (written words (frame / 64) now) (x / 64)) (x % 64) == 1) (sym is)
        ∙ ap (λ w. bit_at w (frame % 64) == 1) here ∙ bit
    by false e (inl same) =
        let differ : f ≢ frame = λ is. eqb-false frame f e (sym is) in
        let apart : f % 64 ≢ frame % 64 = λ rest. differ (omega arith) in
        ap (λ i. bit_at (nth_word (written words (frame / 64) now) i) (f % 64) == 1) same
        ∙ ap (λ w. bit_at w (f % 64) == 1) here
        ∙ ap (λ b. b == 1) (others (f % 64) (omega arith) apart)
        ∙ ap (λ i. bit_at (nth_word words i) (f % 64) == 1) (sym same)
    by false e (inr other) = ap (λ w. bit_at w (f % 64) == 1) (get_or-set_other words.kept (frame / 64) (f / 64) now words.beyond other)

pub Inserts-written : (words : Words) (frame now : ℕ) → frame / 64 < length words.kept → bit_at now (frame % 64) ≡ 1
    → ((k : ℕ) → k ≢ frame % 64 → bit_at now k ≡ bit_at (nth_word words (frame / 64)) k) → InsertsFrame words (written words (frame / 64) now) frame
Inserts-written words frame now within one others = has-written words frame now true within (eq-eqb _ 1 one) (λ k _ other. others k other)

pub Removes-written : (words : Words) (frame now : ℕ) → frame / 64 < length words.kept → bit_at now (frame % 64) ≡ 0
    → ((k : ℕ) → k < 64 → k ≢ frame % 64 → bit_at now k ≡ bit_at (nth_word words (frame / 64)) k) → RemovesFrame words (written words (frame / 64) now) frame
Removes-written words frame now within none others = has-written words frame now false within (ap (λ b. b == 1) none) others

-- the same words have the same numbers
pub HasSame-words : (old new : Words) → KeepsWords old new → HasSame old new
unfolding has
HasSame-words old new same f = ap (λ w. bit_at w (f % 64) == 1) (same (f / 64))

-- a number by its word and its bit there
pub has_place : (words : Words) (index k n : ℕ) → k < 64 → n ≡ 64 * index + k → has words n ≡ (bit_at (nth_word words index) k == 1)
unfolding has
has_place words index k n within is =
    let place : n / 64 ≡ index = omega arith in
    let rest : n % 64 ≡ k = omega arith in
    ap (λ i. bit_at (nth_word words i) (n % 64) == 1) place ∙ ap (λ j. bit_at (nth_word words index) j == 1) rest

-- a word of 0 has no number
pub has_zero : (words : Words) (n : ℕ) → nth_word words (n / 64) ≡ 0 → has words n ≡ false
unfolding has
has_zero words n is_zero = ap (λ w. bit_at w (n % 64) == 1) is_zero ∙ ap (λ b. b == 1) (bit_at-zero (n % 64))

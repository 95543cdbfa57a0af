-- What a row has, by its words and their bits.
use Rattle.std.proofs.Common.{◌≡◌, ◌≢◌, ◌⊎◌, inl, inr, ℕ, ◌+◌, ◌-◌, ◌*◌, ◌/◌, ◌%◌, ◌^◌, ◌<◌, ◌≤◌, min, max, suc, zero, replicate, bit_and, w64, true, false, ◌==◌, List, length, get_or, set, subst, refl, sym, ap, ◌∙◌, arith}
use Rattle.std.specs.Int.RustNames.{bit_or}
use Rattle.std.specs.Int.{bit_at, trailing_zeros}
use Rattle.std.proofs.lemmas.Bool.{cases_eq, cases_lt, eqb-true, eq-eqb}
use Rattle.std.proofs.lemmas.List.{get_or-set_same, get_or-set_other}
use Rattle.std.proofs.lemmas.Nat.Bits.{bit_at-zero, bit_at-lt, bit_at_and, bit_at_or, bit_at_ones, bit_at-trailing_zeros}
use Rattle.iom_table_survey.specs.Rows.{frame_place, is_place_set, row_has, GrowsBy, StandInBoth}

-- one bit of one word is set
set_same : (row : List ℕ) (place now : ℕ) → place / 64 < length row → bit_at now (place % 64) ≡ 1 → is_place_set (set row (place / 64) now) place ≡ true
unfolding is_place_set
set_same row place now within one = ap (λ w. bit_at w (place % 64) == 1) (get_or-set_same row (place / 64) now 0 within) ∙ eq-eqb _ 1 one

set_other : (row : List ℕ) (place now other : ℕ) → place / 64 < length row → other ≢ place
    → ((k : ℕ) → k ≢ place % 64 → bit_at now k ≡ bit_at (get_or row (place / 64) 0) k)
    → is_place_set (set row (place / 64) now) other ≡ is_place_set row other
unfolding is_place_set
set_other row place now other within differ others = by (cases_eq (other / 64) (place / 64))
  where
    by : (other / 64 ≡ place / 64) ⊎ (other / 64 ≢ place / 64) → (bit_at (get_or (set row (place / 64) now) (other / 64) 0) (other % 64) == 1) ≡ (bit_at (get_or row (other / 64) 0) (other % 64) == 1)
    by (inl same) =
        let apart : other % 64 ≢ place % 64 = λ rest. differ (omega arith) in
        ap (λ i. bit_at (get_or (set row (place / 64) now) i 0) (other % 64) == 1) same
        ∙ ap (λ w. bit_at w (other % 64) == 1) (get_or-set_same row (place / 64) now 0 within)
        ∙ ap (λ b. b == 1) (others (other % 64) apart)
        ∙ ap (λ i. bit_at (get_or row i 0) (other % 64) == 1) (sym same)
    by (inr far) = ap (λ w. bit_at w (other % 64) == 1) (get_or-set_other row (place / 64) (other / 64) now 0 far)

pub inserts : (old row : List ℕ) (frame place now : ℕ) → row ≡ old → place ≡ frame_place frame → length row ≡ 65 → bit_at now (place % 64) ≡ 1
    → ((k : ℕ) → k ≢ place % 64 → bit_at now k ≡ bit_at (get_or row (place / 64) 0) k)
    → GrowsBy old (set row (place / 64) now) (λ f. f ≡ frame)
inserts old row frame place now same at long one others = subst (λ r. GrowsBy r changed (λ f. f ≡ frame)) same (record {
  unchanged = λ f had. by f (cases_eq (frame_place f) place) had;
  added = λ f is. ap (λ g. is_place_set changed (frame_place g)) is ∙ ap (λ p. is_place_set changed p) (sym at) ∙ here;
  sole = λ f now_has. from f (cases_eq (frame_place f) place) now_has;
})
  where
    changed : List ℕ
    changed = set row (place / 64) now

    inside : place / 64 < length row
    inside = omega (arith, long, at)

    here : is_place_set changed place ≡ true
    here = set_same row place now inside one

    by : (f : ℕ) → (frame_place f ≡ place) ⊎ (frame_place f ≢ place) → row_has row f ≡ true → row_has changed f ≡ true
    by f (inl is) had = ap (λ p. is_place_set changed p) is ∙ here
    by f (inr differ) had = set_other row place now (frame_place f) inside differ others ∙ had

    from : (f : ℕ) → (frame_place f ≡ place) ⊎ (frame_place f ≢ place) → row_has changed f ≡ true → (row_has row f ≡ true) ⊎ ((other : ℕ) × (other ≡ frame) × (frame_place other ≡ frame_place f))
    from f (inl is) has_now = inr (frame, refl, sym at ∙ sym is)
    from f (inr differ) has_now = inl (sym (set_other row place now (frame_place f) inside differ others) ∙ has_now)

-- a row of zeros has no frame
at_zero : (n i : ℕ) → ◌≡◌ {A = ℕ} (get_or (replicate n 0) i 0) 0
at_zero zero i = refl
at_zero (suc n) zero = refl
at_zero (suc n) (suc i) = at_zero n i

pub empty_has : (f : ℕ) → row_has (replicate 65 0) f ≡ false
unfolding is_place_set
empty_has f = ap (λ w. bit_at w (frame_place f % 64) == 1) (at_zero 65 (frame_place f / 64)) ∙ ap (λ b. b == 1) (bit_at-zero (frame_place f % 64))

-- a bit that is read
pub reads : (row : List ℕ) (frame word : ℕ) → word ≡ get_or row (min frame 4096 / 64) 0 → (bit_at word (min frame 4096 % 64) == 1) ≡ row_has row frame
unfolding is_place_set
reads row frame word at = ap (λ w. bit_at w (frame_place frame % 64) == 1) at

-- a row of ones has each
at_ones : (n i : ℕ) → i < n → ◌≡◌ {A = ℕ} (get_or (replicate n 18446744073709551615) i 0) 18446744073709551615
at_ones zero i within = absurd (omega (arith, within))
at_ones (suc n) zero within = refl
at_ones (suc n) (suc i) within = at_ones n i (omega (arith, within))

pub full_has : (f : ℕ) → row_has (replicate 65 18446744073709551615) f ≡ true
unfolding is_place_set
full_has f = ap (λ w. bit_at w (frame_place f % 64) == 1) (at_ones 65 (frame_place f / 64) (omega arith)) ∙ eq-eqb _ 1 (bit_at_ones 64 (frame_place f % 64) (omega arith))

-- a frame by its word and its bit there
has_place : (row : List ℕ) (index k : ℕ) → index < 64 → k < 64 → row_has row (64 * index + k) ≡ (bit_at (get_or row index 0) k == 1)
unfolding is_place_set
has_place row index k low within =
    let word : frame_place (64 * index + k) / 64 ≡ index = omega arith in
    let bit : frame_place (64 * index + k) % 64 ≡ k = omega arith in
    ap (λ i. bit_at (get_or row i 0) (frame_place (64 * index + k) % 64) == 1) word ∙ ap (λ j. bit_at (get_or row index 0) j == 1) bit

-- a word of 0 has none
pub none_of : (row : List ℕ) (index k : ℕ) → index < 64 → k < 64 → get_or row index 0 ≡ 0 → row_has row (64 * index + k) ≡ false
none_of row index k low within is_zero =
    has_place row index k low within ∙ ap (λ w. bit_at w k == 1) is_zero ∙ ap (λ b. b == 1) (bit_at-zero k)

-- both's bits
one_or : (a b : ℕ) → a < 2 → b < 2 → (m : ℕ) → m ≡ max a b → (m == 1) ≡ true → ((a == 1) ≡ true) ⊎ ((b == 1) ≡ true)
one_or a b low low' m is set = by (cases_eq a 1)
  where
    by : (a ≡ 1) ⊎ (a ≢ 1) → ((a == 1) ≡ true) ⊎ ((b == 1) ≡ true)
    by (inl one) = inl (eq-eqb a 1 one)
    by (inr other) = let whole : m ≡ 1 = eqb-true m 1 set in inr (eq-eqb b 1 (omega (arith, other)))

pub union_of : (old row other new : List ℕ) → row ≡ old → ((k : ℕ) → k < 65 → get_or new k 0 ≡ bit_or (get_or row k 0) (get_or other k 0)) → GrowsBy old new (λ f. row_has other f ≡ true)
unfolding is_place_set
union_of old row other new same all = subst (λ r. GrowsBy r new (λ f. row_has other f ≡ true)) same (record {
  unchanged = λ f had. left f had;
  added = λ f had. right f had;
  sole = λ f there. by f (one_or _ _ (bit_at-lt (get_or row (frame_place f / 64) 0) (frame_place f % 64)) (bit_at-lt (get_or other (frame_place f / 64) 0) (frame_place f % 64)) _ (bits f) there);
})
  where
    bits : (f : ℕ) → bit_at (get_or new (frame_place f / 64) 0) (frame_place f % 64) ≡ max (bit_at (get_or row (frame_place f / 64) 0) (frame_place f % 64)) (bit_at (get_or other (frame_place f / 64) 0) (frame_place f % 64))
    bits f = ap (λ w. bit_at w (frame_place f % 64)) (all (frame_place f / 64) (omega arith)) ∙ bit_at_or (get_or row (frame_place f / 64) 0) (get_or other (frame_place f / 64) 0) (frame_place f % 64)

    left : (f : ℕ) → row_has row f ≡ true → row_has new f ≡ true
    left f had =
        let one = eqb-true (bit_at (get_or row (frame_place f / 64) 0) (frame_place f % 64)) 1 had in
        let low = bit_at-lt (get_or other (frame_place f / 64) 0) (frame_place f % 64) in
        eq-eqb _ 1 (omega (arith, bits f, one, low))

    right : (f : ℕ) → row_has other f ≡ true → row_has new f ≡ true
    right f had =
        let one = eqb-true (bit_at (get_or other (frame_place f / 64) 0) (frame_place f % 64)) 1 had in
        let low = bit_at-lt (get_or row (frame_place f / 64) 0) (frame_place f % 64) in
        eq-eqb _ 1 (omega (arith, bits f, one, low))

    by : (f : ℕ) → (row_has row f ≡ true) ⊎ (row_has other f ≡ true) → (row_has row f ≡ true) ⊎ ((g : ℕ) × (row_has other g ≡ true) × (frame_place g ≡ frame_place f))
    by f (inl had) = inl had
    by f (inr had) = inr (f, had, refl)

-- a bit that two words have, and none
pub common_at : (one other : List ℕ) (index k : ℕ) → index < 64 → k < 64 → bit_at (get_or one index 0) k ≡ 1 → bit_at (get_or other index 0) k ≡ 1
    → StandInBoth one other (64 * index + k) × (64 * index + k ≤ 4096)
common_at one other index k low within mine its = (
  (has_place one index k low within ∙ eq-eqb _ 1 mine, has_place other index k low within ∙ eq-eqb _ 1 its),
  omega (arith, within, low),
)

pub lowest_of_both : (one other : ℕ) → bit_and one other ≢ 0 → bit_and one other < 2 ^ 64 → (k : ℕ) → k ≡ trailing_zeros w64 (bit_and one other)
    → (k < 64) × (bit_at one k ≡ 1) × (bit_at other k ≡ 1)
lowest_of_both one other some fits k is =
    let (within, set, lowest) = bit_at-trailing_zeros w64 (bit_and one other) (omega (arith, some)) fits in
    let both = had (bit_at (bit_and one other) k) (bit_at one k) (bit_at other k) (bit_at_and one other k) (bit_at-lt one k) (bit_at-lt other k) (ap (λ j. bit_at (bit_and one other) j) is ∙ set) in
    (omega (arith, is, within), both.0, both.1)
  where
    had : (m x y : ℕ) → m ≡ min x y → x < 2 → y < 2 → m ≡ 1 → (x ≡ 1) × (y ≡ 1)
    had m x y least small short whole = (omega arith, omega arith)

-- none is lower
pub none_lower : (one other : ℕ) → bit_and one other ≢ 0 → bit_and one other < 2 ^ 64 → (k : ℕ) → k ≡ trailing_zeros w64 (bit_and one other)
    → (j : ℕ) → j < k → ¬ ((bit_at one j ≡ 1) × (bit_at other j ≡ 1))
none_lower one other some fits k is j below (mine, its) =
    let (within, set, lowest) = bit_at-trailing_zeros w64 (bit_and one other) (omega (arith, some)) fits in
    omega (arith, lowest j (omega (arith, is, below)), bit_at_and one other j, mine, its)

pub none_below : (one other : List ℕ) (index k : ℕ) → index < 64 → k < 64
    → ((j : ℕ) → j < k → ¬ ((bit_at (get_or one index 0) j ≡ 1) × (bit_at (get_or other index 0) j ≡ 1)))
    → ((f : ℕ) → f < 64 * index → ¬ StandInBoth one other f) → (f : ℕ) → f < 64 * index + k → ¬ StandInBoth one other f
none_below one other index k low small none before f within (has_one, has_other) = by (cases_lt f (64 * index))
  where
    here : (j : ℕ) → j < k → f ≡ 64 * index + j → ⊥
    here j lower is =
        let a = eqb-true _ 1 (sym (has_place one index j low (omega (arith, lower, small))) ∙ ap (λ g. row_has one g) (sym is) ∙ has_one) in
        let b = eqb-true _ 1 (sym (has_place other index j low (omega (arith, lower, small))) ∙ ap (λ g. row_has other g) (sym is) ∙ has_other) in
        none j lower (a, b)

    by : (f < 64 * index) ⊎ (64 * index ≤ f) → ⊥
    by (inl below) = before f below (has_one, has_other)
    by (inr above) = here (f - 64 * index) (omega (arith, above, within)) (omega (arith, above))

pub no_common_at : (one other : List ℕ) (index : ℕ) → index < 64 → bit_and (get_or one index 0) (get_or other index 0) ≡ 0
    → ((f : ℕ) → f < 64 * index → ¬ StandInBoth one other f) → (f : ℕ) → f < 64 * (index + 1) → ¬ StandInBoth one other f
no_common_at one other index low none before f within (has_one, has_other) = by (cases_lt f (64 * index))
  where
    here : (k : ℕ) → k < 64 → f ≡ 64 * index + k → ⊥
    here k small is =
        let a = eqb-true _ 1 (sym (has_place one index k low small) ∙ ap (λ g. row_has one g) (sym is) ∙ has_one) in
        let b = eqb-true _ 1 (sym (has_place other index k low small) ∙ ap (λ g. row_has other g) (sym is) ∙ has_other) in
        omega (arith, a, b, bit_at_and (get_or one index 0) (get_or other index 0) k, ap (λ w. bit_at w k) none, bit_at-zero k)

    by : (f < 64 * index) ⊎ (64 * index ≤ f) → ⊥
    by (inl below) = before f below (has_one, has_other)
    by (inr above) = here (f - 64 * index) (omega arith) (omega arith)

-- the union, word by word
pub union_next : (row other now : List ℕ) (index : ℕ) → length now ≡ 65 → index < 65
    → ((k : ℕ) → k < index → get_or now k 0 ≡ bit_or (get_or row k 0) (get_or other k 0)) → ((k : ℕ) → index ≤ k → get_or now k 0 ≡ get_or row k 0)
    → ((k : ℕ) → k < index + 1 → get_or (set now index (bit_or (get_or now index 0) (get_or other index 0))) k 0 ≡ bit_or (get_or row k 0) (get_or other k 0))
    × ((k : ℕ) → index + 1 ≤ k → get_or (set now index (bit_or (get_or now index 0) (get_or other index 0))) k 0 ≡ get_or row k 0)
union_next row other now index long within done left = (
  (λ k below. by k (cases_eq k index) below),
  (λ k above. get_or-set_other now index k written 0 (λ same. omega arith) ∙ left k (omega arith)),
)
  where
    written : ℕ
    written = bit_or (get_or now index 0) (get_or other index 0)

    by : (k : ℕ) → (k ≡ index) ⊎ (k ≢ index) → k < index + 1 → get_or (set now index written) k 0 ≡ bit_or (get_or row k 0) (get_or other k 0)
    by k (inl same) below =
        ap (λ j. get_or (set now index written) j 0) same ∙ get_or-set_same now index written 0 (omega (arith, long, within))
        ∙ ap (λ w. bit_or w (get_or other index 0)) (left index (omega arith)) ∙ ap (λ j. bit_or (get_or row j 0) (get_or other j 0)) (sym same)
    by k (inr differ) below = get_or-set_other now index k written 0 differ ∙ done k (omega (arith, differ, below))

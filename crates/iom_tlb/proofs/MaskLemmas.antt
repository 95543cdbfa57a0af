-- The lowest lane at which both of two masks are set.
use Rattle.std.proofs.Common.{◌≡◌, ◌≢◌, ◌/◌, ◌%◌, eq-eqb, ◌+◌, ◌*◌, ◌^◌, ◌<◌, ◌≤◌, ◌∙◌, ℕ, Bool, true, false, not, ◌&&◌, List, [], ◌∷◌, map, length, get_or, refl, sym, ap, arith, ◌==◌}
use Rattle.std.proofs.lemmas.List.{length-map, get_or-map, map-id}
use borrow.Author.Tests.{eqb-true}
use Rattle.std.specs.Int.RustNames.{bit_and}
use Rattle.std.specs.List.{prefix_len}
use Rattle.std.proofs.lemmas.Nat.{and_block}
use Rattle.std.specs.Simd.Lanes.{mask_l, zip2}
use Rattle.std.proofs.lemmas.Simd.{get_or-zip2, trailing_mask_l, length-zip2, bit_mask_l}
use Rattle.std.proofs.lemmas.List.Sums.{prefix_len_passes, prefix_len_stops}
use lib.Count.{count_trailing_zeros}
use Rattle.std.proofs.Math.Nat.{zero-div}
use Rattle.iom_tlb.proofs.KeyLemmas.{both}

step : (a b x y : ℕ) → x < 2 → y < 2 → bit_and (x + 2 * a) (y + 2 * b) ≡ bit_and x y + 2 * bit_and a b
step a b x y lx ly =
    let p : x + 2 * a ≡ a * 2 ^ 1 + x = omega arith in
    let q : y + 2 * b ≡ b * 2 ^ 1 + y = omega arith in
    let r = and_block 1 a b x y lx ly in
    rw (p, q, r) (omega arith)

pub mask_and : (xs ys : List Bool) → length xs ≡ length ys → bit_and (mask_l xs) (mask_l ys) ≡ mask_l (zip2 ◌&&◌ xs ys)
mask_and [] [] e = refl
mask_and [] (y ∷ ys) e = absurd (omega (arith, e))
mask_and (x ∷ xs) [] e = absurd (omega (arith, e))
mask_and (true ∷ xs) (true ∷ ys) e = step _ _ 1 1 (omega arith) (omega arith) ∙ ap (λ n. 1 + 2 * n) (mask_and xs ys (omega (arith, e)))
mask_and (true ∷ xs) (false ∷ ys) e = step _ _ 1 0 (omega arith) (omega arith) ∙ ap (λ n. 0 + 2 * n) (mask_and xs ys (omega (arith, e)))
mask_and (false ∷ xs) (true ∷ ys) e = step _ _ 0 1 (omega arith) (omega arith) ∙ ap (λ n. 0 + 2 * n) (mask_and xs ys (omega (arith, e)))
mask_and (false ∷ xs) (false ∷ ys) e = step _ _ 0 0 (omega arith) (omega arith) ∙ ap (λ n. 0 + 2 * n) (mask_and xs ys (omega (arith, e)))

both_lanes : List ℕ → List ℕ → ℕ → ℕ → List Bool
both_lanes ss ps s p = zip2 ◌&&◌ (map (λ x. x == s) ss) (map (λ x. x == p) ps)

length-both : (ss ps : List ℕ) (s p : ℕ) → length ss ≡ 8 → length ps ≡ 8 → length (both_lanes ss ps s p) ≡ 8
unfolding both_lanes
length-both ss ps s p ls lp = length-zip2 ◌&&◌ (map (λ x. x == s) ss) (map (λ x. x == p) ps) (length-map ss (λ x. x == s) ∙ ls ∙ sym lp ∙ sym (length-map ps (λ x. x == p))) ∙ length-map ss (λ x. x == s) ∙ ls

lane : (ss ps : List ℕ) (s p k : ℕ) → length ss ≡ 8 → length ps ≡ 8 → k < 8 → get_or (both_lanes ss ps s p) k false ≡ (get_or ss k 0 == s) && (get_or ps k 0 == p)
unfolding both_lanes
lane ss ps s p k ls lp lt =
    let a : k < length ss = omega (arith, ls) in
    let b : k < length ps = omega (arith, lp) in
    let a2 : k < length (map (λ x. x == s) ss) = rw (length-map ss (λ x. x == s)) a in
    let b2 : k < length (map (λ x. x == p) ps) = rw (length-map ps (λ x. x == p)) b in
    get_or-zip2 ◌&&◌ (map (λ x. x == s) ss) (map (λ x. x == p) ps) k false false false a2 b2
    ∙ ap (λ b. b && get_or (map (λ x. x == p) ps) k false) (get_or-map (λ x. x == s) ss k 0 false a)
    ∙ ap (λ b. (get_or ss k 0 == s) && b) (get_or-map (λ x. x == p) ps k 0 false b)

some_set : (ms : List Bool) → 0 < mask_l ms → prefix_len (λ b. not b) ms < length ms
some_set [] h = absurd (omega (arith, h))
some_set (true ∷ ms) h = omega arith
some_set (false ∷ ms) h = omega (arith, some_set ms (omega (arith, h)))

both_same : (s p : ℕ) → (s == s) && (p == p) ≡ true
both_same s p = rw (eq-eqb s s refl, eq-eqb p p refl) refl

not_false : (b : Bool) → not b ≡ false → b ≡ true
not_false true e = refl
not_false false e = absurd (cc)

zero_bit : (k : ℕ) → 0 / 2 ^ k % 2 ≡ 0
zero_bit k = rw (zero-div (2 ^ k)) refl

lowest_set : (ms : List Bool) → length ms ≤ 64 → 0 < mask_l ms → count_trailing_zeros 64 (mask_l ms) ≡ prefix_len (λ b. not b) ms
lowest_set ms le h =
    let same : map (λ (b : Bool). b) ms ≡ ms = map-id ms in
    let h2 : 0 < mask_l (map (λ (b : Bool). b) ms) = rw same h in
    rw same at (trailing_mask_l (λ (b : Bool). b) 64 ms le h2)

masks : (ss ps : List ℕ) (s p : ℕ) → length ss ≡ 8 → length ps ≡ 8 → bit_and (mask_l (map (λ x. x == s) ss)) (mask_l (map (λ x. x == p) ps)) ≡ mask_l (both_lanes ss ps s p)
unfolding both_lanes
masks ss ps s p ls lp = mask_and (map (λ x. x == s) ss) (map (λ x. x == p) ps) (length-map ss (λ x. x == s) ∙ ls ∙ sym lp ∙ sym (length-map ps (λ x. x == p)))

-- where lanes are set, the lowest is a lane at which both words are those asked, and none before it is
pub lowest_way : (ss ps : List ℕ) (s p m : ℕ) → length ss ≡ 8 → length ps ≡ 8 → m ≡ bit_and (mask_l (map (λ x. x == s) ss)) (mask_l (map (λ x. x == p) ps)) → 0 < m
    → ((count_trailing_zeros 64 m < 8) × (get_or ss (count_trailing_zeros 64 m) 0 ≡ s) × (get_or ps (count_trailing_zeros 64 m) 0 ≡ p))
    × ((k : ℕ) → k < count_trailing_zeros 64 m → get_or ss k 0 ≡ s → get_or ps k 0 ≢ p)
lowest_way ss ps s p m ls lp e pos =
    let ms = both_lanes ss ps s p in
    let lm : length ms ≡ 8 = length-both ss ps s p ls lp in
    let is : m ≡ mask_l ms = e ∙ masks ss ps s p ls lp in
    let some : 0 < mask_l ms = rw is at pos in
    let w : count_trailing_zeros 64 m ≡ prefix_len (λ b. not b) ms = rw is (lowest_set ms (omega (arith, lm)) some) in
    let within : prefix_len (λ b. not b) ms < 8 = omega (arith, lm, some_set ms some) in
    let at = prefix_len_stops (λ b. not b) ms false (some_set ms some) in
    let set = both _ _ (sym (lane ss ps s p (prefix_len (λ b. not b) ms) ls lp within) ∙ not_false _ at) in
    rw w (
      (within, eqb-true _ _ set.0, eqb-true _ _ set.1),
      (λ k lt a b. let h = prefix_len_passes (λ b. not b) ms k false lt in
          let f : get_or ms k false ≡ true = lane ss ps s p k ls lp (omega (arith, within)) ∙ rw (a, b) (both_same s p) in
          absurd (let g = rw f at h in cc)),
    )

-- where none is set, there is no such lane
pub no_way : (ss ps : List ℕ) (s p m : ℕ) → length ss ≡ 8 → length ps ≡ 8 → m ≡ bit_and (mask_l (map (λ x. x == s) ss)) (mask_l (map (λ x. x == p) ps)) → m ≡ 0
    → (k : ℕ) → k < 8 → get_or ss k 0 ≡ s → get_or ps k 0 ≢ p
no_way ss ps s p m ls lp e none k lt = λ a b.
    let ms = both_lanes ss ps s p in
    let is : mask_l ms ≡ 0 = sym (masks ss ps s p ls lp) ∙ sym e ∙ none in
    let f : get_or ms k false ≡ true = lane ss ps s p k ls lp lt ∙ rw (a, b) (both_same s p) in
    let g = bit_mask_l ms k in
    absurd (let h : 0 / 2 ^ k % 2 ≡ 1 = rw (f, is) at g in omega (arith, zero_bit k, h))

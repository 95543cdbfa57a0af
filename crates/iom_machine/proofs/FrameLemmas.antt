-- Lists of frames.
use Rattle.std.proofs.Common.{◌≡◌, ℕ, ◌+◌, ◌*◌, ◌/◌, ◌<◌, inl, inr, Bool, false, true, List, [], ◌∷◌, ◌++◌, length, length-append, All, Contains, nat_eq, Option, None, refl, sym, ap, ◌∙◌, subst, arith}
use Rattle.std.specs.Cmp.{nat_eq_equiv}
use Rattle.std.specs.List.{IsDistinct, list_any}
use Rattle.std.proofs.lemmas.Bool.{cases_eq, eqb-true, eq-eqb}
use Rattle.std.proofs.lemmas.List.Elements.{All-nil, All-push, All-weaker, All-contains, Contains-push, Contains-append_left}
use Rattle.std.proofs.lemmas.Map.Keys.{IsDistinct-push}
use Rattle.iom_machine.specs.Judging.{ListsAll, CountsAll}
use Rattle.iom_machine.proofs.JudgeLemmas.{passing_element, some_passes, fewer_than}
use Rattle.iom_machine.specs.Frames.{IsFree, FewerThan, IsFreeBesides, IsFreeRun}
use Rattle.iom_machine.specs.declared.state.State.{State}

-- a number above all of a list is none of it
not_among : (xs : List ℕ) (n : ℕ) → All (λ x. x < n) xs → list_any (nat_eq n) xs ≡ false
not_among xs n below = by (list_any (nat_eq n) xs) refl
  where
    by : (b : Bool) → list_any (nat_eq n) xs ≡ b → list_any (nat_eq n) xs ≡ false
    by false e = e
    by true e =
        let found = passing_element (nat_eq n) xs e in
        let low : found.0 < n = All-contains (λ x. x < n) xs found.0 below found.1 in
        let same : n ≡ found.0 = eqb-true n found.0 found.2 in absurd (omega arith)

pub ListsAll-more : (P : ℕ → Type 0) (found : List ℕ) (n : ℕ) → ListsAll found n P → P n → ListsAll (found ++ n ∷ []) (n + 1) P
ListsAll-more P found n (once, each, whole) here = (
  IsDistinct-push nat_eq_equiv found n once (not_among found n (All-weaker (λ x. (x < n) × P x) (λ x. x < n) (λ x h. h.0) found each)),
  All-push (λ x. (x < n + 1) × P x) found n (All-weaker (λ x. (x < n) × P x) (λ x. (x < n + 1) × P x) (λ x h. (omega (arith, h.0), h.1)) found each) (omega arith, here),
  (λ x below p. elim (cases_eq x n) [
    | inl same ↦ subst (λ y. Contains (found ++ n ∷ []) y) (sym same) (Contains-push found n)
    | inr other ↦ Contains-append_left found (n ∷ []) x (whole x (omega arith) p)
  ]),
)

pub ListsAll-same : (P : ℕ → Type 0) (found : List ℕ) (n : ℕ) → ListsAll found n P → ¬ P n → ListsAll found (n + 1) P
ListsAll-same P found n (once, each, whole) never = (
  once,
  All-weaker (λ x. (x < n) × P x) (λ x. (x < n + 1) × P x) (λ x h. (omega (arith, h.0), h.1)) found each,
  (λ x below p. elim (cases_eq x n) [
    | inl same ↦ absurd (never (subst P same p))
    | inr other ↦ whole x (omega arith) p
  ]),
)

pub ListsAll-none : (P : ℕ → Type 0) → ListsAll [] 0 P
unfolding IsDistinct
ListsAll-none P = (tt, All-nil (λ x. (x < 0) × P x), (λ x below p. absurd (omega arith)))

-- the count of the free frames decides whether there are fewer than so many
pub fewer_free : (state : State) (named : Option ℕ) (count n : ℕ) → CountsAll count (length state.frames) (IsFreeBesides state named)
    → (count < n → FewerThan n (IsFreeBesides state named)) × (FewerThan n (IsFreeBesides state named) → count < n)
fewer_free state named count n (found, (once, each, whole), many) =
    let decided = fewer_than (IsFreeBesides state named) found n once
    (All-weaker (λ x. (x < length state.frames) × IsFreeBesides state named x) (IsFreeBesides state named) (λ x h. h.1) found each)
    (λ x p. some_passes (nat_eq x) found x (whole x p.0.0 p) (eq-eqb x x refl)) in
    ((λ short. decided.0 (omega (arith, many))), (λ fewer. let short : length found < n = decided.1 fewer in omega (arith, many)))

-- and so many runs, since the last frame of each lies in memory
pub fewer_runs_free : (state : State) (count n : ℕ) → CountsAll count (length state.frames / 4) (IsFreeRun state)
    → (count < n → FewerThan n (IsFreeRun state)) × (FewerThan n (IsFreeRun state) → count < n)
fewer_runs_free state count n (found, (once, each, whole), many) =
    let decided = fewer_than (IsFreeRun state) found n once
    (All-weaker (λ x. (x < length state.frames / 4) × IsFreeRun state x) (IsFreeRun state) (λ x h. h.1) found each)
    (λ x p. let last : 4 * x + 3 < length state.frames = p.3.0 in
    some_passes (nat_eq x) found x (whole x (omega (arith, last)) p) (eq-eqb x x refl)) in
    ((λ short. decided.0 (omega (arith, many))), (λ fewer. let short : length found < n = decided.1 fewer in omega (arith, many)))

-- where none is named, these are the free frames
pub free_besides_none : (state : State) (numbers : List ℕ) → (All (IsFreeBesides state None) numbers → All (IsFree state) numbers) × (All (IsFree state) numbers → All (IsFreeBesides state None) numbers)
free_besides_none state numbers = (
  All-weaker (IsFreeBesides state None) (IsFree state) (λ x h. h.0) numbers,
  All-weaker (IsFree state) (IsFreeBesides state None) (λ x h. (h, tt)) numbers,
)

pub fewer_besides_none : (state : State) (n : ℕ) → (FewerThan n (IsFreeBesides state None) → FewerThan n (IsFree state)) × (FewerThan n (IsFree state) → FewerThan n (IsFreeBesides state None))
fewer_besides_none state n = (
  (λ fewer numbers once each. fewer numbers once ((free_besides_none state numbers).1 each)),
  (λ fewer numbers once each. fewer numbers once ((free_besides_none state numbers).0 each)),
)

-- counting one more number
pub CountsAll-none : (P : ℕ → Type 0) → CountsAll 0 0 P
CountsAll-none P = ([], ListsAll-none P, refl)

pub CountsAll-more : (P : ℕ → Type 0) (count n : ℕ) → CountsAll count n P → P n → CountsAll (count + 1) (n + 1) P
CountsAll-more P count n (found, lists, many) here = (found ++ n ∷ [], ListsAll-more P found n lists here, length-append found (n ∷ []) ∙ ap (λ k. k + 1) many)

pub CountsAll-same : (P : ℕ → Type 0) (count n : ℕ) → CountsAll count n P → ¬ P n → CountsAll count (n + 1) P
CountsAll-same P count n (found, lists, many) never = (found, ListsAll-same P found n lists never, many)

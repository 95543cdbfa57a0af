-- Each state has its counts.
use Rattle.std.proofs.Common.{◌≡◌, ◌<◌, ◌++◌, ◌∙◌, ◌||◌, ◌&&◌, ℕ, zero, suc, inl, inr, Bool, true, false, not, List, [], ◌∷◌, length, All, Contains, nat_eq, Option, None, Some, IfSome, is_some, refl, sym, ap, subst, arith}
use Rattle.std.specs.Cmp.{nat_eq_equiv}
use Rattle.std.specs.List.{IsDistinct, list_any}
use Rattle.std.proofs.lemmas.Bool.{cases_eq, ne_eqb, and_parts, and_from, false≢true}
use Rattle.std.proofs.lemmas.List.Elements.{All-nil, All-head, All-tail, All-push, All-weaker, Contains-push, Contains-append_left}
use Rattle.std.proofs.lemmas.Map.Keys.{IsDistinct-push}
use Rattle.iom_machine.specs.declared.outcome.Trace.{Trace}
use Rattle.iom_machine.specs.declared.state.State.{State}
use Rattle.iom_machine.specs.Frames.{IsFree, is_reserved}
use Rattle.iom_machine.specs.Judging.{anyone_reaches_in}
use Rattle.iom_machine.specs.Tickets.{pending_tickets}
use Rattle.iom_machine.specs.Traces.{AreFree, IsTrace, count_in_flight}
use Rattle.iom_machine.proofs.JudgeLemmas.{out_of_reach_test}

-- a number above all of a list is none of it
not_among : (xs : List ℕ) (n : ℕ) → All (λ x. x < n) xs → list_any (nat_eq n) xs ≡ false
not_among [] n below = refl
not_among (x ∷ xs) n below =
    let first : x < n = All-head (λ x. x < n) x xs below in
    ap (λ t. t || list_any (nat_eq n) xs) (ne_eqb n x (λ same. absurd (omega (arith, first)))) ∙ not_among xs n (All-tail (λ x. x < n) x xs below)

-- these are the numbers below the limit that pass the test, each once
abbrev ArePassing : (ℕ → Bool) → ℕ → List ℕ → Type 0
ArePassing test limit xs =
    IsDistinct nat_eq xs × All (λ n. (n < limit) × (test n ≡ true)) xs × ((n : ℕ) → (n < limit) × (test n ≡ true) → Contains xs n)

passing : (test : ℕ → Bool) (limit : ℕ) → (xs : List ℕ) × ArePassing test limit xs
unfolding IsDistinct
passing test zero = ([], (tt, All-nil (λ n. (n < 0) × (test n ≡ true)), (λ n h. absurd (omega (arith, h.0)))))
passing test (suc limit) = by (test limit) refl (passing test limit)
  where
    wider : (xs : List ℕ) → All (λ n. (n < limit) × (test n ≡ true)) xs → All (λ n. (n < suc limit) × (test n ≡ true)) xs
    wider xs = All-weaker (λ n. (n < limit) × (test n ≡ true)) (λ n. (n < suc limit) × (test n ≡ true)) (λ n h. (omega (arith, h.0), h.1)) xs

    by : (t : Bool) → test limit ≡ t → (xs : List ℕ) × ArePassing test limit xs → (xs : List ℕ) × ArePassing test (suc limit) xs
    by true e (xs, (once, each, whole)) = (
      xs ++ limit ∷ [],
      (
        IsDistinct-push nat_eq_equiv xs limit once (not_among xs limit (All-weaker (λ n. (n < limit) × (test n ≡ true)) (λ n. n < limit) (λ n h. h.0) xs each)),
        All-push (λ n. (n < suc limit) × (test n ≡ true)) xs limit (wider xs each) (omega arith, e),
        (λ n h. elim (cases_eq n limit) [
          | inl same ↦ subst (λ y. Contains (xs ++ limit ∷ []) y) (sym same) (Contains-push xs limit)
          | inr other ↦ Contains-append_left xs (limit ∷ []) n (whole n (omega (arith, h.0, other), h.1))
        ]),
      ),
    )
    by false e (xs, (once, each, whole)) = (
      xs,
      (
        once,
        wider xs each,
        (λ n h. elim (cases_eq n limit) [
          | inl same ↦ absurd (false≢true (sym e ∙ ap test (sym same) ∙ h.1))
          | inr other ↦ whole n (omega (arith, h.0, other), h.1)
        ]),
      ),
    )

-- whether a frame of memory is free
abbrev free_test : State → ℕ → Bool
free_test state n = not (is_reserved state.frames n) && not (anyone_reaches_in state.history state.history n)

not_false : (b : Bool) → not b ≡ true → b ≡ false
not_false true e = cc
not_false false e = refl

free_is : (state : State) (n : ℕ) → (n < length state.frames) × (free_test state n ≡ true) → IsFree state n
free_is state n (inside, passes) =
    let both = and_parts (not (is_reserved state.frames n)) (not (anyone_reaches_in state.history state.history n)) passes in
    (inside, not_false (is_reserved state.frames n) both.0, (out_of_reach_test state.history n).0 both.1)

free_passes : (state : State) (n : ℕ) → IsFree state n → (n < length state.frames) × (free_test state n ≡ true)
free_passes state n free = (
  free.0,
  and_from (not (is_reserved state.frames n)) (not (anyone_reaches_in state.history state.history n)) (ap not free.1) ((out_of_reach_test state.history n).1 free.2),
)

free_count : (state : State) → (count : ℕ) × AreFree state count
free_count state =
    let (frames, (once, each, whole)) = passing (free_test state) (length state.frames) in (
      length frames,
      (
        frames,
        once,
        All-weaker (λ n. (n < length state.frames) × (free_test state n ≡ true)) (IsFree state) (free_is state) frames each,
        (λ n free. whole n (free_passes state n free)),
        refl,
      ),
    )

-- there are counts of the state, where there are to be
pub some_trace : (counts : Bool) (state : State) → (trace : Option Trace) × (is_some trace ≡ counts) × IfSome trace (IsTrace state)
some_trace false state = (None, refl, tt)
some_trace true state =
    let free = free_count state in (
      Some (record { tickets = pending_tickets state; flight = count_in_flight state.devices; messages = 0; free = free.0 }),
      refl,
      record { tickets = refl; flight = refl; free = free.1 },
    )

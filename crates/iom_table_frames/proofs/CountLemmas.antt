-- The frames that two sets have in common, counted, are the free ones.
use Rattle.std.proofs.Common.{◌≡◌, ◌↔◌, inl, inr, ℕ, zero, suc, ◌<◌, Bool, ◌||◌, true, false, List, [], ◌∷◌, ◌++◌, length, All, Contains, nat_eq, if◌then◌else◌, Option, None, refl, sym, ap, ◌∙◌, subst, arith}
use Rattle.std.specs.Cmp.{nat_eq_equiv}
use Rattle.std.specs.List.{IsDistinct, list_any}
use Rattle.std.proofs.lemmas.Bool.{cases_eq, ne_eqb, and_parts, and_from, false≢true}
use Rattle.std.proofs.lemmas.List.Elements.{All-nil, All-head, All-tail, All-push, All-weaker, Contains-push, Contains-append_left}
use Rattle.std.proofs.lemmas.Map.Keys.{IsDistinct-push}
use Rattle.iom_frame_set.specs.Sets.{Words, has, in_both, common_below}
use Rattle.iom_ledger.specs.declared.ledger.Ledger.{Ledger}
use Rattle.iom_ledger.specs.Shown.{IsFreeIn}
use Rattle.iom_base.specs.declared.owner.Owner.{Owner}
use Rattle.iom_table_frames.specs.Owners.{AreSoMany, IsFreeForTable, IsFreeInMemory}
use Rattle.iom_table_frames.specs.Unreserved.{IsUnreservedSet}
use Rattle.iom_table_frames.proofs.OwnerLemmas.{unreserved_from_mark, mark_from_unreserved}

-- numbers of one sort are those of another
pub AreSoMany-same : (P Q : ℕ → Type 0) (count : ℕ) → ((n : ℕ) → P n ↔ Q n) → AreSoMany P count → AreSoMany Q count
AreSoMany-same P Q count same (numbers, once, each, whole, many) =
    (numbers, once, All-weaker P Q (λ n p. (same n).0 p) numbers each, (λ n q. whole n ((same n).1 q)), many)

-- a number above all of a list is none of it
not_among : (xs : List ℕ) (n : ℕ) → All (λ x. x < n) xs → list_any (nat_eq n) xs ≡ false
not_among [] n below = refl
not_among (x ∷ xs) n below =
    let first : x < n = All-head (λ x. x < n) x xs below in
    ap (λ t. t || list_any (nat_eq n) xs) (ne_eqb n x (λ same. absurd (omega (arith, first)))) ∙ not_among xs n (All-tail (λ x. x < n) x xs below)

-- these are the numbers below the limit that are in both sets, each once
abbrev IsCommonList : Words → Words → ℕ → List ℕ → Type 0
IsCommonList a b limit xs =
    IsDistinct nat_eq xs × All (λ n. (n < limit) × (in_both a b n ≡ true)) xs × ((n : ℕ) → (n < limit) × (in_both a b n ≡ true) → Contains xs n)

common_is : (a b : Words) (limit : ℕ) → IsCommonList a b limit (common_below a b limit)
unfolding common_below IsDistinct
common_is a b zero = (tt, All-nil (λ n. (n < 0) × (in_both a b n ≡ true)), (λ n h. absurd (omega (arith, h.0))))
common_is a b (suc limit) = by (in_both a b limit) refl (common_is a b limit)
  where
    wider : All (λ n. (n < limit) × (in_both a b n ≡ true)) (common_below a b limit) → All (λ n. (n < suc limit) × (in_both a b n ≡ true)) (common_below a b limit)
    wider = All-weaker (λ n. (n < limit) × (in_both a b n ≡ true)) (λ n. (n < suc limit) × (in_both a b n ≡ true)) (λ n h. (omega (arith, h.0), h.1)) (common_below a b limit)

    by : (t : Bool) → in_both a b limit ≡ t → IsCommonList a b limit (common_below a b limit)
        → IsCommonList a b (suc limit) (if t then common_below a b limit ++ limit ∷ [] else common_below a b limit)
    by true e (once, each, whole) = (
      IsDistinct-push nat_eq_equiv (common_below a b limit) limit once
          (not_among (common_below a b limit) limit (All-weaker (λ n. (n < limit) × (in_both a b n ≡ true)) (λ n. n < limit) (λ n h. h.0) (common_below a b limit) each)),
      All-push (λ n. (n < suc limit) × (in_both a b n ≡ true)) (common_below a b limit) limit (wider each) (omega arith, e),
      (λ n h. elim (cases_eq n limit) [
        | inl same ↦ subst (λ y. Contains (common_below a b limit ++ limit ∷ []) y) (sym same) (Contains-push (common_below a b limit) limit)
        | inr other ↦ Contains-append_left (common_below a b limit) (limit ∷ []) n (whole n (omega (arith, h.0, other), h.1))
      ]),
    )
    by false e (once, each, whole) = (
      once,
      wider each,
      (λ n h. elim (cases_eq n limit) [
        | inl same ↦ absurd (false≢true (sym e ∙ ap (in_both a b) (sym same) ∙ h.1))
        | inr other ↦ whole n (omega (arith, h.0, other), h.1)
      ]),
    )

-- the frames of memory in both sets are the free ones
pub free_counted : (owners : List (Option Owner)) (ledger : Ledger) (unreserved free : Words) → IsUnreservedSet owners unreserved
    → ((f : ℕ) → (has free f ≡ true) ↔ IsFreeIn ledger f) → (limit count : ℕ) → limit ≡ length owners → count ≡ length (common_below unreserved free limit)
    → AreSoMany (IsFreeInMemory owners ledger) count
free_counted owners ledger unreserved free is is_free limit count size counted =
    let (once, each, whole) = common_is unreserved free limit in
    AreSoMany-same (λ n. (n < limit) × (in_both unreserved free n ≡ true)) (IsFreeInMemory owners ledger) count
    (λ n. (
      (λ h.
          let both = and_parts (has unreserved n) (has free n) h.1 in (
            omega (arith, h.0),
            record { other = λ same. cc; unmarked = mark_from_unreserved owners n (sym (is.has_unreserved n) ∙ both.0); ungranted = (is_free n).0 both.1 },
          )),
      (λ it. (
        omega (arith, it.0),
        and_from (has unreserved n) (has free n) (is.has_unreserved n ∙ unreserved_from_mark owners n it.0 it.1.unmarked) ((is_free n).1 it.1.ungranted),
      )),
    )) (common_below unreserved free limit, once, each, whole, sym counted)

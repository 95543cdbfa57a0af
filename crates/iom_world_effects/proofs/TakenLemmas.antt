-- The frames that an attach takes: pages of the directory, and those of a root.
use Rattle.std.proofs.Common.{◌≡◌, ◌≢◌, ◌+◌, ◌*◌, ◌<◌, ◌≤◌, ◌⊎◌, inl, inr, ◌∙◌, ◌++◌, ℕ, zero, suc, List, [], ◌∷◌, length, All, nat_eq, get_or, Option, Some, None, slice_get, Contains, refl, sym, ap, subst, arith}
use Rattle.std.specs.List.{IsDistinct}
use Rattle.std.proofs.lemmas.Bool.{false≢true, cases_lt, eq-eqb}
use Rattle.std.proofs.lemmas.Bool.Decides.{eqb_tells}
use Rattle.iom_base.specs.declared.mode.Mode.{Mode}
use Rattle.iom_base.specs.declared.mode.Mode.TheVariants.{First, Second, Both}
use Rattle.iom_base.specs.declared.owner.Owner.{Owner}
use Rattle.iom_base.specs.declared.owner.Owner.TheVariants.{System, OneDevice}
use Rattle.iom_driver.specs.Attaching.{AreDirectoryPages, IsRootBelow, limit_below, root_frames}
use Rattle.iom_driver.specs.Choices.{AreHighestFree, owned_by}
use Rattle.iom_driver.specs.State.{DriverState}
use Rattle.iom_driver.proofs.Owners.{Among, NotAmong, among_contained, among_get, marked_among, marked_still, mark_stays, length-owned_by}
use Rattle.iom_ledger.specs.declared.ledger.Ledger.{Ledger}
use Rattle.iom_table_frames.specs.Fours.{IsHighestFour}
use Rattle.iom_table_frames.specs.Owners.{IsFreeForTable}
use Rattle.iom_world_effects.proofs.UnchangedLemmas.{not_owned}

-- below the lowest page there are no more frames than below the first limit
pub limit_low : (owners : List (Option Owner)) (ledger : Ledger) (named : Option ℕ) (limit count : ℕ) (chosen : List ℕ) → AreHighestFree owners ledger named limit count chosen
    → limit_below limit chosen ≤ limit
limit_low owners ledger named limit count [] chose = omega arith
limit_low owners ledger named limit zero (first ∷ frames) chose = absurd chose
limit_low owners ledger named limit (suc count) (first ∷ frames) chose =
    let below : first < limit = chose.0.below in
    let rest = limit_low owners ledger named first count frames chose.1 in
    omega (arith, below, rest)

-- of the free frames the chosen ones are all those from the lowest of them on
pub free_among : (owners : List (Option Owner)) (ledger : Ledger) (named : Option ℕ) (limit count : ℕ) (chosen : List ℕ) (n : ℕ) → AreHighestFree owners ledger named limit count chosen
    → n < limit → IsFreeForTable owners ledger named n → limit_below limit chosen ≤ n → Among n chosen
free_among owners ledger named limit count [] n chose low free high = absurd (omega (arith, low, high))
free_among owners ledger named limit zero (first ∷ frames) n chose low free high = absurd chose
free_among owners ledger named limit (suc count) (first ∷ frames) n chose low free high = elim (eqb_tells n first) [
  | inl e ↦ inl e.1
  | inr ne ↦ elim (cases_lt first n) [
    | inl above ↦ absurd (chose.0.highest n above low free)
    | inr le ↦ inr (free_among owners ledger named first count frames n chose.1 (let apart = ne.1 in lower n first le apart) free high)
  ]
]
  where
    lower : (n first : ℕ) → n ≤ first → n ≢ first → n < first
    lower zero zero le apart = absurd (apart refl)
    lower zero (suc b) le apart = omega arith
    lower (suc a) zero le apart = absurd (omega (arith, le))
    lower (suc a) (suc b) le apart = let rest = lower a b (omega (arith, le)) (λ same. apart (ap suc same)) in omega (arith, rest)

-- a number of two lists one after the other is of the one or of the other
pub among_either : (n : ℕ) (fs gs : List ℕ) → Among n (fs ++ gs) → Among n fs ⊎ Among n gs
among_either n [] gs here = inr here
among_either n (f ∷ fs) gs (inl same) = inl (inl same)
among_either n (f ∷ fs) gs (inr later) = elim (among_either n fs gs later) [ inl one ↦ inl (inr one) | inr other ↦ inr other ]

pub among_or : (n : ℕ) (fs : List ℕ) → Among n fs ⊎ NotAmong n fs
among_or n [] = inr tt
among_or n (f ∷ fs) = elim (eqb_tells n f) [
  | inl e ↦ inl (inl e.1)
  | inr ne ↦ elim (among_or n fs) [ inl later ↦ inl (inr later) | inr apart ↦ inr (ne.1, apart) ]
]

-- each frame of the root is free, and below the limit
four_free : (d : DriverState) (limit root n : ℕ) → IsHighestFour d.owners d.ledger limit root → Among n (root ∷ (root + 1) ∷ (root + 2) ∷ (root + 3) ∷ []) → (n < limit) × IsFreeForTable d.owners d.ledger None n
four_free d limit root n four (inl same) = let below = four.below in (omega (arith, below, same), subst (IsFreeForTable d.owners d.ledger None) (sym same) four.free.one)
four_free d limit root n four (inr (inl same)) = let below = four.below in (omega (arith, below, same), subst (IsFreeForTable d.owners d.ledger None) (sym same) four.free.two)
four_free d limit root n four (inr (inr (inl same))) = let below = four.below in (omega (arith, below, same), subst (IsFreeForTable d.owners d.ledger None) (sym same) four.free.three)
four_free d limit root n four (inr (inr (inr (inl same)))) = let below = four.below in (omega (arith, below, same), subst (IsFreeForTable d.owners d.ledger None) (sym same) four.free.four)
four_free d limit root n four (inr (inr (inr (inr never)))) = absurd never

pub root_free : (mode : Mode) (d : DriverState) (limit root n : ℕ) → IsRootBelow mode d limit root → Among n (root_frames mode root) → (n < limit) × IsFreeForTable d.owners d.ledger None n
root_free (First size) d limit root n is (inl same) = let below : root < limit = is.below in (omega (arith, below, same), subst (IsFreeForTable d.owners d.ledger None) (sym same) is.free)
root_free (First size) d limit root n is (inr never) = absurd never
root_free (Second size) d limit root n is here = four_free d limit root n is here
root_free (Both size) d limit root n is here = four_free d limit root n is here

module _ (d : DriverState) (memory : List (List ℕ)) (id root : ℕ) (mode : Mode) (pages : List ℕ) (chosen : AreDirectoryPages d memory id pages) (is_root : IsRootBelow mode d (limit_below (length memory) pages) root) where
  pages_free : (limit count : ℕ) (fs : List ℕ) (n : ℕ) → AreHighestFree d.owners d.ledger None limit count fs → Among n fs → (n < limit) × IsFreeForTable d.owners d.ledger None n
  pages_free limit count [] n chose here = absurd here
  pages_free limit zero (f ∷ fs) n chose here = absurd chose
  pages_free limit (suc count) (f ∷ fs) n chose (inl same) =
      let below : f < limit = chose.0.below in (omega (arith, below, same), subst (IsFreeForTable d.owners d.ledger None) (sym same) chose.0.free)
  pages_free limit (suc count) (f ∷ fs) n chose (inr later) =
      let below : f < limit = chose.0.below in
      let rest = pages_free f count fs n chose.1 later in
      let low : n < f = rest.0 in (omega (arith, below, low), rest.1)

  -- EACH FRAME THAT IS TAKEN is free, and one of memory
  pub taken_free : (n : ℕ) → Among n (pages ++ root_frames mode root) → (n < length memory) × IsFreeForTable d.owners d.ledger None n
  taken_free n here = elim (among_either n pages (root_frames mode root) here) [
    | inl page ↦ pages_free (length memory) _ pages n chosen page
    | inr own ↦
        let free = root_free mode d (limit_below (length memory) pages) root n is_root own in
        let low : n < limit_below (length memory) pages = free.0 in
        let most = limit_low d.owners d.ledger None (length memory) _ pages chosen in (omega (arith, low, most), free.1)
  ]

  pub taken_all : All (λ n. (n < length memory) × IsFreeForTable d.owners d.ledger None n) (pages ++ root_frames mode root)
  taken_all = λ k n lt. taken_free (get_or (pages ++ root_frames mode root) k n) (among_get (pages ++ root_frames mode root) k n lt)

-- the owners once the pages are the system's and the root the device's
abbrev pub taken_owners : ℕ → List ℕ → List ℕ → List (Option Owner) → List (Option Owner)
taken_owners id pages roots owners = owned_by (OneDevice id) roots (owned_by System pages owners)

-- what is nobody's then was neither the system's nor taken
module _ (id : ℕ) (pages roots : List ℕ) (owners : List (Option Owner)) (inside : All (λ f. f < length owners) pages) (roots_inside : All (λ f. f < length owners) roots) where
  free_elsewhere : (f : ℕ) → slice_get (taken_owners id pages roots owners) f ≡ Some None → NotAmong f roots × (slice_get (owned_by System pages owners) f ≡ Some None)
  free_elsewhere f free = elim (among_or f roots) [
    | inl here ↦ absurd (not_owned (taken_owners id pages roots owners) f (OneDevice id) free
        (marked_among (OneDevice id) f roots (owned_by System pages owners)
        (λ k n lt. subst (λ m. get_or roots k n < m) (sym (length-owned_by System pages owners)) (roots_inside k n lt)) here))
    | inr apart ↦ (apart, sym (mark_stays (OneDevice id) f roots (owned_by System pages owners) apart) ∙ free)
  ]

  pub free_before : (f : ℕ) → slice_get (taken_owners id pages roots owners) f ≡ Some None → slice_get owners f ≢ Some (Some System)
  free_before f free own = not_owned (owned_by System pages owners) f System ((free_elsewhere f free).1) (marked_still System f pages owners own)

  pub free_untaken : (f : ℕ) → slice_get (taken_owners id pages roots owners) f ≡ Some None → ¬ Contains (pages ++ roots) f
  free_untaken f free here = elim (among_either f pages roots (among_contained f (pages ++ roots) here)) [
    | inl among ↦ not_owned (owned_by System pages owners) f System ((free_elsewhere f free).1) (marked_among System f pages owners inside among)
    | inr own ↦ among_not f roots own (free_elsewhere f free).0
  ]
    where
      among_not : (n : ℕ) (fs : List ℕ) → Among n fs → NotAmong n fs → ⊥
      among_not n [] among apart = among
      among_not n (g ∷ gs) (inl same) apart = apart.0 same
      among_not n (g ∷ gs) (inr later) apart = among_not n gs later apart.1

-- FEW RUNS: different runs of four, the last frame of each of which is one of at most two pages, are at most two
abbrev Ends : List ℕ → ℕ → Type 0
Ends pages run = Among (4 * run + 3) pages

same_run : (a b p : ℕ) → 4 * a + 3 ≡ p → 4 * b + 3 ≡ p → a ≡ b
same_run a b p one other = omega (arith, one, other)

three_runs : (a b c : ℕ) (pages : List ℕ) → length pages ≤ 2 → Ends pages a → Ends pages b → Ends pages c → a ≢ b → a ≢ c → b ≢ c → ⊥
three_runs a b c [] few one two three ab ac bc = one
three_runs a b c (p ∷ []) few (inl one) (inl two) three ab ac bc = ab (same_run a b p one two)
three_runs a b c (p ∷ []) few (inl one) (inr never) three ab ac bc = never
three_runs a b c (p ∷ []) few (inr never) two three ab ac bc = never
three_runs a b c (p ∷ q ∷ r ∷ more) few one two three ab ac bc = omega (arith, few)
three_runs a b c (p ∷ q ∷ []) few (inl one) (inl two) three ab ac bc = ab (same_run a b p one two)
three_runs a b c (p ∷ q ∷ []) few (inl one) (inr (inl two)) (inl three) ab ac bc = ac (same_run a c p one three)
three_runs a b c (p ∷ q ∷ []) few (inl one) (inr (inl two)) (inr (inl three)) ab ac bc = bc (same_run b c q two three)
three_runs a b c (p ∷ q ∷ []) few (inl one) (inr (inl two)) (inr (inr never)) ab ac bc = never
three_runs a b c (p ∷ q ∷ []) few (inl one) (inr (inr never)) three ab ac bc = never
three_runs a b c (p ∷ q ∷ []) few (inr (inl one)) (inl two) (inl three) ab ac bc = bc (same_run b c p two three)
three_runs a b c (p ∷ q ∷ []) few (inr (inl one)) (inl two) (inr (inl three)) ab ac bc = ac (same_run a c q one three)
three_runs a b c (p ∷ q ∷ []) few (inr (inl one)) (inl two) (inr (inr never)) ab ac bc = never
three_runs a b c (p ∷ q ∷ []) few (inr (inl one)) (inr (inl two)) three ab ac bc = ab (same_run a b q one two)
three_runs a b c (p ∷ q ∷ []) few (inr (inl one)) (inr (inr never)) three ab ac bc = never
three_runs a b c (p ∷ q ∷ []) few (inr (inr never)) two three ab ac bc = never

pub few_runs : (pages : List ℕ) → length pages ≤ 2 → (numbers : List ℕ) → IsDistinct nat_eq numbers → All (Ends pages) numbers → length numbers < 3
unfolding IsDistinct
few_runs pages few [] distinct all = omega arith
few_runs pages few (a ∷ []) distinct all = omega arith
few_runs pages few (a ∷ b ∷ []) distinct all = omega arith
few_runs pages few (a ∷ b ∷ c ∷ more) distinct all =
    absurd (three_runs a b c pages few (all 0 0 (omega arith)) (all 1 0 (omega arith)) (all 2 0 (omega arith))
    (λ same. false≢true (sym distinct.0.0 ∙ eq-eqb a b same))
    (λ same. false≢true (sym distinct.0.1.0 ∙ eq-eqb a c same))
    (λ same. false≢true (sym distinct.1.0.0 ∙ eq-eqb b c same)))

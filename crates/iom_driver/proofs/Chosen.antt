-- The frames that are chosen for tables: they are free, distinct and as many as are wanted; and where some are chosen, enough are free.
use Rattle.std.proofs.Common.{suc, zero, ◌≡◌, ◌≢◌, ◌+◌, ◌-◌, ◌<◌, ◌≤◌, ℕ, List, [], ◌∷◌, ◌++◌, length, Option, refl, sym, ap, subst, arith, All}
use Rattle.std.specs.List.{AllPairs}
use Rattle.std.proofs.lemmas.List.Elements.{All-nil, All-cons}
use Rattle.std.proofs.lemmas.List.Kept.{AllPairs-cons}
use Rattle.iom_base.specs.declared.owner.Owner.{Owner}
use Rattle.iom_ledger.specs.declared.ledger.Ledger.{Ledger}
use Rattle.iom_table_frames.specs.Owners.{IsFreeForTable, IsHighestFree, NoneIsFree, HasFree}
use Rattle.iom_table_frames.proofs.ChoiceLemmas.{HasFree-next, HasFree-none}
use Rattle.iom_driver.specs.Attaching.{limit_below}
use Rattle.iom_driver.specs.Choices.{AreHighestFree}
use Rattle.iom_driver.proofs.Owners.{NotAmong}

pub record AreChosen (owners : List (Option Owner)) (ledger : Ledger) (named : Option ℕ) (limit count : ℕ) (chosen : List ℕ) : Type 0 where
  pub many : length chosen ≡ count
  pub inside : All (λ frame. frame < limit) chosen
  pub free : All (λ frame. IsFreeForTable owners ledger named frame) chosen
  pub distinct : AllPairs (λ one other. one ≢ other) chosen

pairs_nil : {X : Type 0} (R : X → X → Type 0) → AllPairs R []
pairs_nil R i j d lt within = absurd (omega arith)

pub are_chosen : (owners : List (Option Owner)) (ledger : Ledger) (named : Option ℕ) (limit count : ℕ) (chosen : List ℕ) → AreHighestFree owners ledger named limit count chosen
    → AreChosen owners ledger named limit count chosen
are_chosen owners ledger named limit zero [] chose = record {
  many = refl;
  inside = All-nil (λ frame. frame < limit);
  free = All-nil (λ frame. IsFreeForTable owners ledger named frame);
  distinct = pairs_nil (λ one other. one ≢ other);
}
are_chosen owners ledger named limit zero (frame ∷ frames) chose = absurd chose
are_chosen owners ledger named limit (suc count) [] chose = absurd chose
are_chosen owners ledger named limit (suc count) (frame ∷ frames) chose =
    let rest = are_chosen owners ledger named frame count frames chose.1 in
    let below : frame < limit = chose.0.below in
    record {
      many = ap suc rest.many;
      inside = All-cons (λ f. f < limit) frame frames below (λ k d lt. let lower = rest.inside k d lt in omega (arith, lower, below));
      free = All-cons (λ f. IsFreeForTable owners ledger named f) frame frames chose.0.free rest.free;
      distinct = AllPairs-cons (λ one other. one ≢ other) frame frames (λ k d lt. let lower = rest.inside k d lt in λ same. absurd (omega (arith, lower, same))) rest.distinct;
    }

pub enough : (owners : List (Option Owner)) (ledger : Ledger) (named : Option ℕ) (limit count : ℕ) (chosen : List ℕ) → AreHighestFree owners ledger named limit count chosen
    → HasFree owners ledger named count limit
enough owners ledger named limit zero [] chose = tt
enough owners ledger named limit zero (frame ∷ frames) chose = tt
enough owners ledger named limit (suc count) [] chose = absurd chose
enough owners ledger named limit (suc count) (frame ∷ frames) chose =
    (frame, chose.0.below, chose.0.free, enough owners ledger named frame count frames chose.1)

-- what is free below those that were chosen
pub last_low : (owners : List (Option Owner)) (ledger : Ledger) (named : Option ℕ) (limit count : ℕ) (chosen : List ℕ) → AreHighestFree owners ledger named limit count chosen → limit_below limit chosen ≤ limit
last_low owners ledger named limit count [] chose = omega arith
last_low owners ledger named limit zero (first ∷ frames) chose = absurd chose
last_low owners ledger named limit (suc count) (first ∷ frames) chose =
    let below : first < limit = chose.0.below in
    let rest = last_low owners ledger named first count frames chose.1 in
    omega (arith, below, rest)

-- what lies below the last of them is none of them
pub below_apart : (owners : List (Option Owner)) (ledger : Ledger) (named : Option ℕ) (limit count : ℕ) (chosen : List ℕ) (f : ℕ) → AreHighestFree owners ledger named limit count chosen
    → f < limit_below limit chosen → NotAmong f chosen
below_apart owners ledger named limit count [] f chose low = tt
below_apart owners ledger named limit zero (first ∷ frames) f chose low = absurd chose
below_apart owners ledger named limit (suc count) (first ∷ frames) f chose low =
    let last = last_low owners ledger named first count frames chose.1 in
    ((λ same. absurd (omega (arith, low, last, same))), below_apart owners ledger named first count frames f chose.1 low)

-- one frame more
pub chosen_more : (owners : List (Option Owner)) (ledger : Ledger) (named : Option ℕ) (limit count : ℕ) (chosen : List ℕ) (frame : ℕ) → AreHighestFree owners ledger named limit count chosen
    → IsHighestFree owners ledger named (limit_below limit chosen) frame → AreHighestFree owners ledger named limit (suc count) (chosen ++ frame ∷ [])
chosen_more owners ledger named limit zero [] frame chose highest = (highest, tt)
chosen_more owners ledger named limit zero (first ∷ frames) frame chose highest = absurd chose
chosen_more owners ledger named limit (suc count) [] frame chose highest = absurd chose
chosen_more owners ledger named limit (suc count) (first ∷ frames) frame chose highest = (chose.0, chosen_more owners ledger named first count frames frame chose.1 highest)

last_chosen : (limit frame : ℕ) (chosen : List ℕ) → limit_below limit (chosen ++ frame ∷ []) ≡ frame
last_chosen limit frame [] = refl
last_chosen limit frame (first ∷ frames) = last_chosen first frame frames

-- so many are chosen, and the others are to be found below the last of them
pub record ChosenSoFar (owners : List (Option Owner)) (ledger : Ledger) (named : Option ℕ) (frames limit count so_far : ℕ) (chosen : List ℕ) : Type 0 where
  pub chose : AreHighestFree owners ledger named frames so_far chosen
  pub last : limit ≡ limit_below frames chosen
  pub left : HasFree owners ledger named count frames → HasFree owners ledger named (count - so_far) limit

module _ (owners : List (Option Owner)) (ledger : Ledger) (named : Option ℕ) (frames count : ℕ) where
  pub chosen_none : ChosenSoFar owners ledger named frames frames count 0 []
  chosen_none =
      let all : count - 0 ≡ count = omega arith in record { chose = tt; last = refl; left = λ has. subst (λ n. HasFree owners ledger named n frames) (sym all) has }

  pub chosen_next : (limit so_far frame : ℕ) (chosen : List ℕ) → so_far < count → ChosenSoFar owners ledger named frames limit count so_far chosen → IsHighestFree owners ledger named limit frame
      → ChosenSoFar owners ledger named frames frame count (so_far + 1) (chosen ++ frame ∷ [])
  chosen_next limit so_far frame chosen more before highest =
      let next : so_far + 1 ≡ suc so_far = omega arith in
      let left : count - so_far ≡ suc (count - (so_far + 1)) = omega (arith, more) in
      record {
        chose = subst (λ n. AreHighestFree owners ledger named frames n (chosen ++ frame ∷ [])) (sym next)
            (chosen_more owners ledger named frames so_far chosen frame before.chose (subst (λ n. IsHighestFree owners ledger named n frame) before.last highest));
        last = sym (last_chosen frames frame chosen);
        left = λ has. (HasFree-next owners ledger named (count - so_far) (count - (so_far + 1)) limit frame left highest).0 (before.left has);
      }

  pub none_chosen : (limit so_far : ℕ) (chosen : List ℕ) → so_far < count → ChosenSoFar owners ledger named frames limit count so_far chosen → NoneIsFree owners ledger named 0 limit
      → ¬ HasFree owners ledger named count frames
  none_chosen limit so_far chosen more before none =
      λ has. HasFree-none owners ledger named (count - so_far) (count - (so_far + 1)) limit (omega (arith, more)) none (before.left has)

  pub chosen_low : (limit so_far : ℕ) (chosen : List ℕ) → ChosenSoFar owners ledger named frames limit count so_far chosen → limit ≤ frames
  chosen_low limit so_far chosen before = let low = last_low owners ledger named frames so_far chosen before.chose in omega (arith, before.last, low)

  pub chosen_many : (limit so_far : ℕ) (chosen : List ℕ) → ChosenSoFar owners ledger named frames limit count so_far chosen → length chosen ≡ so_far
  chosen_many limit so_far chosen before = (are_chosen owners ledger named frames so_far chosen before.chose).many

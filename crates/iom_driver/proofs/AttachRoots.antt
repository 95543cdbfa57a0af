-- The frames that an attach takes, by what was chosen: the pages are the highest free frames, and the root's lie below them.
use Rattle.std.proofs.Common.{◌≡◌, ◌+◌, ◌*◌, ◌%◌, ◌<◌, ◌≤◌, inl, inr, ℕ, List, [], ◌∷◌, Option, None, sym, subst, arith}
use Rattle.iom_base.specs.declared.mode.Mode.{Mode}
use Rattle.iom_base.specs.declared.mode.Mode.TheVariants.{First, Second, Both}
use Rattle.iom_base.specs.declared.owner.Owner.{Owner}
use Rattle.iom_ledger.specs.declared.ledger.Ledger.{Ledger}
use Rattle.iom_page_table.specs.SecondTables.{other_quarters}
use Rattle.iom_table_frames.specs.Fours.{IsHighestFour}
use Rattle.iom_table_frames.specs.Owners.{IsFreeForTable, IsHighestFree}
use Rattle.iom_driver.specs.Admitted.{IsAligned}
use Rattle.iom_driver.specs.Attaching.{IsRootBelow, root_frames, limit_below}
use Rattle.iom_driver.specs.Choices.{AreHighestFree}
use Rattle.iom_driver.specs.State.{DriverState}
use Rattle.iom_driver.proofs.Chosen.{are_chosen, last_low, below_apart}
use Rattle.iom_driver.proofs.Owners.{Among}
use Rattle.iom_driver.proofs.Taken.{AreTaken}

-- a root below a limit: each of its frames is free and below it
record AreBelow (owners : List (Option Owner)) (ledger : Ledger) (limit : ℕ) (roots : List ℕ) : Type 0 where
  below : (f : ℕ) → Among f roots → f < limit
  free : (f : ℕ) → Among f roots → IsFreeForTable owners ledger None f

one_below : (owners : List (Option Owner)) (ledger : Ledger) (limit root : ℕ) → IsHighestFree owners ledger None limit root → AreBelow owners ledger limit (root ∷ [])
one_below owners ledger limit root is = record { below = low; free = free }
  where
    low : (f : ℕ) → Among f (root ∷ []) → f < limit
    low f (inl same) = subst (λ n. n < limit) (sym same) is.below
    low f (inr none) = absurd none

    free : (f : ℕ) → Among f (root ∷ []) → IsFreeForTable owners ledger None f
    free f (inl same) = subst (λ n. IsFreeForTable owners ledger None n) (sym same) is.free
    free f (inr none) = absurd none

four_below : (owners : List (Option Owner)) (ledger : Ledger) (limit root : ℕ) → IsHighestFour owners ledger limit root → AreBelow owners ledger limit (root ∷ other_quarters root)
four_below owners ledger limit root is = record { below = low; free = free }
  where
    last : root + 4 ≤ limit
    last = is.below

    low : (f : ℕ) → Among f (root ∷ other_quarters root) → f < limit
    low f (inl same) = omega (arith, last, same)
    low f (inr (inl same)) = omega (arith, last, same)
    low f (inr (inr (inl same))) = omega (arith, last, same)
    low f (inr (inr (inr (inl same)))) = omega (arith, last, same)
    low f (inr (inr (inr (inr none)))) = absurd none

    free : (f : ℕ) → Among f (root ∷ other_quarters root) → IsFreeForTable owners ledger None f
    free f (inl same) = subst (λ n. IsFreeForTable owners ledger None n) (sym same) is.free.one
    free f (inr (inl same)) = subst (λ n. IsFreeForTable owners ledger None n) (sym same) is.free.two
    free f (inr (inr (inl same))) = subst (λ n. IsFreeForTable owners ledger None n) (sym same) is.free.three
    free f (inr (inr (inr (inl same)))) = subst (λ n. IsFreeForTable owners ledger None n) (sym same) is.free.four
    free f (inr (inr (inr (inr none)))) = absurd none

root_below : (mode : Mode) (d : DriverState) (limit root : ℕ) → IsRootBelow mode d limit root → AreBelow d.owners d.ledger limit (root_frames mode root)
root_below (First size) d limit root is = one_below d.owners d.ledger limit root is
root_below (Second size) d limit root is = four_below d.owners d.ledger limit root is
root_below (Both size) d limit root is = four_below d.owners d.ledger limit root is

-- a root of a second stage is aligned
four_aligned : (root : ℕ) → (n : ℕ) × (root ≡ 4 * n) → root % 4 ≡ 0
four_aligned root aligned = let is : root ≡ 4 * aligned.0 = aligned.1 in omega (arith, is)

pub root_aligned : (mode : Mode) (d : DriverState) (limit root : ℕ) → IsRootBelow mode d limit root → IsAligned mode root
root_aligned (First size) d limit root is = tt
root_aligned (Second size) d limit root is = four_aligned root is.aligned
root_aligned (Both size) d limit root is = four_aligned root is.aligned

-- the pages and the root
pub taken_so : (mode : Mode) (d : DriverState) (frames count : ℕ) (pages : List ℕ) (root : ℕ) → AreHighestFree d.owners d.ledger None frames count pages
    → IsRootBelow mode d (limit_below frames pages) root → AreTaken d.owners d.ledger frames count pages (root_frames mode root)
taken_so mode d frames count pages root chose is =
    let below = root_below mode d (limit_below frames pages) root is in
    let high = last_low d.owners d.ledger None frames count pages chose in
    record {
      chosen = are_chosen d.owners d.ledger None frames count pages chose;
      inside = λ f here. let low : f < limit_below frames pages = below.below f here in omega (arith, low, high);
      free = below.free;
      apart = λ f here. below_apart d.owners d.ledger None frames count pages f chose (below.below f here);
    }

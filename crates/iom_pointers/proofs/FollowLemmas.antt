-- What a walk passes, entry by entry.
use Rattle.std.proofs.Common.{zero, suc, ◌≡◌, ◌+◌, ◌-◌, ◌/◌, ◌^◌, ◌<◌, ◌∙◌, ℕ, Bool, false, List, ap, subst, arith}
use Rattle.iom_base.specs.Tables.{table_entries}
use Rattle.iom_pointers.specs.Pointers.{Follows, hand_at, FollowsEntry, FollowsFrom, IsPointerTo, with_pointer}
use Rattle.iom_pointers.specs.declared.pointer.Pointer.{Pointer as Kept}
use Rattle.iom_stage_walk.specs.Entries.{entries, slot}
use Rattle.iom_stage_walk.specs.declared.entry.Entry.TheVariants.{Pointer}
use Rattle.iom_stepped_walk.specs.Indices.{index_at}
use Rattle.iom_stepped_walk.specs.declared.hand.TableInHand.{TableInHand}
use Rattle.iom_tlb.specs.declared.space.Space.{Space}

module _ (frames : List (List ℕ)) (space : Space) (page next : ℕ) (pointer : Kept) (old new : List Kept) where
  -- what follows below the table of this level, where its entry is that pointer
  abbrev GoesOn : ℕ → Type 0
  GoesOn below = IsPointerTo space page below next pointer × FollowsFrom frames space page below false next (with_pointer pointer old) new

  follows_from : (level : ℕ) (is_wide : Bool) (table : ℕ) → 0 < level → Pointer next ≡ entries frames (slot table (index_at is_wide level page)) → GoesOn (level - 1)
      → FollowsFrom frames space page level is_wide table old new
  follows_from zero is_wide table some at goes = absurd (omega (arith, some))
  follows_from (suc below) is_wide table some at goes =
      let same : suc below - 1 ≡ below = omega arith in
      let (is, rest) = subst GoesOn same goes in
      subst (λ entry. FollowsEntry entry (λ n. (p : Kept) × IsPointerTo space page below n p × FollowsFrom frames space page below false n (with_pointer p old) new) old new) at (pointer, is, rest)

-- THE POINTER IS KEPT, and then what is below it
pub follows_pointer : (frames : List (List ℕ)) (space : Space) (hand below : TableInHand) (next : ℕ) (pointer : Kept) (old kept new : List Kept) → 0 < hand.level
    → Pointer next ≡ entries frames (slot hand.table.number (index_at hand.is_wide hand.level hand.page)) → IsPointerTo space hand.page (hand.level - 1) next pointer
    → kept ≡ with_pointer pointer old → below ≡ hand_at pointer hand.page → Follows frames space below kept new → Follows frames space hand old new
follows_pointer frames space hand below next pointer old kept new some at is keeps begins follows =
    follows_from frames space hand.page next pointer old new hand.level hand.is_wide hand.table.number some at (
      is,
      subst (λ l. FollowsFrom frames space hand.page l false next (with_pointer pointer old) new) is.level_is
          (subst (λ t. FollowsFrom frames space hand.page pointer.level false t (with_pointer pointer old) new) is.table_is
          (subst (λ (k : List Kept). FollowsFrom frames space hand.page pointer.level false pointer.table.number k new) keeps
          (subst (λ (b : TableInHand). Follows frames space b kept new) begins follows))),
    )

-- by the numbers of the code: the pages that the table below translates are those that one entry of the table above it spans
pub pointer_below : (space : Space) (page above next span : ℕ) (pointer : Kept) → pointer.space ≡ space → pointer.level ≡ above - 1
    → pointer.prefix ≡ page / span → pointer.table.number ≡ next → 0 < above → span ≡ table_entries ^ above → IsPointerTo space page (above - 1) next pointer
pointer_below space page above next span pointer same lower prefix named some spans =
    let level : above ≡ above - 1 + 1 = omega (arith, some) in
    record { space_is = same; level_is = lower; prefix_is = prefix ∙ ap (λ s. page / s) (spans ∙ ap (λ l. table_entries ^ l) level); table_is = named }

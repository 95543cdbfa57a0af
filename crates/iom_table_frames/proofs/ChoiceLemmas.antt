-- The highest free frame is the highest that is unreserved and that no device holds or lingers on.
use Rattle.std.proofs.Common.{◌≡◌, ◌↔◌, ◌⊎◌, inl, inr, ℕ, zero, suc, ◌<◌, ◌≤◌, true, false, List, length, MatchOption, Option, None, Some, sym, ◌∙◌, subst, arith}
use Rattle.std.proofs.lemmas.Bool.{cases_lt, and_parts, and_from, false≢true}
use Rattle.iom_frame_set.specs.Sets.{Words, has, IsCommon, NoneIsCommon, IsHighestCommon}
use Rattle.iom_ledger.specs.declared.ledger.Ledger.{Ledger}
use Rattle.iom_ledger.specs.Shown.{IsFreeIn}
use Rattle.iom_base.specs.declared.owner.Owner.{Owner}
use Rattle.iom_table_frames.specs.Owners.{IsFreeForTable, NoneIsFree, IsHighestFree, HasFree}
use Rattle.iom_table_frames.specs.Unreserved.{IsUnreservedSet}
use Rattle.iom_table_frames.proofs.OwnerLemmas.{unreserved_from_mark, mark_from_unreserved}

module _ (owners : List (Option Owner)) (ledger : Ledger) (unreserved free : Words) (named : Option ℕ) (is : IsUnreservedSet owners unreserved) (is_free : (f : ℕ) → (has free f ≡ true) ↔ IsFreeIn ledger f) where
  -- a frame in both sets is free, and a free one of memory is in both
  free_from_common : (f : ℕ) → IsCommon unreserved free named f → IsFreeForTable owners ledger named f
  free_from_common f common =
      let both = and_parts (has unreserved f) (has free f) common.inside in
      record { other = common.unnamed; unmarked = mark_from_unreserved owners f (sym (is.has_unreserved f) ∙ both.0); ungranted = (is_free f).0 both.1 }

  common_from_free : (f : ℕ) → f < length owners → IsFreeForTable owners ledger named f → IsCommon unreserved free named f
  common_from_free f within is_free_for =
      record {
        unnamed = is_free_for.other;
        inside = and_from (has unreserved f) (has free f) (is.has_unreserved f ∙ unreserved_from_mark owners f within is_free_for.unmarked) ((is_free f).1 is_free_for.ungranted);
      }

  -- so the highest in both is the highest free one
  pub highest_free_frame : (limit : ℕ) (result : Option ℕ) → limit ≤ length owners → MatchOption result (NoneIsCommon unreserved free named limit) (IsHighestCommon unreserved free named limit)
      → MatchOption result (NoneIsFree owners ledger named 0 limit) (IsHighestFree owners ledger named limit)
  highest_free_frame limit None within none = λ f from below is_free_for. none f below (common_from_free f (omega arith) is_free_for)
  highest_free_frame limit (Some frame) within found = record {
    below = found.below;
    free = free_from_common frame found.common;
    highest = λ higher above below is_free_for. found.highest higher above below (common_from_free higher (omega arith) is_free_for);
  }

-- a frame of memory is free where both sets have it
module _ (owners : List (Option Owner)) (ledger : Ledger) (unreserved : Words) (is : IsUnreservedSet owners unreserved) (frame : ℕ) (within : frame < length owners) where
  pub free_where : (free : Words) → ((f : ℕ) → (has free f ≡ true) ↔ IsFreeIn ledger f) → has unreserved frame ≡ true → (has free frame ≡ true) ↔ IsFreeForTable owners ledger None frame
  free_where free is_free unmarked = (
    (λ there. record { other = λ same. cc; unmarked = mark_from_unreserved owners frame (sym (is.has_unreserved frame) ∙ unmarked); ungranted = (is_free frame).0 there }),
    (λ it. (is_free frame).1 it.ungranted),
  )

  pub free_unless : has unreserved frame ≡ false → (false ≡ true) ↔ IsFreeForTable owners ledger None frame
  free_unless marked = (
    (λ same. absurd (false≢true same)),
    (λ it. absurd (false≢true (sym marked ∙ is.has_unreserved frame ∙ unreserved_from_mark owners frame within it.unmarked))),
  )

-- so many free frames below a limit
module _ (owners : List (Option Owner)) (ledger : Ledger) (named : Option ℕ) where
  HasFree-higher : (count low high : ℕ) → low ≤ high → HasFree owners ledger named count low → HasFree owners ledger named count high
  HasFree-higher zero low high order has = has
  HasFree-higher (suc count) low high order (frame, below, free, rest) = (frame, omega arith, free, rest)

  -- the highest is one of them, and the others are below it
  pub HasFree-next : (count left limit highest : ℕ) → count ≡ suc left → IsHighestFree owners ledger named limit highest → HasFree owners ledger named count limit ↔ HasFree owners ledger named left highest
  HasFree-next zero left limit highest is found = absurd (omega arith)
  HasFree-next (suc count) left limit highest is found =
      let same : count ≡ left = omega arith in (
        (λ (frame, below, free, rest). subst (λ n. HasFree owners ledger named n highest) same (HasFree-higher count frame highest (by frame below free (cases_lt highest frame)) rest)),
        (λ rest. (highest, found.below, found.free, subst (λ n. HasFree owners ledger named n highest) (sym same) rest)),
      )
    where
      by : (frame : ℕ) → frame < limit → IsFreeForTable owners ledger named frame → (highest < frame) ⊎ (frame ≤ highest) → frame ≤ highest
      by frame below free (inl above) = absurd (found.highest frame above below free)
      by frame below free (inr within) = within

  -- where none is free there aren't so many
  pub HasFree-none : (count left limit : ℕ) → count ≡ suc left → NoneIsFree owners ledger named 0 limit → HasFree owners ledger named count limit → ⊥
  HasFree-none zero left limit is none has = omega arith
  HasFree-none (suc count) left limit is none (frame, below, free, rest) = none frame (omega arith) below free

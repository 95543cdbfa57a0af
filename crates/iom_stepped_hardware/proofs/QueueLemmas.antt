-- A device is reset, or a block device's queue set: what the devices are, and what is under way beside them.
use Rattle.std.proofs.Common.{◌≡◌, ◌∙◌, inl, inr, ℕ, List, Result, refl, sym, ap, subst}
use Rattle.iom_base.specs.declared.refusal.Refusal.{Refusal}
use Rattle.iom_board.specs.BoardParts.{BoardParts}
use Rattle.iom_board.specs.Commits.{ResetsAnyDevice}
use Rattle.iom_board.specs.Invariant.{BoardInvariant}
use Rattle.iom_board.proofs.SoundPlugging.{reset_keeps}
use Rattle.iom_device.specs.Caches.{kind_in}
use Rattle.iom_device.specs.Calls.{with_reset}
use Rattle.iom_hardware.specs.Queues.{SetsQueue}
use Rattle.iom_stepped_board.specs.Beside.{AreBeside}
use Rattle.iom_stepped_board.proofs.BesideLemmas.{given_up_beside, stays}
use Rattle.iom_virtqueue.specs.declared.layout.Layout.{Layout}
use Rattle.iom_walks.specs.Calls.{given_up}
use Rattle.iom_walks.specs.Walks.{WalkRow, row_of}
use Rattle.iom_stepped_hardware.proofs.SameKinds.{kind_reset}

cleared_kinds : (old new : BoardParts) (id other : ℕ) → new ≡ record old { devices = with_reset old.devices id } → kind_in new.devices other ≡ kind_in old.devices other
cleared_kinds old new id other cleared = ap (λ (parts : BoardParts). kind_in parts.devices other) cleared ∙ kind_reset old.devices id other

same_kinds : (old new : BoardParts) (other : ℕ) → new ≡ old → kind_in new.devices other ≡ kind_in old.devices other
same_kinds old new other same = ap (λ (parts : BoardParts). kind_in parts.devices other) same

pub reset_kinds : (old new : BoardParts) (id : ℕ) (answer : Result (Unit {0}) Refusal) (other : ℕ) → ResetsAnyDevice old id answer new → kind_in new.devices other ≡ kind_in old.devices other
reset_kinds old new id answer other (inl none) = same_kinds old new other none.same
reset_kinds old new id answer other (inr (inl wrong)) = same_kinds old new other wrong.same
reset_kinds old new id answer other (inr (inr does)) = cleared_kinds old new id other does.call.cleared

pub queue_kinds : (old new : BoardParts) (id : ℕ) (layout : Layout) (answer : Result (Unit {0}) Refusal) (other : ℕ) → SetsQueue old id layout answer new
    → kind_in new.devices other ≡ kind_in old.devices other
queue_kinds old new id layout answer other (inl none) = same_kinds old new other none.same
queue_kinds old new id layout answer other (inr (inl wrong)) = same_kinds old new other wrong.same
queue_kinds old new id layout answer other (inr (inr (inl bad))) = same_kinds old new other bad.same
queue_kinds old new id layout answer other (inr (inr (inr sets))) = cleared_kinds old new id other sets.cleared

queue_stays : (old new : BoardParts) (rows : List WalkRow) (events id : ℕ) (layout : Layout) (answer : Result (Unit {0}) Refusal) → BoardInvariant old events → AreBeside old rows
    → SetsQueue old id layout answer new → AreBeside new rows
queue_stays old new rows events id layout answer invariants beside sets = elim sets [
  | inl none ↦ same none.same
  | inr (inl wrong) ↦ same wrong.same
  | inr (inr (inl bad)) ↦ same bad.same
  | inr (inr (inr does)) ↦
      subst (λ (parts : BoardParts). AreBeside parts rows) (sym does.cleared)
      (stays old (record old { devices = with_reset old.devices id }) rows beside (reset_keeps old events id invariants).ids refl)
]
  where
    same : new ≡ old → AreBeside new rows
    same is = subst (λ (parts : BoardParts). AreBeside parts rows) (sym is) beside

pub queue_beside : (old new : BoardParts) (rows : List WalkRow) (events id : ℕ) (layout : Layout) (answer : Result (Unit {0}) Refusal) → BoardInvariant old events → AreBeside old rows
    → SetsQueue old id layout answer new → AreBeside new (given_up rows (row_of rows id))
queue_beside old new rows events id layout answer invariants beside sets = given_up_beside new rows id (queue_stays old new rows events id layout answer invariants beside sets)

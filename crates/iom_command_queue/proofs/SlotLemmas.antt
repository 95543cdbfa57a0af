-- Open slots, as some are opened and closed.
use Rattle.std.proofs.Common.{◌+◌, ◌≤◌, ◌++◌, ℕ, Bool, true, false, List, [], ◌∷◌, arith, if◌then◌else◌}
use Rattle.std.specs.Prelude.{filter}
use Rattle.iom_command_queue.specs.declared.slot.Slot.{Slot}
use Rattle.iom_command_queue.specs.OpenSlots.{RiseFrom}

rise_le : (from last : ℕ) (slots : List Slot) → RiseFrom from slots last → from ≤ last
rise_le from last [] rise = rise
rise_le from last (slot ∷ slots) rise = let le = rise_le slot.serial last slots rise.1 in let lt = rise.0 in omega arith

-- the next number goes last
pub rise_more : (from last device : ℕ) (slots : List Slot) → RiseFrom from slots last
    → RiseFrom from (slots ++ (record { serial = last + 1; device = device }) ∷ []) (last + 1)
rise_more from last device [] rise = (omega (arith, rise), omega arith)
rise_more from last device (slot ∷ slots) rise = (rise.0, rise_more slot.serial last device slots rise.1)

rise_below : (from lower last : ℕ) (slots : List Slot) → lower ≤ from → RiseFrom from slots last → RiseFrom lower slots last
rise_below from lower last [] le rise = omega (arith, rise)
rise_below from lower last (slot ∷ slots) le rise = let lt = rise.0 in (omega arith, rise.1)

-- some may go
pub rise_filter : (p : Slot → Bool) (from last : ℕ) (slots : List Slot) → RiseFrom from slots last → RiseFrom from (filter p slots) last
rise_filter p from last [] rise = rise
rise_filter p from last (slot ∷ slots) rise =
    elim (p slot) as (λ b. RiseFrom from (if b then slot ∷ filter p slots else filter p slots) last) [
      | true ↦ (rise.0, rise_filter p slot.serial last slots rise.1)
      | false ↦ rise_below slot.serial from last (filter p slots) (let lt = rise.0 in omega arith) (rise_filter p slot.serial last slots rise.1)
    ]

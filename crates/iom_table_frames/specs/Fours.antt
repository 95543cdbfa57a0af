-- Runs of four free frames, for the root of a second stage (RISC-V Privileged Architecture, "Sv39x4" and "Sv48x4": 16 KiB, aligned to that).
use Rattle.std.specs.Prelude.{◌≡◌, ℕ, ◌+◌, ◌*◌, ◌<◌, ◌≤◌, List, Option, None, slice_set}
use Rattle.iom_base.specs.declared.owner.Owner.{Owner}
use Rattle.iom_ledger.specs.declared.ledger.Ledger.{Ledger}
use Rattle.iom_table_frames.specs.Owners.{IsFreeForTable}

-- the four frames from the first on are free
pub record AreFourFree (owners : List (Option Owner)) (ledger : Ledger) (first : ℕ) : Type 0 where
  pub one : IsFreeForTable owners ledger None first
  pub two : IsFreeForTable owners ledger None (first + 1)
  pub three : IsFreeForTable owners ledger None (first + 2)
  pub four : IsFreeForTable owners ledger None (first + 3)

-- no four frames from a multiple of four on, that isn't below the one number, are free below the limit
abbrev pub NoFourAreFree : List (Option Owner) → Ledger → ℕ → ℕ → Type 0
NoFourAreFree owners ledger low limit = (n : ℕ) → low ≤ 4 * n → 4 * n + 4 ≤ limit → ¬ AreFourFree owners ledger (4 * n)

-- these are, and none above them
pub record IsHighestFour (owners : List (Option Owner)) (ledger : Ledger) (limit first : ℕ) : Type 0 where
  pub aligned : (n : ℕ) × (first ≡ 4 * n)
  pub below : first + 4 ≤ limit
  pub free : AreFourFree owners ledger first
  pub highest : NoFourAreFree owners ledger (first + 1) limit

-- a list, where four elements from the first on are this one
abbrev pub with_four : {A : Type 0} → List A → ℕ → A → List A
with_four xs first x = slice_set (slice_set (slice_set (slice_set xs first x) (first + 1) x) (first + 2) x) (first + 3) x

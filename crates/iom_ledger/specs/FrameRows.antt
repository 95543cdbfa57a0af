-- What the row of a frame says, by a history: how many grants and how many unconfirmed releases name it.
use Rattle.std.specs.Prelude.{◌≡◌, ◌≢◌, ◌↔◌, ℕ, List, length, Contains}
use Rattle.std.specs.List.{AllPairs}
use Rattle.iom_base.specs.declared.rights.Rights.{Rights}
use Rattle.iom_ledger.specs.declared.row.Row.{Row}
use Rattle.iom_ledger.specs.History.{History, Holds, Lingers}

-- the device holds the frame at the page, with some right
abbrev pub HoldsFrame : History → ℕ → ℕ → ℕ → Type 0
HoldsFrame history frame device page = (rights : Rights) × Holds history device page (frame, rights)

-- the device lingers on the frame at the page, with some right
abbrev pub LingersOnFrame : History → ℕ → ℕ → ℕ → Type 0
LingersOnFrame history frame device page = (rights : Rights) × Lingers history device page (frame, rights)

-- these are the pages of devices of which the fact is true, each once
pub record AreThePages (Fact : ℕ → ℕ → Type 0) (pages : List (ℕ × ℕ)) : Type 0 where
  pub once : AllPairs (λ p q. p ≢ q) pages
  pub all : (device page : ℕ) → Contains pages (device, page) ↔ Fact device page

-- there are so many pages of devices of which the fact is true
abbrev pub IsNumberOf : (ℕ → ℕ → Type 0) → ℕ → Type 0
IsNumberOf Fact number = ∥ ((pages : List (ℕ × ℕ)) × AreThePages Fact pages × (length pages ≡ number)) ∥₁

-- the row of the frame counts the pages at which the frame is held, and those at which it lingers
pub record IsRowOf (history : History) (frame : ℕ) (row : Row) : Type 0 where
  pub grants : IsNumberOf (HoldsFrame history frame) row.grants
  pub pending : IsNumberOf (LingersOnFrame history frame) row.pending

-- the row counts no page
abbrev pub IsFreeRow : Row → Type 0
IsFreeRow row = (row.grants ≡ 0) × (row.pending ≡ 0)

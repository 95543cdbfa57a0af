-- The rows that name a frame: what the calls inside this crate say to one another. No public contract cites it.
use Rattle.std.specs.Prelude.{◌≡◌, ◌≢◌, ◌<◌, ◌≤◌, ℕ, List, Some, length, slice_get}
use Rattle.iom_ledger.specs.declared.page_row.PageRow.{PageRow}
use Rattle.iom_ledger.specs.declared.reaching.Reach.{Reach}
use Rattle.iom_ledger.specs.Rows.{Devices, row_at, entries_of}

-- of these rows none names the frame from this index up to another
abbrev pub NoneNamesWithin : List (ℕ × PageRow) → ℕ → ℕ → ℕ → Type 0
NoneNamesWithin entries frame from to =
    (k : ℕ) (entry : ℕ × PageRow) → from ≤ k → k < to → slice_get entries k ≡ Some entry → entry.1.frame ≢ frame

-- no page of the device from this index up to another has a row that names the frame
abbrev pub NoRowNamesWithin : Devices → ℕ → ℕ → ℕ → ℕ → Type 0
NoRowNamesWithin devices device frame from to =
    (k page : ℕ) (row : PageRow) → from ≤ k → k < to → slice_get (entries_of devices device) k ≡ Some (page, row)
    → (row_at devices device page ≡ Some row) × (row.frame ≢ frame)

-- none from this index on
abbrev pub NoRowNames : Devices → ℕ → ℕ → ℕ → Type 0
NoRowNames devices device frame from = NoRowNamesWithin devices device frame from (length (entries_of devices device))

-- the first page of the device, from this index on, whose row names the frame
pub record IsNextRow (devices : Devices) (device frame from : ℕ) (reach : Reach) : Type 0 where
  pub from_there : from ≤ reach.index
  pub listed : slice_get (entries_of devices device) reach.index ≡ Some (reach.page, record { frame = frame; rights = reach.rights; ticket = reach.ticket })
  pub row : row_at devices device reach.page ≡ Some (record { frame = frame; rights = reach.rights; ticket = reach.ticket })
  pub skipped : NoRowNamesWithin devices device frame from reach.index

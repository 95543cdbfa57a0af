-- How the rows of a ledger change.
-- For the calls inside this crate alone; no public contract cites these.
use Rattle.std.specs.Prelude.{◌≡◌, ℕ, true, ◌==◌, ◌&&◌, List, Option, None, Some, is_none, nat_eq, if◌then◌else◌}
use Rattle.std.specs.List.{list_any}
use Rattle.std.specs.Option.{option_map}
use Rattle.indexmap.specs.IndexMap.{get}
use Rattle.iom_ledger.specs.declared.page_row.PageRow.{PageRow}
use Rattle.iom_ledger.specs.declared.pending.Pending.{Pending}
use Rattle.iom_ledger.specs.Rows.{Pages, Devices, row_at, waits_for, names}

-- the ticket of a row that is released under this one, unless it has one
abbrev pub ticket_after : Option ℕ → ℕ → Option ℕ
ticket_after None ticket = Some ticket
ticket_after (Some own) ticket = Some own

-- the row, released under the ticket unless it was
abbrev pub released_row : PageRow → ℕ → PageRow
released_row row ticket = record { frame = row.frame; rights = row.rights; ticket = ticket_after row.ticket ticket }

-- the same of a row, if there is one
abbrev pub released_row_if_any : Option PageRow → ℕ → Option PageRow
released_row_if_any row ticket = option_map (λ r. released_row r ticket) row

-- the frame of a row that isn't released, if there is one
abbrev pub held_frame : Option PageRow → Option ℕ
held_frame None = None
held_frame (Some row) = if is_none row.ticket then Some row.frame else None

-- the row, unless it waits for the ticket
abbrev pub unless_waiting : Option PageRow → ℕ → Option PageRow
unless_waiting None ticket = None
unless_waiting (Some row) ticket = if waits_for row.ticket ticket then None else Some row

-- the page of the device has the row, and each other page stays
abbrev pub SetsRow : Devices → Devices → ℕ → ℕ → PageRow → Type 0
SetsRow old new device page row =
    (d a : ℕ) → row_at new d a ≡ (if (device == d) && (page == a) then Some row else row_at old d a)

-- the row of the page of the device is released, and each other stays
abbrev pub ReleasesRow : Devices → Devices → ℕ → ℕ → ℕ → Type 0
ReleasesRow old new device page ticket =
    (d a : ℕ) → row_at new d a
    ≡ (if (device == d) && (page == a) then released_row_if_any (row_at old d a) ticket else row_at old d a)

-- the rows of these pages of the device are released, and each other stays
abbrev pub ReleasesRowsAt : Devices → Devices → ℕ → List ℕ → ℕ → Type 0
ReleasesRowsAt old new device pages ticket =
    (d a : ℕ) → row_at new d a
    ≡ (if (device == d) && list_any (nat_eq a) pages
    then released_row_if_any (row_at old d a) ticket else row_at old d a)

-- each row of the device is released, and each other stays
abbrev pub ReleasesRows : Devices → Devices → ℕ → ℕ → Type 0
ReleasesRows old new device ticket =
    (d a : ℕ) → row_at new d a ≡ (if device == d then released_row_if_any (row_at old d a) ticket else row_at old d a)

-- each row stays
abbrev pub KeepsRows : Devices → Devices → Type 0
KeepsRows old new = (d a : ℕ) → row_at new d a ≡ row_at old d a

-- the rows that wait for the ticket go, and each other stays
abbrev pub DropsRows : Devices → Devices → ℕ → Type 0
DropsRows old new ticket = (d a : ℕ) → row_at new d a ≡ unless_waiting (row_at old d a) ticket

-- the page had this row, which waits for the ticket, and has none now; each other page keeps its row
pub record TakesRow (old new : Pages) (page : ℕ) (row : PageRow) (ticket : ℕ) : Type 0 where
  pub had : get nat_eq old page ≡ Some row
  pub waits : waits_for row.ticket ticket ≡ true
  pub pages : (a : ℕ) → get nat_eq new a ≡ (if page == a then None else get nat_eq old a)

-- the page of the device had this row, which waits for the ticket, and has none now; each other page keeps its row
pub record TakesRowOf (old new : Devices) (device page : ℕ) (row : PageRow) (ticket : ℕ) : Type 0 where
  pub had : row_at old device page ≡ Some row
  pub waits : waits_for row.ticket ticket ≡ true
  pub rows : (d a : ℕ) → row_at new d a ≡ (if (device == d) && (page == a) then None else row_at old d a)

-- some rows of the device that wait for the ticket may go, and each other stays
abbrev pub DropsSome : Devices → Devices → ℕ → ℕ → Type 0
DropsSome old new device ticket =
    (d a : ℕ) → (if device == d then unless_waiting (row_at new d a) ticket else row_at new d a)
    ≡ (if device == d then unless_waiting (row_at old d a) ticket else row_at old d a)

-- of the rows that wait for the ticket those that the release names under it go, and each other stays
abbrev pub DropsNamed : Devices → Devices → Pending → ℕ → Type 0
DropsNamed old new release ticket =
    (d a : ℕ) → row_at new d a
    ≡ (if names release d a ticket then unless_waiting (row_at old d a) ticket else row_at old d a)

-- The releases that aren't confirmed, and what is left of the rows once some of them are: what the calls inside
-- this crate say to one another. No public contract cites it.
use Rattle.std.specs.Prelude.{◌≡◌, ℕ, Bool, true, not, ◌==◌, ◌&&◌, List, [], ◌∷◌, filter, map, drop, take, nat_eq, nat_le, Option, if◌then◌else◌}
use Rattle.std.specs.List.{list_any}
use Rattle.iom_ledger.specs.declared.page_row.PageRow.{PageRow}
use Rattle.iom_ledger.specs.declared.pending.Pending.{Pending}
use Rattle.iom_ledger.specs.Rows.{Devices, row_at, names}
use Rattle.iom_ledger.specs.RowChanges.{unless_waiting}

-- the tickets of the releases
abbrev pub tickets : List Pending → List ℕ
tickets releases = map (λ release. release.ticket) releases

-- whether the ticket is one of these
abbrev pub is_ticket_among : ℕ → List ℕ → Bool
is_ticket_among ticket ts = list_any (nat_eq ticket) ts

-- whether each ticket is from this one on
abbrev pub all_from : ℕ → List Pending → Bool
all_from ticket [] = true
all_from ticket (release ∷ releases) = nat_le ticket release.ticket && all_from ticket releases

-- whether no ticket is below an earlier one
abbrev pub is_ascending : List Pending → Bool
is_ascending [] = true
is_ascending (release ∷ releases) = all_from release.ticket releases && is_ascending releases

-- whether the release stays once the ticket is confirmed
abbrev pub is_other : ℕ → Pending → Bool
is_other ticket release = not (ticket == release.ticket)

-- whether one of the releases is of this page, under the ticket
abbrev pub any_names : List Pending → ℕ → ℕ → ℕ → Bool
any_names releases device page ticket = list_any (λ release. names release device page ticket) releases

-- what is left of a row, where it is named by a release that is confirmed
abbrev pub dropped : Bool → Option PageRow → ℕ → Option PageRow
dropped named row ticket = if named then unless_waiting row ticket else row

-- of the rows that wait for the ticket those go that one of the releases names under it, and each other stays
abbrev pub DropsNamedBy : Devices → Devices → List Pending → ℕ → Type 0
DropsNamedBy old new releases ticket =
    (d a : ℕ) → row_at new d a ≡ dropped (any_names releases d a ticket) (row_at old d a) ticket

-- the first n releases are under the ticket and are taken, with the rows that they name
pub record TakesFirst (old new : Devices) (before after : List Pending) (n ticket : ℕ) : Type 0 where
  pub items : after ≡ drop n before
  pub under : filter (is_other ticket) (take n before) ≡ []
  pub rows : DropsNamedBy old new (take n before) ticket

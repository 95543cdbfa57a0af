-- What a ledger keeps: for each device its pages, each with a row, and the releases that aren't confirmed.
use Rattle.std.specs.Prelude.{◌≡◌, ◌≤◌, ℕ, Bool, true, false, ◌==◌, ◌&&◌, ◌||◌, List, [], ◌∷◌, Option, None, Some, map, nat_eq, slice_get, if◌then◌else◌}
use Rattle.std.specs.List.{list_any}
use Rattle.std.specs.Option.{option_and_then, option_map_or}
use Rattle.std.specs.declared.hash.FoldHasher.{FoldHasher}
use Rattle.std.specs.declared.hash.BuildHasherDefault.{BuildHasherDefault}
use Rattle.indexmap.specs.IndexMap.{IndexMap, get}
use Rattle.iom_base.specs.declared.rights.Rights.{Rights}
use Rattle.iom_ledger.specs.declared.device_list.DevicePages.{DevicePages}
pub use Rattle.iom_ledger.specs.declared.device_list.Devices.{Devices}
use Rattle.iom_ledger.specs.declared.page_row.PageRow.{PageRow}
use Rattle.iom_ledger.specs.declared.pending.Pending.{Pending}
use Rattle.iom_ledger.specs.History.{Pair}

-- the pages of a device, each with its row
abbrev pub Pages : Type 0
Pages = IndexMap ℕ PageRow (BuildHasherDefault FoldHasher)

-- the pages of the device, if it is among these: the first of them that is it
abbrev pub pages_in : List DevicePages → ℕ → Option Pages
pages_in [] device = None
pages_in (first ∷ others) device = if first.device == device then Some first.pages else pages_in others device

-- the row of a page of a device
abbrev pub row_at : Devices → ℕ → ℕ → Option PageRow
row_at devices device page = option_and_then (λ pages. get nat_eq pages page) (pages_in devices.list.items device)

-- the frame of a row, with the right to it
abbrev pub pair_in_row : PageRow → Pair
pair_in_row row = (row.frame, row.rights)

-- the pair, where no ticket released it
abbrev pub unless_released : Option ℕ → Pair → Option Pair
unless_released None pair = Some pair
unless_released (Some ticket) pair = None

-- the pair with the ticket that released it, where one did
abbrev pub if_released : Option ℕ → Pair → Option (ℕ × Pair)
if_released None pair = None
if_released (Some ticket) pair = Some (ticket, pair)

-- the pair that a row shows as held
abbrev pub held_of : Option PageRow → Option Pair
held_of None = None
held_of (Some row) = unless_released row.ticket (pair_in_row row)

-- the pair that a row shows as released, with the ticket
abbrev pub released_of : Option PageRow → Option (ℕ × Pair)
released_of None = None
released_of (Some row) = if_released row.ticket (pair_in_row row)

-- whether a row with this ticket waits for that one
abbrev pub waits_for : Option ℕ → ℕ → Bool
waits_for None ticket = false
waits_for (Some own) ticket = ticket == own

-- the rows of a device, each with its page, in the order in which they are kept
abbrev pub entries_of : Devices → ℕ → List (ℕ × PageRow)
entries_of devices device = option_map_or (λ pages. pages.entries) (pages_in devices.list.items device) []

-- the pages of a device that have a row, in that order
abbrev pub pages_of : Devices → ℕ → List ℕ
pages_of devices device = map (λ entry. entry.0) (entries_of devices device)

-- from this index on no row waits for the ticket
abbrev pub NoneWaitsFrom : List (ℕ × PageRow) → ℕ → ℕ → Type 0
NoneWaitsFrom entries first ticket =
    (k : ℕ) (entry : ℕ × PageRow) → first ≤ k → slice_get entries k ≡ Some entry → waits_for entry.1.ticket ticket ≡ false

-- whether the release is of this page: the one that it names, or any where it names none
abbrev pub is_of_page : Option ℕ → ℕ → Bool
is_of_page None page = true
is_of_page (Some named) page = named == page

-- whether the release is one of this page of the device, under this ticket
abbrev pub names : Pending → ℕ → ℕ → ℕ → Bool
names release device page ticket =
    (release.ticket == ticket) && ((release.device == device) && is_of_page release.page page)

-- the ticket of a row that is released
abbrev pub ticket_of : Option PageRow → Option ℕ
ticket_of None = None
ticket_of (Some row) = row.ticket

-- whether one of the releases is of this page, under the ticket, if there is one
abbrev pub is_named : List Pending → ℕ → ℕ → Option ℕ → Bool
is_named releases device page None = true
is_named releases device page (Some ticket) = list_any (λ release. names release device page ticket) releases

-- each row that is released is named by a release that isn't confirmed
abbrev pub AllNamed : Devices → List Pending → Type 0
AllNamed devices releases = (d a : ℕ) → is_named releases d a (ticket_of (row_at devices d a)) ≡ true

-- whether the right is one that is granted: R or RW
abbrev pub is_granted : Rights → Bool
is_granted rights = (rights.0 == 1) || (rights.0 == 3)

-- whether the row has such a right, if there is one
abbrev pub has_granted_right : Option PageRow → Bool
has_granted_right None = true
has_granted_right (Some row) = is_granted row.rights

-- each row has such a right
abbrev pub AllGranted : Devices → Type 0
AllGranted devices = (d a : ℕ) → has_granted_right (row_at devices d a) ≡ true

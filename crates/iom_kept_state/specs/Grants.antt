-- Grants as they are kept: the ledger names each frame by its place among those that were ever granted. Which history they are kept of.
use Rattle.std.specs.Prelude.{◌≡◌, ◌<◌, ℕ, Bool, List, [], ◌∷◌, Option, length, map, get_or, nat_eq, ⊤}
use Rattle.std.specs.Option.{option_map}
use Rattle.std.specs.List.{IsDistinct}
use Rattle.iom_ledger.specs.declared.entry.HistoryEntry.{HistoryEntry}
use Rattle.iom_ledger.specs.declared.entry.HistoryEntry.TheVariants.{Granted, Released, AllReleased, Confirmed}
use Rattle.iom_ledger.specs.History.{History, Pair, confirms}
use Rattle.iom_ledger.specs.Shown.{Agrees, held_in, lingering_in, pages_listed}
use Rattle.iom_machine.specs.Tickets.{last_confirmed}
use Rattle.iom_kept_state.specs.declared.grants.KeptGrants.{KeptGrants}
use Rattle.iom_kept_state.specs.Tickets.{is_among}

-- the frame at a place
abbrev pub frame_at_place : List ℕ → ℕ → ℕ
frame_at_place names place = get_or names place 0

-- the pair, with the frame for its place
abbrev pub named_pair : List ℕ → Pair → Pair
named_pair names pair = (frame_at_place names pair.0, pair.1)

-- the entry, with the frame for its place
abbrev pub named_entry : List ℕ → HistoryEntry → HistoryEntry
named_entry names (Granted device page place rights) = Granted device page (frame_at_place names place) rights
named_entry names (Released device page ticket) = Released device page ticket
named_entry names (AllReleased device ticket) = AllReleased device ticket
named_entry names (Confirmed ticket) = Confirmed ticket

-- the place that the entry names is one of the first so many
abbrev pub IsPlaced : ℕ → HistoryEntry → Type 0
IsPlaced count (Granted device page place rights) = place < count
IsPlaced count (Released device page ticket) = ⊤
IsPlaced count (AllReleased device ticket) = ⊤
IsPlaced count (Confirmed ticket) = ⊤

-- each of the places that a history names is
abbrev pub ArePlaced : ℕ → History → Type 0
ArePlaced count [] = ⊤
ArePlaced count (entry ∷ before) = IsPlaced count entry × ArePlaced count before

-- whether the ticket is confirmed
abbrev pub is_confirmed_in : KeptGrants → ℕ → Bool
is_confirmed_in kept ticket = is_among kept.tickets ticket

-- THE HISTORY is one of which these grants are kept: the ledger agrees with it, each frame by its place, of which no two name one frame; the tickets
-- that are kept as confirmed are so, and no others; and so is which of them was confirmed last.
pub record IsPastOf (kept : KeptGrants) (history : History) : Type 0 where
  pub placed : History
  pub named : history ≡ map (named_entry kept.names.keys) placed
  pub unique : IsDistinct nat_eq kept.names.keys
  pub within : ArePlaced (length kept.names.keys) placed
  pub grants : Agrees kept.ledger placed
  pub confirmed : (ticket : ℕ) → confirms placed ticket ≡ is_confirmed_in kept ticket
  pub last : last_confirmed placed ≡ kept.confirmed

-- what the device holds at the page
unfoldable pub held_by : KeptGrants → ℕ → ℕ → Option Pair
held_by kept device page = option_map (named_pair kept.names.keys) (held_in kept.ledger device page)

-- what lingers there
unfoldable pub lingering_by : KeptGrants → ℕ → ℕ → Option Pair
lingering_by kept device page = option_map (named_pair kept.names.keys) (lingering_in kept.ledger device page)

-- the pages at which the device holds something or something lingers, in the order in which they are kept
abbrev pub pages_by : KeptGrants → ℕ → List ℕ
pages_by kept device = pages_listed kept.ledger device

-- What a ledger shows, and when that is what a history says.
use Rattle.std.specs.Prelude.{◌≡◌, ◌≢◌, ℕ, List, Option, Some, length, map}
use Rattle.std.specs.Option.{option_map, option_to_list}
use Rattle.iom_base.specs.declared.rights.Rights.{Rights}
use Rattle.iom_ledger.specs.declared.ledger.Ledger.{Ledger}
use Rattle.iom_ledger.specs.History.{History, Pair, held_at, lingering_at}
use Rattle.iom_ledger.specs.Pending.{pending_of}
use Rattle.iom_ledger.specs.Rows.{row_at, pages_of, held_of, released_of}

-- the pair that the device holds at the page
unfoldable pub held_in : Ledger → ℕ → ℕ → Option Pair
held_in ledger device page = held_of (row_at ledger.devices device page)

-- the pair that lingers at the page, with the ticket under which it was released
unfoldable pub released_in : Ledger → ℕ → ℕ → Option (ℕ × Pair)
released_in ledger device page = released_of (row_at ledger.devices device page)

-- the pair that lingers at the page
abbrev pub lingering_in : Ledger → ℕ → ℕ → Option Pair
lingering_in ledger device page = option_map (λ released. released.1) (released_in ledger device page)

-- the tickets under which something was released and that aren't confirmed, the oldest first
unfoldable pub pending_in : Ledger → List ℕ
pending_in ledger = map (λ release. release.ticket) ledger.pending.items

-- so many tickets may be pending before more room is made
unfoldable pub pending_room : Ledger → ℕ
pending_room ledger = ledger.pending.capacity

-- the pages at which the device holds something or something lingers, in the order in which the ledger keeps them
unfoldable pub pages_listed : Ledger → ℕ → List ℕ
pages_listed ledger device = pages_of ledger.devices device

-- so many frames, from 0 on, have a row
unfoldable pub frames_in : Ledger → ℕ
frames_in ledger = length ledger.frames.rows.items

-- at the page this pair is held, or this one lingers with its ticket, and the history says so
pub record AgreesAt (held : Option Pair) (released : Option (ℕ × Pair)) (history : History) (device page : ℕ) : Type 0 where
  pub holds : held_at history device page ≡ held
  pub lingers : lingering_at history device page ≡ option_to_list released

-- the ledger shows what the history says: at each page of each device, and of the tickets
pub record Agrees (ledger : Ledger) (history : History) : Type 0 where
  pub pages : (device page : ℕ) → AgreesAt (held_in ledger device page) (released_in ledger device page) history device page
  pub pending : pending_of history ≡ pending_in ledger

-- no pair that is held or lingers names the frame
abbrev pub IsFreeIn : Ledger → ℕ → Type 0
IsFreeIn ledger frame = (device page : ℕ) (rights : Rights)
    → (held_in ledger device page ≢ Some (frame, rights)) × (lingering_in ledger device page ≢ Some (frame, rights))

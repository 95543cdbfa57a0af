-- At which pages a device reaches a frame: where it holds it, or where the frame lingers.
use Rattle.std.specs.Prelude.{◌≡◌, ◌≢◌, ◌<◌, ◌≤◌, ℕ, Option, Some, None, slice_get}
use Rattle.iom_base.specs.declared.rights.Rights.{Rights}
use Rattle.iom_ledger.specs.declared.ledger.Ledger.{Ledger}
use Rattle.iom_ledger.specs.declared.reaching.Reach.{Reach}
use Rattle.iom_ledger.specs.History.{Pair}
use Rattle.iom_ledger.specs.Shown.{held_in, released_in, lingering_in, pages_listed}

-- the device holds the pair at the page; or it was released there under this ticket, and lingers
abbrev pub ReachesUnder : Ledger → ℕ → ℕ → Pair → Option ℕ → Type 0
ReachesUnder ledger device page pair None = held_in ledger device page ≡ Some pair
ReachesUnder ledger device page pair (Some ticket) = released_in ledger device page ≡ Some (ticket, pair)

-- at the page the device neither holds the frame nor does the frame linger
abbrev pub IsOffFrame : Ledger → ℕ → ℕ → ℕ → Type 0
IsOffFrame ledger device frame page = (rights : Rights) → (held_in ledger device page ≢ Some (frame, rights)) × (lingering_in ledger device page ≢ Some (frame, rights))

-- so it is at none of the device's pages from this index up to another
abbrev pub NoneReachesWithin : Ledger → ℕ → ℕ → ℕ → ℕ → Type 0
NoneReachesWithin ledger device frame from to =
    (k page : ℕ) → from ≤ k → k < to → slice_get (pages_listed ledger device) k ≡ Some page → IsOffFrame ledger device frame page

-- THE NEXT PAGE, from this index on, at which the device reaches the frame
pub record IsNextReach (ledger : Ledger) (device frame from : ℕ) (reach : Reach) : Type 0 where
  pub from_there : from ≤ reach.index
  pub listed : slice_get (pages_listed ledger device) reach.index ≡ Some reach.page
  pub reaches : ReachesUnder ledger device reach.page (frame, reach.rights) reach.ticket
  pub skipped : NoneReachesWithin ledger device frame from reach.index

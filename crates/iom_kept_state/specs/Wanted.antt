-- Whether a frame is reached, in a ledger that names it by its place.
-- For the looks alone; no public contract cites these.
use Rattle.std.specs.Prelude.{◌≡◌, ℕ, ◌&&◌, nat_le, Bool, Option, None, Some, true, false}
use Rattle.iom_base.specs.Rights.{allows}
use Rattle.iom_base.specs.declared.rights.Rights.{Rights}
use Rattle.iom_ledger.specs.declared.ledger.Ledger.{Ledger}
use Rattle.iom_ledger.specs.declared.reaching.Reach.{Reach}
use Rattle.iom_ledger.specs.Shown.{held_in, released_in}
use Rattle.iom_kept_state.specs.declared.wanted.Wanted.{Wanted}

-- whether the ticket is one from the first to the last
abbrev pub is_between : ℕ → ℕ → ℕ → Bool
is_between first last ticket = nat_le first ticket && nat_le ticket last

-- what is held counts, or what was released under the ticket: one that isn't among those from the first to the last
abbrev pub Counts : Wanted → Option ℕ → Type 0
Counts wanted None = wanted.held ≡ true
Counts wanted (Some ticket) = is_between wanted.first wanted.last ticket ≡ false

-- the reach allows the kind, and counts
abbrev pub IsReach : Wanted → Reach → Type 0
IsReach wanted reach = (allows reach.rights wanted.kind ≡ true) × Counts wanted reach.ticket

-- the frame is reached at the page, with these rights, under this ticket or as held
abbrev pub ReachesAt : Ledger → Wanted → ℕ → Rights → Option ℕ → Type 0
ReachesAt ledger wanted page rights None = held_in ledger wanted.device page ≡ Some (wanted.place, rights)
ReachesAt ledger wanted page rights (Some ticket) = released_in ledger wanted.device page ≡ Some (ticket, (wanted.place, rights))

-- THERE IS A WAY: at some page
abbrev pub IsReached : Wanted → Ledger → Type 0
IsReached wanted ledger =
    (page : ℕ) × (rights : Rights) × (ticket : Option ℕ)
    × ReachesAt ledger wanted page rights ticket × (allows rights wanted.kind ≡ true) × Counts wanted ticket

-- How each call changes what a ledger shows.
use Rattle.std.specs.Prelude.{◌≡◌, ℕ, not, ◌==◌, ◌&&◌, [], ◌∷◌, ◌++◌, filter, Option, None, Some, if◌then◌else◌}
use Rattle.iom_ledger.specs.declared.ledger.Ledger.{Ledger}
use Rattle.iom_ledger.specs.History.{Pair}
use Rattle.iom_ledger.specs.Shown.{held_in, released_in, pending_in}

-- nothing changes: the same is held, lingers and is pending
pub record IsUnchanged (old new : Ledger) : Type 0 where
  pub held : (d a : ℕ) → held_in new d a ≡ held_in old d a
  pub lingering : (d a : ℕ) → released_in new d a ≡ released_in old d a
  pub pending : pending_in new ≡ pending_in old

-- the pair is held at the page of the device, and nothing else changes
pub record ShowsGrant (old new : Ledger) (device page : ℕ) (pair : Pair) : Type 0 where
  pub held : (d a : ℕ) → held_in new d a ≡ (if (device == d) && (page == a) then Some pair else held_in old d a)
  pub lingering : (d a : ℕ) → released_in new d a ≡ released_in old d a
  pub pending : pending_in new ≡ pending_in old

-- what was held and is released under the ticket, else what lingered already
abbrev pub released_from : Option Pair → ℕ → Option (ℕ × Pair) → Option (ℕ × Pair)
released_from None ticket lingered = lingered
released_from (Some pair) ticket lingered = Some (ticket, pair)

-- what was held at the page of the device lingers under the ticket, which is pending, and nothing else changes
pub record ShowsRelease (old new : Ledger) (device page ticket : ℕ) : Type 0 where
  pub held : (d a : ℕ) → held_in new d a ≡ (if (device == d) && (page == a) then None else held_in old d a)
  pub lingering : (d a : ℕ) → released_in new d a
      ≡ (if (device == d) && (page == a) then released_from (held_in old d a) ticket (released_in old d a) else released_in old d a)
  pub pending : pending_in new ≡ pending_in old ++ ticket ∷ []

-- all that the device held lingers under the ticket, which is pending, and nothing else changes
pub record ShowsReleaseOfAll (old new : Ledger) (device ticket : ℕ) : Type 0 where
  pub held : (d a : ℕ) → held_in new d a ≡ (if device == d then None else held_in old d a)
  pub lingering : (d a : ℕ) → released_in new d a
      ≡ (if device == d then released_from (held_in old d a) ticket (released_in old d a) else released_in old d a)
  pub pending : pending_in new ≡ pending_in old ++ ticket ∷ []

-- what lingers, unless it was released under the ticket
abbrev pub unless_under : ℕ → Option (ℕ × Pair) → Option (ℕ × Pair)
unless_under ticket None = None
unless_under ticket (Some released) = if ticket == released.0 then None else Some released

-- what lingered under the ticket is gone, the ticket is pending no more, and nothing else changes
pub record ShowsConfirmation (old new : Ledger) (ticket : ℕ) : Type 0 where
  pub held : (d a : ℕ) → held_in new d a ≡ held_in old d a
  pub lingering : (d a : ℕ) → released_in new d a ≡ unless_under ticket (released_in old d a)
  pub pending : pending_in new ≡ filter (λ t. not (ticket == t)) (pending_in old)

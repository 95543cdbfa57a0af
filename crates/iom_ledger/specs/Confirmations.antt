-- Tickets that are confirmed in a row: what a ledger then shows.
use Rattle.std.specs.Prelude.{◌≡◌, ℕ, ◌+◌, nat_le, nat_lt, Bool, not, ◌&&◌, filter, Option, None, Some, if◌then◌else◌}
use Rattle.iom_ledger.specs.declared.ledger.Ledger.{Ledger}
use Rattle.iom_ledger.specs.History.{Pair}
use Rattle.iom_ledger.specs.Shown.{held_in, released_in, pending_in}

-- whether the ticket is one of so many from the first on
abbrev pub is_among_next : ℕ → ℕ → ℕ → Bool
is_among_next first n ticket = nat_le first ticket && nat_lt ticket (first + n)

-- what lingers, unless it was released under one of the tickets
abbrev pub unless_among : ℕ → ℕ → Option (ℕ × Pair) → Option (ℕ × Pair)
unless_among first n None = None
unless_among first n (Some released) = if is_among_next first n released.0 then None else Some released

-- what lingered under one of the tickets is gone, they are pending no more, and nothing else changes
pub record ConfirmsFrom (old new : Ledger) (first n : ℕ) : Type 0 where
  pub held : (d a : ℕ) → held_in new d a ≡ held_in old d a
  pub lingering : (d a : ℕ) → released_in new d a ≡ unless_among first n (released_in old d a)
  pub pending : pending_in new ≡ filter (λ ticket. not (is_among_next first n ticket)) (pending_in old)

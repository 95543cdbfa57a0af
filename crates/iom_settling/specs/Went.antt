-- How whatever takes events went through some.
use Rattle.std.specs.Prelude.{◌≡◌, ℕ, List, [], ◌∷◌, length}
use Rattle.iom_machine.specs.declared.event.Event.{Event}
use Rattle.iom_machine.specs.declared.outcome.Outcome.{Outcome}

-- WENT: whatever takes events, in the way that `happens` says, took so many events one after another, and of these and their outcomes this is true
abbrev pub Takes : {S : Type 0} → (S → Event → Outcome → S → Type 0) → S → List Event → List Outcome → S → Type 0
Takes happens old [] [] new = new ≡ old
Takes {S} happens old (event ∷ events) (outcome ∷ outcomes) new = (mid : S) × happens old event outcome mid × Takes happens mid events outcomes new
Takes happens old _ _ new = ⊥

pub record Went {S : Type 0} (happens : S → Event → Outcome → S → Type 0) (Are : List Event → List Outcome → Type 0) (old : S) (count : ℕ) (new : S) : Type 0 where
  pub events : List Event
  pub outcomes : List Outcome
  pub takes : Takes happens old events outcomes new
  pub order : Are events outcomes
  pub counted : length events ≡ count

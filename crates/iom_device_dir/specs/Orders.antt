-- What is cached, in the order of use: the entry that was looked at or kept last stands first. What each call makes of that list.
use Rattle.std.specs.Prelude.{◌≡◌, ◌⊎◌, ℕ, nat_eq, not, List, ◌∷◌, take, filter, None}
use Rattle.std.specs.Map.{lookup}
use Rattle.std.specs.Option.{option_map_or}

module _ {V : Type 0} where
  -- the others: without what is at a key
  unfoldable pub without : ℕ → List (ℕ × V) → List (ℕ × V)
  without key entries = filter (λ entry. not (nat_eq key entry.0)) entries

  -- A LOOK: the entry of the key goes first. Where it has none, all stays
  unfoldable pub after_look : ℕ → List (ℕ × V) → List (ℕ × V)
  after_look key entries = option_map_or (λ value. (key, value) ∷ without key entries) (lookup (nat_eq key) entries) entries

  -- A KEEP: the key goes first, with the value. Of the others fifteen stay: all, or where sixteen are there, all but the one that was used the longest ago
  unfoldable pub after_keep : ℕ → V → List (ℕ × V) → List (ℕ × V)
  after_keep key value entries = (key, value) ∷ take 15 (without key entries)

  -- it keeps; or, where the key has nothing yet and there is no memory for it, all stays
  abbrev pub KeepsInOrder : List (ℕ × V) → ℕ → V → List (ℕ × V) → Type 0
  KeepsInOrder old key value new = (new ≡ after_keep key value old) ⊎ ((lookup (nat_eq key) old ≡ None) × (new ≡ old))

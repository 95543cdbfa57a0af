-- Places that are filled from the first on.
use Rattle.std.specs.Prelude.{ℕ, List, [], ◌∷◌, Option, Some, None}

-- what stands in the places that are filled
abbrev pub filled_places : List (Option ℕ) → List ℕ
filled_places [] = []
filled_places (Some frame ∷ places) = frame ∷ filled_places places
filled_places (None ∷ places) = filled_places places

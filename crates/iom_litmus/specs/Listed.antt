-- What stands in a list.
use Rattle.std.specs.Prelude.{◌≡◌, ◌⊎◌, List, [], ◌∷◌}

-- it is one of them
abbrev pub IsListed : {X : Type 0} → List X → X → Type 0
IsListed [] x = ⊥
IsListed (first ∷ rest) x = (first ≡ x) ⊎ IsListed rest x

-- none of them stands there twice
abbrev pub AreListedOnce : {X : Type 0} → List X → Type 0
AreListedOnce [] = Unit {0}
AreListedOnce (first ∷ rest) = (¬ IsListed rest first) × AreListedOnce rest

-- what stood in the one list stands in the other
abbrev pub KeepsListed : {X : Type 0} → List X → List X → Type 0
KeepsListed {X} old new = (x : X) → IsListed old x → IsListed new x

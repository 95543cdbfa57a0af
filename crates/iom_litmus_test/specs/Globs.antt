-- The texts that a glob stands for.
use Rattle.std.specs.Prelude.{◌≡◌, ℕ, List, [], ◌∷◌, ◌≤◌, Bool, true, false, ◌==◌, ◌&&◌, ◌||◌, length, drop}
use Rattle.iom_litmus_test.specs.declared.glob.GlobPart.{GlobPart}
use Rattle.iom_litmus_test.specs.declared.glob.GlobPart.TheVariants.{Anything, Byte}

-- a byte stands for itself, `*` for any number of bytes
abbrev pub Matches : List GlobPart → List ℕ → Type 0
Matches [] text = text ≡ []
Matches (Byte byte ∷ rest) text = (others : List ℕ) × (text ≡ byte ∷ others) × Matches rest others
Matches (Anything ∷ rest) text = (count : ℕ) × (count ≤ length text) × Matches rest (drop count text)

-- the same as a test
abbrev pub is_some_end : (List ℕ → Bool) → List ℕ → Bool
is_some_end test [] = test []
is_some_end test (byte ∷ rest) = test (byte ∷ rest) || is_some_end test rest

abbrev pub is_match : List GlobPart → List ℕ → Bool
is_match [] [] = true
is_match [] (_ ∷ _) = false
is_match (Byte byte ∷ rest) [] = false
is_match (Byte byte ∷ rest) (first ∷ others) = (byte == first) && is_match rest others
is_match (Anything ∷ rest) text = is_some_end (is_match rest) text

-- The first line of bytes that aren't a script.
use Rattle.std.specs.Prelude.{◌≡◌, ℕ, ◌+◌, ◌<◌, List, [], ◌∷◌, ◌++◌, length}
use Rattle.iom_script.specs.Grammar.{bytes_of_lines, MakeText, SayScript}

-- The lines say something together, bytes follow them, and with the line that begins there, if it ends at all, they say nothing.
pub record BreaksAfter {X : Type 0} (SayAll : List (List ℕ) → X → Type 0) (bytes : List ℕ) (lines : List (List ℕ)) (rest : List ℕ) : Type 0 where
  pub before : (said : X) × MakeText SayAll lines said
  pub place : bytes ≡ bytes_of_lines lines ++ rest
  pub more : 0 < length rest
  pub bad : (line after : List ℕ) (said : X) → rest ≡ line ++ 10 ∷ after → ¬ MakeText SayAll (lines ++ line ∷ []) said

-- The bytes aren't in a language, and this is the first line that isn't, counted from 1.
abbrev pub IsFirstBadLineOf : {X : Type 0} → (List (List ℕ) → X → Type 0) → List ℕ → ℕ → Type 0
IsFirstBadLineOf {X} SayAll bytes number =
    (lines : List (List ℕ)) × (rest : List ℕ) × BreaksAfter SayAll bytes lines rest × (number ≡ length lines + 1)

-- The bytes aren't in the grammar of scripts, and this is the first line that isn't, counted from 1.
abbrev pub IsFirstBadLine : List ℕ → ℕ → Type 0
IsFirstBadLine bytes number = IsFirstBadLineOf SayScript bytes number

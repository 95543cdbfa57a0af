-- The lines that were taken of what a reader has, one after another, and the bytes that wait in the buffer behind them.
use Rattle.std.specs.Prelude.{◌≡◌, ◌≤◌, ℕ, List, [], ◌∷◌, ◌++◌, All, length, slice_range, Option, IfSome, ⊤}
use Rattle.std.specs.Io.KnownBytes.{Consumes}
use Rattle.iom_script.specs.Grammar.{bytes_of_lines}
use Rattle.iom_script.specs.Words.{IsWithout}
use Rattle.iom_trace_lines.specs.declared.trace.NextLine.{NextLine}
use Rattle.iom_trace_lines.specs.declared.trace.NextLine.TheVariants.{Line, Broken, End}

-- these bytes stand in the buffer, between the two places
abbrev pub BufferHolds : List ℕ → ℕ → ℕ → List ℕ → Type 0
BufferHolds buffer start end waiting =
    (start ≤ end) × (end ≤ length buffer) × (65536 ≤ length buffer) × (waiting ≡ slice_range buffer start end)

-- The lines were taken of what the reader lost, and the rest of it waits in the buffer.
pub record HasTaken (lines : List (List ℕ)) (buffer : List ℕ) (start end : ℕ) (old new : Option (List ℕ)) : Type 0 where
  pub whole : All (IsWithout 10) lines
  pub read : List ℕ
  pub consumed : Consumes old new read
  pub waiting : List ℕ
  pub holds : BufferHolds buffer start end waiting
  pub is_read : read ≡ bytes_of_lines lines ++ waiting

-- the text is these lines, each ended by its line feed
abbrev pub AreLines : List (List ℕ) → List ℕ → Type 0
AreLines lines text = All (IsWithout 10) lines × (text ≡ bytes_of_lines lines)

-- The next line was taken: it is these bytes of the buffer, or there is no other, and then the lines are all that the reader had at first.
abbrev pub TakesNext : List (List ℕ) → List ℕ → ℕ → ℕ → Option (List ℕ) → Option (List ℕ) → NextLine → Type 0
TakesNext lines buffer start end first now (Line from to) =
    (from ≤ to) × (to ≤ length buffer) × HasTaken (lines ++ slice_range buffer from to ∷ []) buffer start end first now
TakesNext lines buffer start end first now End = IfSome first (AreLines lines)
TakesNext lines buffer start end first now Broken = ⊤

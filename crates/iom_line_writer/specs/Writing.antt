-- What is written where writing may fail half way, and what a sink of lines does with a text.
use Rattle.std.specs.Prelude.{◌≡◌, ℕ, Bool, List, ◌∷◌, ◌++◌, Option}
use Rattle.std.specs.Io.KnownBytes.{Appends}
use Rattle.iom_machine.specs.declared.outcome.Outcome.{Outcome}
use Rattle.iom_machine.specs.declared.outcome.Trace.{Trace}
use Rattle.iom_line_writer.specs.declared.writing.LineWriter.{LineWriter}
use Rattle.iom_line_writer.specs.AnswerLines.{outcome_lines}

-- known contents grow by a beginning of the text
abbrev pub AppendsFront : Option (List ℕ) → Option (List ℕ) → List ℕ → Type 0
AppendsFront old new text = (front rest : List ℕ) × (text ≡ front ++ rest) × Appends old new front

-- known contents grow by a beginning of the text, and of the text at least a byte is left
abbrev pub AppendsPart : Option (List ℕ) → Option (List ℕ) → List ℕ → Type 0
AppendsPart old new text =
    (front : List ℕ) × (next : ℕ) × (rest : List ℕ) × (text ≡ front ++ next ∷ rest) × Appends old new front

-- the sink writes to the same writer, with counts or without them as before
abbrev pub KeepsWriter : {W : Type 0} → LineWriter W → LineWriter W → Type 0
KeepsWriter old new = (new.writer.ghost_name ≡ old.writer.ghost_name) × (new.counts ≡ old.counts)

-- whether the sink wants counts beside an outcome
abbrev pub wants_counts : {W : Type 0} → LineWriter W → Bool
wants_counts lines = lines.counts

-- the sink takes the text: of what was in the buffer and the text a beginning is written, and the rest is in the buffer
abbrev pub TakesText : {W : Type 0} → (W → Option (List ℕ)) → LineWriter W → List ℕ → LineWriter W → Type 0
TakesText contents old text new =
    KeepsWriter old new
    × (written : List ℕ) × Appends (contents old.writer.now) (contents new.writer.now) written × (old.buffer ++ text ≡ written ++ new.buffer)

-- the sink fails at the text: of what was in the buffer and the text a beginning is written, and not all
abbrev pub FailsAt : {W : Type 0} → (W → Option (List ℕ)) → LineWriter W → List ℕ → LineWriter W → Type 0
FailsAt contents old text new = KeepsWriter old new × AppendsPart (contents old.writer.now) (contents new.writer.now) (old.buffer ++ text)

-- the sink takes the line of the outcome, and that of its counts, where there are any
abbrev pub TakesLine : {W : Type 0} → (W → Option (List ℕ)) → LineWriter W → Outcome → Option Trace → LineWriter W → Type 0
TakesLine contents old outcome trace new = TakesText contents old (outcome_lines outcome trace) new

-- the sink fails at them
abbrev pub FailsWriting : {W : Type 0} → (W → Option (List ℕ)) → LineWriter W → Outcome → Option Trace → LineWriter W → Type 0
FailsWriting contents old outcome trace new = FailsAt contents old (outcome_lines outcome trace) new

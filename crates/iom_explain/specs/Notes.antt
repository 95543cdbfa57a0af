-- Lines of explanation behind a line.
use Rattle.std.specs.Prelude.{◌≡◌, List, ℕ, ⊤, [], ◌∷◌, ◌++◌, codes, Contains}

-- the line of a note: `# `, its text, and a line feed
abbrev pub note_line : List ℕ → List ℕ
note_line text = codes "# " ++ text ++ 10 ∷ []

-- those of notes, one after another
abbrev pub note_lines : List (List ℕ) → List ℕ
note_lines [] = []
note_lines (text ∷ texts) = note_line text ++ note_lines texts

-- none of the texts has a line feed in it
abbrev pub AreTexts : List (List ℕ) → Type 0
AreTexts [] = ⊤
AreTexts (text ∷ texts) = (¬ Contains text 10) × AreTexts texts

-- the bytes are the lines of notes
abbrev pub AreNotes : List ℕ → Type 0
AreNotes bytes = (texts : List (List ℕ)) × AreTexts texts × (bytes ≡ note_lines texts)

-- notes are added, and nothing else
abbrev pub AddsNotes : List ℕ → List ℕ → Type 0
AddsNotes old new = (bytes : List ℕ) × AreNotes bytes × (new ≡ old ++ bytes)

-- Notes, one after another.
use Rattle.std.proofs.Common.{◌≡◌, ◌∙◌, ◌++◌, ◌==◌, ◌||◌, ℕ, zero, suc, Bool, true, false, List, [], ◌∷◌, codes, refl, sym, ap, append_assoc, append-nil, arith}
use Rattle.std.specs.List.{list_any}
use Rattle.std.specs.Prelude.{Contains}
use Rattle.iom_explain.specs.Notes.{note_line, note_lines, AreTexts, AddsNotes}

lines_of_both : (one other : List (List ℕ)) → note_lines (one ++ other) ≡ note_lines one ++ note_lines other
lines_of_both [] other = refl
lines_of_both (text ∷ one) other = ap (λ rest. note_line text ++ rest) (lines_of_both one other) ∙ sym (append_assoc (note_line text) (note_lines one) (note_lines other))

all_of_both : (one other : List (List ℕ)) → AreTexts one → AreTexts other → AreTexts (one ++ other)
all_of_both [] other first later = later
all_of_both (text ∷ one) other first later = (first.0, all_of_both one other first.1 later)

-- no notes
pub adds_none : (text : List ℕ) → AddsNotes text text
adds_none text = ([], ([], tt, refl), sym (append-nil text))

-- notes, and more behind them
pub adds_more : (old mid new : List ℕ) → AddsNotes old mid → AddsNotes mid new → AddsNotes old new
adds_more old mid new (first, (one, alone, is), first_is) (later, (other, also, so), later_is) = (
  first ++ later,
  (one ++ other, all_of_both one other alone also, ap (λ bytes. bytes ++ later) is ∙ ap (λ bytes. note_lines one ++ bytes) so ∙ sym (lines_of_both one other)),
  later_is ∙ ap (λ bytes. bytes ++ later) first_is ∙ append_assoc old first later,
)

-- a note
pub adds_one : (old new text : List ℕ) → ¬ Contains text 10 → new ≡ ((old ++ codes "# ") ++ text) ++ 10 ∷ [] → AddsNotes old new
adds_one old new text whole is = (
  note_line text,
  (text ∷ [], (whole, tt), sym (append-nil (note_line text))),
  is ∙ append_assoc (old ++ codes "# ") text (10 ∷ []) ∙ append_assoc old (codes "# ") (text ++ 10 ∷ []),
)

-- bytes among which no line feed is found have none
pub no_line_feed : (text : List ℕ) → list_any (λ byte. byte == 10) text ≡ false → ¬ Contains text 10
no_line_feed [] none (k, lt, at) = absurd (omega (arith, lt))
no_line_feed (byte ∷ text) none (zero, lt, at) = let own : (byte == 10) ≡ true = ap (λ b. b == 10) at in cc
no_line_feed (byte ∷ text) none (suc k, lt, at) = no_line_feed text (later (byte == 10) none) (k, omega (arith, lt), at)
  where
    later : (b : Bool) → (b || list_any (λ byte. byte == 10) text) ≡ false → list_any (λ byte. byte == 10) text ≡ false
    later true found = cc
    later false none = none

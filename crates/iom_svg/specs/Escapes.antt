-- What stands in a picture for a byte of a text (Extensible Markup Language 1.0, section 2.4, "Character Data and Markup").
use Rattle.std.specs.Prelude.{ℕ, Bool, not, ◌||◌, List, [], ◌∷◌, ◌==◌, nat_lt, codes, if◌then◌else◌}
use Rattle.std.specs.List.{flat_map}

-- The four bytes that markup is made of have names, and what is no printable ASCII is a question mark.
abbrev pub escape_of : ℕ → List ℕ
escape_of byte =
    (if byte == 60 then codes "&lt;"
    else (if byte == 62 then codes "&gt;"
    else (if byte == 38 then codes "&amp;"
    else (if byte == 34 then codes "&quot;"
    else (if nat_lt byte 32 then codes "?"
    else (if nat_lt 126 byte then codes "?"
    else byte ∷ []))))))

-- what stands for a text
abbrev pub escaped : List ℕ → List ℕ
escaped text = flat_map escape_of text

-- whether markup can't be made of the byte: it is none of `<`, `>` and `"`
abbrev pub is_plain : ℕ → Bool
is_plain byte = not (byte == 60 || byte == 62 || byte == 34)

-- What stands for a text in a picture.
use Rattle.std.proofs.Common.{◌≡◌, ◌∙◌, ℕ, Bool, true, false, not, ◌||◌, ◌&&◌, List, [], ◌∷◌, ◌==◌, nat_lt, refl, ap, if◌then◌else◌}
use Rattle.std.specs.Prelude.{codes}
use Rattle.std.specs.List.{list_all}
use Rattle.std.proofs.lemmas.List.Folds.{list_all-append}
use Rattle.iom_svg.specs.Escapes.{escape_of, escaped, is_plain}

-- what stands for a byte, by what it is
abbrev chosen : Bool → Bool → Bool → Bool → Bool → Bool → ℕ → List ℕ
chosen less greater ampersand quote low high byte =
    (if less then codes "&lt;"
    else (if greater then codes "&gt;"
    else (if ampersand then codes "&amp;"
    else (if quote then codes "&quot;"
    else (if low then codes "?"
    else (if high then codes "?"
    else byte ∷ []))))))

chosen_is_plain : (less greater ampersand quote low high : Bool) (byte : ℕ) → is_plain byte ≡ not (less || greater || quote)
    → list_all is_plain (chosen less greater ampersand quote low high byte) ≡ true
chosen_is_plain true greater ampersand quote low high byte is = refl
chosen_is_plain false true ampersand quote low high byte is = refl
chosen_is_plain false false true quote low high byte is = refl
chosen_is_plain false false false true low high byte is = refl
chosen_is_plain false false false false true high byte is = refl
chosen_is_plain false false false false false true byte is = refl
chosen_is_plain false false false false false false byte is = ap (λ b. b && true) is

escape_is_plain : (byte : ℕ) → list_all is_plain (escape_of byte) ≡ true
escape_is_plain byte = chosen_is_plain (byte == 60) (byte == 62) (byte == 38) (byte == 34) (nat_lt byte 32) (nat_lt 126 byte) byte refl

-- no byte of what stands for a text can make markup
pub escaped_is_plain : (text : List ℕ) → list_all is_plain (escaped text) ≡ true
escaped_is_plain [] = refl
escaped_is_plain (byte ∷ text) =
    list_all-append is_plain (escape_of byte) (escaped text)
    ∙ ap (λ b. b && list_all is_plain (escaped text)) (escape_is_plain byte)
    ∙ escaped_is_plain text

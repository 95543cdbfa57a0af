-- The texts of words, digit by digit.
use Rattle.std.proofs.Common.{◌≡◌, ℕ, ◌/◌, ◌%◌, [], ◌∷◌, refl}
use Rattle.iom_script.specs.Digits.{hex_digit, hex_digits}

-- six hexadecimal digits, each by itself
pub six_digits : (n : ℕ) → hex_digits 6 n
    ≡ hex_digit (n / 16 / 16 / 16 / 16 / 16 % 16) ∷ hex_digit (n / 16 / 16 / 16 / 16 % 16) ∷ hex_digit (n / 16 / 16 / 16 % 16) ∷ hex_digit (n / 16 / 16 % 16)
    ∷ hex_digit (n / 16 % 16) ∷ hex_digit (n % 16) ∷ []
unfolding hex_digits
six_digits n = refl

-- The digits of an address without leading zeros are so many of its last ones.
use Rattle.std.proofs.Common.{◌≡◌, ℕ, zero, suc, ◌/◌, ◌%◌, ◌^◌, ◌<◌, ◌≤◌, ◌*◌, false, cond, inl, inr, List, [], ◌∷◌, ◌++◌, codes, refl, ap, sym, ◌∙◌, arith, pow-suc, append_assoc}
use Rattle.std.specs.Fmt.{digits_onto}
use Rattle.std.proofs.lemmas.Bool.{eq-eqb, ne_eqb, cases_lt}
use Rattle.iom_script.specs.Digits.{hex_digit, hex_digits}
use Rattle.iom_script.specs.Words.{IsAddress}
use Rattle.iom_script.proofs.HexNumberLemmas.{hex_onto, all_digits}
use Rattle.iom_event_text.specs.Texts.{address_text}

-- they are the last of the number, as many as it needs
abbrev HasDigits : ℕ → ℕ → ℕ → List ℕ → Type 0
HasDigits most fuel n others = (k : ℕ) × (1 ≤ k) × (k ≤ most) × (n < 16 ^ k) × (hex_onto fuel n others ≡ hex_digits k n ++ others)

one_digit : (fuel n : ℕ) (others : List ℕ) → n < 16 → hex_onto (suc fuel) n others ≡ hex_digits 1 n ++ others
unfolding hex_onto hex_digits
one_digit fuel n others few =
    ap (λ t. cond t (hex_digit (n % 16) ∷ others) (digits_onto fuel 16 false (n / 16) (hex_digit (n % 16) ∷ others))) (eq-eqb (n / 16) 0 (omega arith))

next_digit : (fuel n : ℕ) (others : List ℕ) → 16 ≤ n → hex_onto (suc fuel) n others ≡ hex_onto fuel (n / 16) (hex_digit (n % 16) ∷ others)
unfolding hex_onto
next_digit fuel n others some =
    ap (λ t. cond t (hex_digit (n % 16) ∷ others) (digits_onto fuel 16 false (n / 16) (hex_digit (n % 16) ∷ others))) (ne_eqb (n / 16) 0 (λ e. omega arith))

last_digit : (k n : ℕ) (others : List ℕ) → hex_digits k (n / 16) ++ hex_digit (n % 16) ∷ others ≡ hex_digits (suc k) n ++ others
unfolding hex_digits
last_digit k n others = sym (append_assoc (hex_digits k (n / 16)) (hex_digit (n % 16) ∷ []) others)

has_digits : (count fuel n : ℕ) (others : List ℕ) → suc count ≤ fuel → n < 16 ^ suc count → HasDigits (suc count) fuel n others
has_digits count zero n others room fits = absurd (omega (arith, room))
has_digits zero (suc fuel) n others room fits = (1, omega arith, omega arith, fits, one_digit fuel n others (omega (arith, fits)))
has_digits (suc count) (suc fuel) n others room fits = elim (cases_lt n 16) [
  | inl few ↦ (1, omega arith, omega arith, few, one_digit fuel n others few)
  | inr some ↦ (
      let power : 16 ^ suc (suc count) ≡ 16 ^ suc count * 16 = pow-suc 16 (suc count) in
      let rest = has_digits count fuel (n / 16) (hex_digit (n % 16) ∷ others) (omega (arith, room)) (omega (arith, power, fits)) in
      let larger : 16 ^ suc rest.0 ≡ 16 ^ rest.0 * 16 = pow-suc 16 rest.0 in (
        suc rest.0,
        omega arith,
        omega (arith, rest.2),
        omega (arith, larger, rest.3),
        next_digit fuel n others some ∙ rest.4 ∙ last_digit rest.0 n others,
      ))
]

-- so it is an address
pub is_address : (address : ℕ) → address < 2 ^ 64 → IsAddress (address_text address) address
is_address address fits =
    let found = has_digits 15 64 address [] (omega arith) (omega (arith, fits)) in (
      found.0,
      found.1,
      found.2,
      found.3,
      ap (λ digits. codes "0x" ++ digits) (sym (all_digits address) ∙ found.4 ∙ nothing (hex_digits found.0 address)),
    )
  where
    nothing : (l : List ℕ) → l ++ [] ≡ l
    nothing [] = refl
    nothing (x ∷ xs) = ap (λ t. x ∷ t) (nothing xs)

-- Six hexadecimal digits are added up by a table, in which each byte that is no digit has more than six digits say.
use Rattle.std.proofs.Common.{◌≡◌, ℕ, zero, suc, ◌+◌, ◌*◌, ◌^◌, ◌<◌, ◌≤◌, Bool, true, false, ◌||◌, nat_eq, nat_lt, List, [], ◌∷◌, length, take, get_or, inl, inr, refl, arith, add-one}
use Rattle.std.specs.Prelude.{if◌then◌else◌, ◌⊎◌}
use Rattle.std.proofs.lemmas.Bool.Decides.{nat_tests}
use Rattle.std.proofs.lemmas.Bool.{cases_lt}
use Rattle.std.proofs.Math.Nat.{pow-suc, pow-le-pow_right}
use Rattle.iom_script.specs.Digits.{hex_digit, hex_digits}
use Rattle.iom_script.proofs.HexLemmas.{IsHexDigit, hex_read_on, hex_below}
use Rattle.iom_script.proofs.TableLemmas.{are_entries, entry_at, entry_says, entry_refuses}

-- a digit's value, or that of none
abbrev pub is_worth : ℕ → Bool
is_worth value = nat_lt value 16 || nat_eq value 16777216

-- all entries are
abbrev pub are_worths : List ℕ → Bool
are_worths [] = true
are_worths (value ∷ values) = if is_worth value then are_worths values else false

both : (a b : Bool) → (if a then b else false) ≡ true → (a ≡ true) × (b ≡ true)
both true b e = (refl, e)
both false b e = absurd cc

worth_at : (values : List ℕ) (i : ℕ) → are_worths values ≡ true → i < length values → is_worth (get_or values i 0) ≡ true
worth_at [] i e lt = absurd (omega arith)
worth_at (value ∷ values) zero e lt = (both (is_worth value) (are_worths values) e).0
worth_at (value ∷ values) (suc i) e lt = worth_at values i (both (is_worth value) (are_worths values) e).1 (omega arith)

-- what an entry is worth
pub worth_of : (values : List ℕ) (i : ℕ) → are_worths values ≡ true → i < length values → (get_or values i 0 < 16) ⊎ (get_or values i 0 ≡ 16777216)
worth_of values i e lt =
    let worth = worth_at values i e lt in
    grind (arith, nat_tests)

-- a table whose entries say what each byte is, and are worth a digit's value or none's
pub record IsTable (values : List ℕ) : Type 0 where
  pub whole : are_entries values 0 ≡ true
  pub worths : are_worths values ≡ true

-- where an entry is a digit's value, the byte is that digit
pub table_says : (values : List ℕ) (place byte : ℕ) → IsTable values → place ≡ byte → place < length values → get_or values place 0 < 16
    → byte ≡ hex_digit (get_or values place 0)
table_says values place byte table is lt small =
    entry_says byte (get_or values place 0) (entry_at values 0 place byte (omega (arith, is)) table.whole lt) small

-- and where it is none's, the byte is no digit
pub table_refuses : (values : List ℕ) (place byte : ℕ) → IsTable values → place ≡ byte → place < length values → 16 ≤ get_or values place 0
    → IsHexDigit byte → ⊥
table_refuses values place byte table is lt large digit =
    entry_refuses byte (get_or values place 0) digit.0 (entry_at values 0 place byte (omega (arith, is)) table.whole lt) large digit.1 digit.2

-- The sum of the first bytes. Below the power it is what their digits say; else one of them is no digit.
pub record IsSum (text : List ℕ) (k v : ℕ) : Type 0 where
  pub most : v + 16777216 ≤ 33554432 * 16 ^ k
  pub read : v < 16 ^ k → take k text ≡ hex_digits k v
  pub none : 16 ^ k ≤ v → (i : ℕ) × (i < k) × (IsHexDigit (get_or text i 0) → ⊥)

sum_most : (k v w : ℕ) → v + 16777216 ≤ 33554432 * 16 ^ k → w ≤ 16777216 → v * 16 + w + 16777216 ≤ 33554432 * 16 ^ (k + 1)
sum_most k v w most small = rw (add-one, pow-suc) (omega arith)

-- it fits 64 bits, with one more
pub sum_fits : (k v : ℕ) → k < 6 → v + 16777216 ≤ 33554432 * 16 ^ k → v * 16 + 16777216 < 2 ^ 64
sum_fits k v few most =
    let top : 16 ^ k ≤ 16 ^ 5 = pow-le-pow_right {n = 16} (omega arith) {i = k} {j = 5} (omega arith) in
    omega arith

-- below the next power, what is added is a digit's value, and the sum before it was below its power
low_before : (k v w : ℕ) → v * 16 + w < 16 ^ (k + 1) → v < 16 ^ k
low_before k v w low = let q = rw (add-one, pow-suc) at low in omega arith

low_added : (k v w : ℕ) → k < 6 → v * 16 + w < 16 ^ (k + 1) → (w < 16) ⊎ (w ≡ 16777216) → w < 16
low_added k v w few low (inl small) = small
low_added k v w few low (inr none) =
    let top : 16 ^ (k + 1) ≤ 16 ^ 6 = pow-le-pow_right {n = 16} (omega arith) {i = k + 1} {j = 6} (omega arith) in
    absurd (omega arith)

none_on : (text : List ℕ) (k v w : ℕ) → (16 ^ k ≤ v → (i : ℕ) × (i < k) × (IsHexDigit (get_or text i 0) → ⊥)) → (16 ≤ w → IsHexDigit (get_or text k 0) → ⊥)
    → 16 ^ (k + 1) ≤ v * 16 + w → (i : ℕ) × (i < k + 1) × (IsHexDigit (get_or text i 0) → ⊥)
none_on text k v w before here high = elim (cases_lt w 16) [
  | inl small ↦ (
      let large : 16 ^ k ≤ v = elim (cases_lt v (16 ^ k)) [
        | inl less ↦ (let below = hex_below k v w less small in absurd (omega arith))
        | inr more ↦ omega (arith, more)
      ] in
      let found = before large in
      (found.0, omega (arith, found.1), found.2))
  | inr more ↦ (k, omega arith, here (omega (arith, more)))
]

-- one more byte
pub sum_more : (text values : List ℕ) (k v place : ℕ) → IsTable values → k < length text → k < 6 → place ≡ get_or text k 0 → place < length values → IsSum text k v
    → IsSum text (k + 1) (v * 16 + get_or values place 0)
sum_more text values k v place table within few is lt sum =
    let worth = worth_of values place table.worths lt in
    record {
      most = sum_most k v (get_or values place 0) sum.most (elim worth [ inl small ↦ omega (arith, small) | inr none ↦ omega (arith, none) ]);
      read = λ low. (
          let small = low_added k v (get_or values place 0) few low worth in
          hex_read_on text k v (get_or values place 0) within (sum.read (low_before k v (get_or values place 0) low)) small
          (table_says values place (get_or text k 0) table is lt small));
      none = none_on text k v (get_or values place 0) sum.none (λ large. table_refuses values place (get_or text k 0) table is lt large);
    }

-- The low four bytes of a value have the bits that a register of four bytes has.
use Rattle.std.proofs.Common.{◌≡◌, ◌==◌, ◌%◌, ◌^◌, ℕ, Bool, ap, sym, ◌∙◌}
use Rattle.std.specs.Int.RustNames.{bit_and}
use Rattle.std.proofs.lemmas.Nat.{and_mask, and_assoc}

and_low : (value flag : ℕ) → bit_and 4294967295 flag ≡ flag → bit_and (value % 2 ^ 32) flag ≡ bit_and value flag
and_low value flag is_low =
    ap (λ n. bit_and n flag) (sym (and_mask value 32))
    ∙ and_assoc flag value 4294967295
    ∙ ap (λ n. bit_and value n) is_low

-- a test of a bit in the low four bytes is one in the whole
pub test_low : (low value flag : ℕ) (is_set : Bool)
    → low ≡ value % 2 ^ 32 → bit_and 4294967295 flag ≡ flag
    → is_set ≡ (bit_and low flag == flag) → is_set ≡ (bit_and value flag == flag)
test_low low value flag is_set is_word is_low test =
    test ∙ ap (λ n. bit_and n flag == flag) is_word ∙ ap (λ n. n == flag) (and_low value flag is_low)

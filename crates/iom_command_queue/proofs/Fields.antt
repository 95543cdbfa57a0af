-- Fields of a word, read and placed by shifts.
use Rattle.std.proofs.Common.{◌≡◌, ◌+◌, ◌-◌, ◌*◌, ◌/◌, ◌%◌, ◌^◌, ◌<◌, ◌≤◌, ◌∙◌, ℕ, ap, sym, arith}
use Rattle.std.proofs.lemmas.Nat.{field_of, shl-shr, shr-shr, shl_whole, mod_below, pow_pos}
use Rattle.iom_command_queue.specs.Bits.{bits_of}

-- the bits above the field go first, then those below it
pub read_off : (word high low : ℕ) → high < 64 → low ≤ high
    → word * 2 ^ (63 - high) % 18446744073709551616 / 2 ^ (63 - high + low) ≡ bits_of word high low
unfolding bits_of
read_off word high low within some =
    let above = 63 - high in
    let whole : 64 ≡ high + 1 + above = omega arith in
    let split : high + 1 ≡ high + 1 - low + low = omega arith in
    sym (shr-shr (word * 2 ^ above % 18446744073709551616) above low)
    ∙ ap (λ n. word * 2 ^ above % 2 ^ n / 2 ^ above / 2 ^ low) whole
    ∙ ap (λ n. n / 2 ^ low) (field_of (word * 2 ^ above) (high + 1) above)
    ∙ ap (λ n. n % 2 ^ (high + 1) / 2 ^ low) (shl-shr word above)
    ∙ ap (λ n. word % 2 ^ n / 2 ^ low) split
    ∙ field_of word (high + 1 - low) low

pub bits_fit : (word high low : ℕ) → bits_of word high low < 2 ^ (high + 1 - low)
unfolding bits_of
bits_fit word high low = mod_below (word / 2 ^ low) (2 ^ (high + 1 - low)) (pow_pos (high + 1 - low))

-- a value that fits its field loses nothing
pub placed : (value high low : ℕ) → high < 64 → low ≤ high → value < 2 ^ (high + 1 - low) → value * 2 ^ low % 18446744073709551616 ≡ value * 2 ^ low
placed value high low within some fits = shl_whole value (high + 1 - low) low 64 fits (omega arith)

-- The numbers that are drawn, one behind another.
use Rattle.std.specs.Prelude.{ℕ, ◌*◌, ◌/◌, ◌%◌, ◌^◌}
use Rattle.std.specs.Int.Bits.{bit_xor}

-- the number with its bits moved up by so many places, on 64 bits
abbrev pub moved_up : ℕ → ℕ → ℕ
moved_up x places = x * 2 ^ places % 2 ^ 64

-- what is drawn behind this number (xorshift, with 13, 7 and 17)
abbrev pub drawn_after : ℕ → ℕ
drawn_after x =
    let first = bit_xor x (moved_up x 13) in
    let second = bit_xor first (first / 2 ^ 7) in
    bit_xor second (moved_up second 17)

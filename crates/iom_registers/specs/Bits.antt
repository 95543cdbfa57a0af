-- Bits of a register's value, as the specification's chapters name them: bit `n`, and the field `high:low`.
use Rattle.std.specs.Prelude.{ℕ, ◌+◌, ◌-◌, ◌/◌, ◌%◌, ◌^◌, ◌==◌, Bool, if◌then◌else◌}
use Rattle.std.specs.Int.RustNames.{bit_and}

-- the field high:low of a value
abbrev pub bits : ℕ → ℕ → ℕ → ℕ
bits high low value = value / 2 ^ low % 2 ^ (high + 1 - low)

-- whether bit n of a value is 1
abbrev pub has_bit : ℕ → ℕ → Bool
has_bit n value = bit_and value (2 ^ n) == 2 ^ n

-- a value in which bit n alone may be 1
abbrev pub bit : ℕ → Bool → ℕ
bit n is_set = if is_set then 2 ^ n else 0

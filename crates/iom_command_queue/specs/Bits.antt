-- Bits of a word, by their numbers from 0 upward.
use Rattle.std.specs.Prelude.{ℕ, ◌+◌, ◌-◌, ◌/◌, ◌%◌, ◌^◌, ◌==◌, Bool, true, false, Option, Some, None, if◌then◌else◌}

-- the number in the bits high:low of a word
unfoldable pub bits_of : ℕ → ℕ → ℕ → ℕ
bits_of word high low = word / 2 ^ low % 2 ^ (high + 1 - low)

-- whether a bit is 1
abbrev pub is_set : ℕ → ℕ → Bool
is_set word place = bits_of word place place == 1

-- a bit as a number
abbrev pub as_bit : Bool → ℕ
as_bit true = 1
as_bit false = 0

-- a field that counts only where its valid bit is 1
abbrev pub where_set : {T : Type 0} → Bool → T → Option T
where_set valid field = if valid then Some field else None

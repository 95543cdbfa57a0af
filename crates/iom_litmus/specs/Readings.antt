-- What is read off a system: what hardware can do next, and memory.
use Rattle.std.specs.Prelude.{ℕ, Bool, List}

pub record Readings (S : Type 0) : Type 1 where
  -- a fetch does something
  pub fetches : S → Bool
  -- the devices that are there, and whether one has an access in flight, or a walk under way
  pub devices : S → List ℕ
  pub is_in_flight : S → ℕ → Bool
  pub is_in_walk : S → ℕ → Bool
  -- the number of messages under way, and whether those at two places are equal
  pub messages : S → ℕ
  pub is_same_message : S → ℕ → ℕ → Type 0
  -- giving up has an effect
  pub times_out : S → Bool
  -- so many bytes of memory from an address on, as a text
  pub memory : S → ℕ → ℕ → List ℕ

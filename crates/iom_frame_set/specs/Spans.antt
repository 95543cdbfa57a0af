-- Words and spans of frames: what the calls inside this crate say to one another. No public contract cites it.
use Rattle.std.specs.Prelude.{◌≡◌, ◌≢◌, ℕ, ◌<◌, ◌≤◌, true, false, not, ◌==◌, length}
use Rattle.std.specs.Int.{bit_at}
use Rattle.iom_frame_set.specs.Sets.{Words, nth_word, has, room, in_both}

-- each word is as it was
abbrev pub KeepsWords : Words → Words → Type 0
KeepsWords old new = (i : ℕ) → nth_word new i ≡ nth_word old i

-- each word is as it was, but perhaps the one at the index
abbrev pub KeepsOtherWords : Words → Words → ℕ → Type 0
KeepsOtherWords old new index = (i : ℕ) → i ≢ index → nth_word new i ≡ nth_word old i

-- the other set has the numbers of the words that aren't 0, and room for the number of each word that is kept
pub record IsSummary (set filled : Words) : Type 0 where
  pub has_filled : (i : ℕ) → has filled i ≡ not (nth_word set i == 0)
  pub roomy : length set.kept ≤ room filled

-- no number from the first one on and below the limit is in both sets
abbrev pub NoneIsInBoth : Words → Words → ℕ → ℕ → Type 0
NoneIsInBoth set other from limit = (n : ℕ) → from ≤ n → n < limit → in_both set other n ≡ false

-- this number from the first one on and below the limit is in both sets, and none above it is
pub record IsHighestInBoth (set other : Words) (from limit number : ℕ) : Type 0 where
  pub not_before : from ≤ number
  pub below : number < limit
  pub inside : in_both set other number ≡ true
  pub highest : (higher : ℕ) → number < higher → higher < limit → in_both set other higher ≡ false

-- the bit at this place is set, and none above it
pub record IsHighestBit (word place : ℕ) : Type 0 where
  pub within : place < 64
  pub set : bit_at word place ≡ 1
  pub highest : (k : ℕ) → place < k → bit_at word k ≡ 0

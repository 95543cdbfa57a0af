-- Sets of frames, a bit for each; those from 4,096 on share one.
use Rattle.std.specs.Prelude.{◌≡◌, ◌⊎◌, ℕ, ◌+◌, ◌/◌, ◌%◌, ◌<◌, ◌≤◌, ◌==◌, Bool, true, min, List, slice_index_or}
use Rattle.std.specs.Int.{bit_at}

-- the place of a frame: frames from 4,096 on, where no memory has any, share one
abbrev pub frame_place : ℕ → ℕ
frame_place frame = min frame 4096

-- whether the bit of a place is set
unfoldable pub is_place_set : List ℕ → ℕ → Bool
is_place_set row place = bit_at (slice_index_or row (place / 64) 0) (place % 64) == 1

-- whether the frame is in the set, or, from 4,096 on, some such frame is
abbrev pub row_has : List ℕ → ℕ → Bool
row_has row frame = is_place_set row (frame_place frame)

-- the frames that are so go into the set, and no other; none goes out
pub record GrowsBy (old new : List ℕ) (IsNew : ℕ → Type 0) : Type 0 where
  pub unchanged : (frame : ℕ) → row_has old frame ≡ true → row_has new frame ≡ true
  pub added : (frame : ℕ) → IsNew frame → row_has new frame ≡ true
  pub sole : (frame : ℕ) → row_has new frame ≡ true → (row_has old frame ≡ true) ⊎ ((other : ℕ) × IsNew other × (frame_place other ≡ frame_place frame))

-- the set is of the frames that are so
pub record IsOf (row : List ℕ) (IsIn : ℕ → Type 0) : Type 0 where
  pub all : (frame : ℕ) → IsIn frame → row_has row frame ≡ true
  pub sole : (frame : ℕ) → row_has row frame ≡ true → (other : ℕ) × IsIn other × (frame_place other ≡ frame_place frame)

-- the frame is one of so many from this one on
abbrev pub IsInRun : ℕ → ℕ → ℕ → Type 0
IsInRun first count frame = (first ≤ frame) × (frame < first + count)

-- the frame is in both sets, or, from 4,096 on, some such frame is in each
abbrev pub StandInBoth : List ℕ → List ℕ → ℕ → Type 0
StandInBoth one other frame = (row_has one frame ≡ true) × (row_has other frame ≡ true)

-- Sets of frames, a bit for each frame in words of 64.
use Rattle.std.specs.Prelude.{◌≡◌, ◌≢◌, ℕ, zero, suc, ◌*◌, ◌/◌, ◌%◌, ◌<◌, Bool, true, false, ◌==◌, ◌&&◌, List, [], ◌∷◌, ◌++◌, length, Option, Some, slice_index_or, if◌then◌else◌}
use Rattle.std.specs.Int.{bit_at}

-- the words that are kept, and the one that stands for each beyond them
pub record Words : Type 0 where
  pub kept : List ℕ
  pub beyond : ℕ

-- the word at the index
abbrev pub nth_word : Words → ℕ → ℕ
nth_word set index = slice_index_or set.kept index set.beyond

-- whether the frame is in the set: its bit is set
unfoldable pub has : Words → ℕ → Bool
has set frame = bit_at (nth_word set (frame / 64)) (frame % 64) == 1

-- frames below this number go into the set and out of it without new memory
abbrev pub room : Words → ℕ
room set = 64 * length set.kept

-- no frame is in the set
abbrev pub IsEmpty : Words → Type 0
IsEmpty set = (f : ℕ) → has set f ≡ false

-- each frame is in the set
abbrev pub HasEachFrame : Words → Type 0
HasEachFrame set = (f : ℕ) → has set f ≡ true

-- the same frames are in both
abbrev pub HasSame : Words → Words → Type 0
HasSame old new = (f : ℕ) → has new f ≡ has old f

-- the frame is in the new set, and each other where it is in the old one
abbrev pub InsertsFrame : Words → Words → ℕ → Type 0
InsertsFrame old new frame = (f : ℕ) → has new f ≡ (if frame == f then true else has old f)

-- the frame isn't in the new set, and each other is where it is in the old one
abbrev pub RemovesFrame : Words → Words → ℕ → Type 0
RemovesFrame old new frame = (f : ℕ) → has new f ≡ (if frame == f then false else has old f)

-- whether the frame is in both sets
abbrev pub in_both : Words → Words → ℕ → Bool
in_both set other frame = has set frame && has other frame

-- the frame is in both sets, and isn't the one that is named, if one is
pub record IsCommon (set other : Words) (named : Option ℕ) (frame : ℕ) : Type 0 where
  pub unnamed : named ≢ Some frame
  pub inside : in_both set other frame ≡ true

-- no frame below the limit is in both sets besides the named one
abbrev pub NoneIsCommon : Words → Words → Option ℕ → ℕ → Type 0
NoneIsCommon set other named limit = (frame : ℕ) → frame < limit → ¬ IsCommon set other named frame

-- this frame below the limit is in both sets and isn't the named one, and none above it is
pub record IsHighestCommon (set other : Words) (named : Option ℕ) (limit frame : ℕ) : Type 0 where
  pub below : frame < limit
  pub common : IsCommon set other named frame
  pub highest : (higher : ℕ) → frame < higher → higher < limit → ¬ IsCommon set other named higher

-- the frames below the limit that are in both sets, the lowest first
unfoldable pub common_below : Words → Words → ℕ → List ℕ
common_below set other zero = []
common_below set other (suc limit) =
    if in_both set other limit then common_below set other limit ++ limit ∷ [] else common_below set other limit

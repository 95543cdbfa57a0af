-- The set of the frames that aren't reserved: an invariant of this crate's own type. No public contract cites it.
use Rattle.std.specs.Prelude.{◌≡◌, ℕ, ◌≤◌, Bool, false, List, length, Option, is_none, slice_get}
use Rattle.std.specs.Option.{option_map_or}
use Rattle.iom_frame_set.specs.Sets.{Words, has, room}
use Rattle.iom_base.specs.declared.owner.Owner.{Owner}

-- whether it is a frame of memory that isn't reserved
abbrev pub is_unreserved : List (Option Owner) → ℕ → Bool
is_unreserved owners frame = option_map_or (λ owner. is_none owner) (slice_get owners frame) false

-- the set has the frames of memory that aren't reserved, and room for each frame of memory
pub record IsUnreservedSet (owners : List (Option Owner)) (unreserved : Words) : Type 0 where
  pub has_unreserved : (f : ℕ) → has unreserved f ≡ is_unreserved owners f
  pub roomy : length owners ≤ room unreserved

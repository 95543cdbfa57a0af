-- Owners of reserved frames, and free frames.
use Rattle.std.specs.Prelude.{◌≡◌, ◌≢◌, ℕ, zero, suc, ◌-◌, ◌<◌, ◌≤◌, Bool, false, ⊤, List, length, ◌++◌, replicate, Option, None, Some, is_some, slice_get, All, Contains, nat_eq}
use Rattle.std.specs.List.{IsDistinct}
use Rattle.std.specs.Option.{option_and_then, option_map_or}
use Rattle.iom_ledger.specs.declared.ledger.Ledger.{Ledger}
use Rattle.iom_ledger.specs.Shown.{IsFreeIn}
use Rattle.iom_phys_mem.specs.Words.{zeroed}
use Rattle.iom_base.specs.declared.owner.Owner.{Owner}
use Rattle.iom_base.specs.declared.owner.Owner.TheVariants.{System}

-- the owners at power-on: the last four frames are the system's
abbrev pub opening_owners : ℕ → List (Option Owner)
opening_owners frames = replicate (frames - 4) None ++ replicate 4 (Some System)

-- whether the frame is reserved; one outside memory isn't
abbrev pub has_owner : List (Option Owner) → ℕ → Bool
has_owner owners frame = option_map_or (λ owner. is_some owner) (slice_get owners frame) false

-- whom the frame is reserved for, if it is
abbrev pub owner_at : List (Option Owner) → ℕ → Option Owner
owner_at owners frame = option_and_then (λ owner. owner) (slice_get owners frame)

-- the frame is free for a table that isn't to be the named one: not reserved, and no device holds or lingers on it
pub record IsFreeForTable (owners : List (Option Owner)) (ledger : Ledger) (named : Option ℕ) (frame : ℕ) : Type 0 where
  pub other : named ≢ Some frame
  pub unmarked : has_owner owners frame ≡ false
  pub ungranted : IsFreeIn ledger frame

-- no frame from the first number on and below the limit is free besides the named one
abbrev pub NoneIsFree : List (Option Owner) → Ledger → Option ℕ → ℕ → ℕ → Type 0
NoneIsFree owners ledger named first limit =
    (frame : ℕ) → first ≤ frame → frame < limit → ¬ IsFreeForTable owners ledger named frame

-- this frame below the limit is free besides the named one, and none above it is
pub record IsHighestFree (owners : List (Option Owner)) (ledger : Ledger) (named : Option ℕ) (limit frame : ℕ) : Type 0 where
  pub below : frame < limit
  pub free : IsFreeForTable owners ledger named frame
  pub highest : (higher : ℕ) → frame < higher → higher < limit → ¬ IsFreeForTable owners ledger named higher

-- so many frames below the limit are free besides the named one: one of them, and all but one below it
abbrev pub HasFree : List (Option Owner) → Ledger → Option ℕ → ℕ → ℕ → Type 0
HasFree owners ledger named zero limit = ⊤
HasFree owners ledger named (suc count) limit =
    (frame : ℕ) × (frame < limit) × IsFreeForTable owners ledger named frame × HasFree owners ledger named count frame

-- so many numbers are of this sort: those of a list without repetition, in which each of the sort is
abbrev pub AreSoMany : (ℕ → Type 0) → ℕ → Type 0
AreSoMany IsOfSort count =
    (numbers : List ℕ) × IsDistinct nat_eq numbers × All IsOfSort numbers × ((number : ℕ) → IsOfSort number → Contains numbers number)
    × (length numbers ≡ count)

-- it is a frame of memory, and free
abbrev pub IsFreeInMemory : List (Option Owner) → Ledger → ℕ → Type 0
IsFreeInMemory owners ledger frame = (frame < length owners) × IsFreeForTable owners ledger None frame

-- each frame of the owner's has no owner any more and bytes of zero, and no other owner or byte changes
pub record GivesBack (owner : Owner) (old new : List (Option Owner)) (before after : List (List ℕ)) : Type 0 where
  pub size : length new ≡ length old
  pub memory_size : length after ≡ length before
  pub own : (frame : ℕ) → slice_get old frame ≡ Some (Some owner) → (slice_get new frame ≡ Some None) × (slice_get after frame ≡ Some zeroed)
  pub others : (frame : ℕ) → slice_get old frame ≢ Some (Some owner) → (slice_get new frame ≡ slice_get old frame) × (slice_get after frame ≡ slice_get before frame)

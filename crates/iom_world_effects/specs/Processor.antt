-- What the processor writes and reads, and what it is told of a frame.
use Rattle.std.specs.Prelude.{◌≡◌, ◌↔◌, ℕ, ◌+◌, ◌/◌, ◌%◌, ◌<◌, ◌≤◌, false, true, IsTrue, List, length, Some, slice_get, slice_range, slice_set}
use Rattle.iom_base.specs.Bytes.{with_bytes}
use Rattle.iom_base.specs.Sizes.{page_size}
use Rattle.iom_base.specs.Spans.{FitsInPage}
use Rattle.iom_driver.specs.Calls.{IsFreeFrame}
use Rattle.iom_base.specs.declared.refusal.Refusal.{Refusal}
use Rattle.iom_base.specs.declared.refusal.Refusal.TheVariants.{FrameOutOfRange, FrameReserved}
use Rattle.iom_machine.specs.declared.outcome.Outcome.{Outcome}
use Rattle.iom_machine.specs.declared.outcome.Outcome.TheVariants.{Done, Refused, BadSpan, Bytes, Free}
use Rattle.iom_table_frames.specs.Owners.{has_owner}
use Rattle.iom_world_effects.specs.Parts.{Parts}

-- the bytes stand in a frame that isn't reserved, and no other byte changes
pub record StoresAt (old : Parts) (address : ℕ) (bytes : List ℕ) (new : List (List ℕ)) : Type 0 where
  pub fits : FitsInPage address (length bytes)
  pub inside : address / page_size < length old.memory
  pub unreserved : has_owner old.driver.owners (address / page_size) ≡ false
  pub before : List ℕ
  pub there : slice_get old.memory (address / page_size) ≡ Some before
  pub stored : new ≡ slice_set old.memory (address / page_size) (with_bytes before (address % page_size) bytes)

-- why not: the frame is none of memory, else it is reserved
abbrev pub IsNoPlace : Parts → ℕ → Refusal → Type 0
IsNoPlace old frame FrameOutOfRange = length old.memory ≤ frame
IsNoPlace old frame FrameReserved = (frame < length old.memory) × (has_owner old.driver.owners frame ≡ true)
IsNoPlace old frame _ = ⊥

-- a poke, by its answer, and memory after it
abbrev pub StoresIfAny : Parts → ℕ → List ℕ → Outcome → List (List ℕ) → Type 0
StoresIfAny old address bytes Done new = StoresAt old address bytes new
StoresIfAny old address bytes BadSpan new = (¬ FitsInPage address (length bytes)) × (new ≡ old.memory)
StoresIfAny old address bytes (Refused why) new =
    FitsInPage address (length bytes) × IsNoPlace old (address / page_size) why × (new ≡ old.memory)
StoresIfAny old address bytes _ new = ⊥

-- THE PROCESSOR WRITES: IOMMU, driver and devices stay
pub record PokesBytes (old : Parts) (address : ℕ) (bytes : List ℕ) (reply : Outcome) (new : Parts) : Type 0 where
  pub memory : StoresIfAny old address bytes reply new.memory
  pub iommu : new.iommu ≡ old.iommu
  pub driver : new.driver ≡ old.driver
  pub devices : new.devices ≡ old.devices
  pub fabric : new.fabric ≡ old.fabric

-- the bytes that stand there, so many
pub record ShowsAt (old : Parts) (address len : ℕ) (shown : List ℕ) : Type 0 where
  pub fits : FitsInPage address len
  pub bytes : List ℕ
  pub there : slice_get old.memory (address / page_size) ≡ Some bytes
  pub part : shown ≡ slice_range bytes (address % page_size) (address % page_size + len)
  pub long : length shown ≡ len

-- THE PROCESSOR READS, and nothing changes
abbrev pub PeeksBytes : Parts → ℕ → ℕ → Outcome → Type 0
PeeksBytes old address len (Bytes shown) = ShowsAt old address len shown.items
PeeksBytes old address len BadSpan = ¬ FitsInPage address len
PeeksBytes old address len (Refused why) = FitsInPage address len × (why ≡ FrameOutOfRange) × (length old.memory ≤ address / page_size)
PeeksBytes old address len _ = ⊥

-- THE DRIVER IS ASKED whether a frame is free, and nothing changes
abbrev pub AsksFree : Parts → ℕ → Outcome → Type 0
AsksFree old frame (Free is_free) = (frame < length old.memory) × (IsTrue is_free ↔ IsFreeFrame old.driver frame)
AsksFree old frame (Refused why) = (why ≡ FrameOutOfRange) × (length old.memory ≤ frame)
AsksFree old frame _ = ⊥

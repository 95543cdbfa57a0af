-- What the processor writes and reads.
use Rattle.std.specs.Prelude.{◌≡◌, ℕ, ◌+◌, ◌/◌, ◌%◌, ◌<◌, ◌≤◌, List, length, Some, Result, Ok, Err, slice_get, slice_range, slice_set}
use Rattle.iom_base.specs.Bytes.{with_bytes}
use Rattle.iom_base.specs.Sizes.{page_size}
use Rattle.iom_base.specs.Spans.{FitsInPage}
use Rattle.iom_board.specs.declared.answers.NoPlace.{NoPlace}
use Rattle.iom_board.specs.declared.answers.NoPlace.TheVariants.{BadSpan, OutsideMemory}

-- so many bytes have no place at the physical address: they are none or too many or leave their frame, or else memory has no such frame
abbrev pub HaveNoPlace : List (List ℕ) → ℕ → ℕ → NoPlace → Type 0
HaveNoPlace memory address len BadSpan = ¬ FitsInPage address len
HaveNoPlace memory address len OutsideMemory = FitsInPage address len × (length memory ≤ address / page_size)

-- the bytes stand in their frame, and no other byte changes
pub record StoresBytes (old : List (List ℕ)) (address : ℕ) (bytes : List ℕ) (new : List (List ℕ)) : Type 0 where
  pub fits : FitsInPage address (length bytes)
  pub inside : address / page_size < length old
  pub before : List ℕ
  pub there : slice_get old (address / page_size) ≡ Some before
  pub stored : new ≡ slice_set old (address / page_size) (with_bytes before (address % page_size) bytes)

-- THE PROCESSOR WRITES
abbrev pub ProcessorWrites : List (List ℕ) → ℕ → List ℕ → Result (Unit {0}) NoPlace → List (List ℕ) → Type 0
ProcessorWrites old address bytes (Ok done) new = StoresBytes old address bytes new
ProcessorWrites old address bytes (Err why) new = HaveNoPlace old address (length bytes) why × (new ≡ old)

-- the bytes that stand there, so many
pub record BytesStandAt (memory : List (List ℕ)) (address len : ℕ) (loaded : List ℕ) : Type 0 where
  pub fits : FitsInPage address len
  pub frame : List ℕ
  pub there : slice_get memory (address / page_size) ≡ Some frame
  pub part : loaded ≡ slice_range frame (address % page_size) (address % page_size + len)
  pub long : length loaded ≡ len

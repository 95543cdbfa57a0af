-- What is read off hardware: what it can do next, and memory.
use Rattle.std.specs.Prelude.{◌≡◌, ℕ, ◌+◌, ◌/◌, ◌%◌, Bool, List, [], Option, None, Some, is_some, slice_get, slice_range, nat_lt, if◌then◌else◌}
use Rattle.iom_base.specs.Sizes.{page_size}
use Rattle.iom_fabric.specs.declared.fabric.OnLink.{OnLink}
use Rattle.iom_inflight.specs.Flights.{oldest_in, row_of}
use Rattle.iom_iommu.specs.Parts.{flights_of}
use Rattle.iom_script.specs.Digits.{hex_of}
use Rattle.iom_litmus_looks.specs.Places.{HardwarePlace}

-- the device has an access in flight
abbrev pub is_in_flight : HardwarePlace → ℕ → Bool
is_in_flight place id = is_some (oldest_in (row_of (flights_of place.iommu).rows id))

-- at both places the same message is under way
abbrev pub AreEqualMessages : List OnLink → ℕ → ℕ → Type 0
AreEqualMessages messages place other = (message : OnLink) × (slice_get messages place ≡ Some message) × (slice_get messages other ≡ Some message)

-- so many bytes of a frame from the offset on, in hexadecimal digits; none of a frame that isn't there
abbrev pub part_of : Option (List ℕ) → ℕ → ℕ → List ℕ
part_of (Some frame) offset len = hex_of (slice_range frame offset (offset + len))
part_of None offset len = []

-- the bytes of memory from the address on; none where they leave their frame
abbrev pub memory_text : List (List ℕ) → ℕ → ℕ → List ℕ
memory_text memory address len =
    if nat_lt page_size (address % page_size + len) then [] else part_of (slice_get memory (address / page_size)) (address % page_size) len

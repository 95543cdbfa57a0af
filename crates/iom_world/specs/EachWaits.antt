-- That each block device of a world waits only while its own access is in flight.
use Rattle.std.specs.Prelude.{ℕ, List, Option, option_map}
use Rattle.iom_inflight.specs.Flights.{row_of}
use Rattle.iom_iommu.specs.Parts.{flights_of}
use Rattle.iom_virtio_blk.specs.declared.front.Front.{Front}
use Rattle.iom_block_devices.specs.Changes.{block_with}
use Rattle.iom_block_devices.specs.Shown.{ShownBlock}
use Rattle.iom_world.specs.Shown.{Shown}
use Rattle.iom_world.specs.Waiting.{WaitsInFlight}

-- the block device with this id, but for its disk
abbrev pub front_of : List ShownBlock → ℕ → Option Front
front_of blocks id = option_map (λ (block : ShownBlock). block.device.front) (block_with blocks id)

-- EACH BLOCK DEVICE waits only while its own access is in flight
abbrev pub EachWaitsInFlight : Shown → Type 0
EachWaitsInFlight shown = (id : ℕ) → WaitsInFlight (front_of shown.inside.blocks id) (row_of (flights_of shown.parts.iommu).rows id)

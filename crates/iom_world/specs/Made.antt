-- The access that an event makes.
use Rattle.std.specs.Prelude.{◌≡◌, ℕ, List, Option, None}
use Rattle.iom_inflight.specs.Calls.{MakesOldestInFlight}
use Rattle.iom_inflight.specs.Flights.{Flights, oldest_in, row_of}
use Rattle.iom_inflight.specs.declared.made.MadeAt.{MadeAt}
use Rattle.iom_iommu.specs.Parts.{flights_of}
use Rattle.iom_machine.specs.declared.event.Event.{Event}
use Rattle.iom_machine.specs.declared.event.Event.TheVariants.{Commit}
use Rattle.iom_world_effects.specs.Parts.{Parts}

-- a commit makes the oldest access in flight of its device, if it has one; no other event makes any
abbrev pub made_by : Parts → Event → Option MadeAt
made_by parts (Commit id) = oldest_in (row_of (flights_of parts.iommu).rows id)
made_by parts event = None

-- it is what a commit of the device makes, whatever memory has
abbrev pub IsMadeByCommit : Flights → ℕ → Option MadeAt → Type 0
IsMadeByCommit flights id made =
    (memory new_memory : List (List ℕ)) (answer : Option MadeAt) (new : Flights) → MakesOldestInFlight memory flights id answer new_memory new → answer ≡ made

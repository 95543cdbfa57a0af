-- The values that lie between the grants and memory, read off the parts of a world.
-- For the facts that a world carries alone; no public contract cites these.
use Rattle.std.specs.Prelude.{ℕ, List, [], ◌∷◌, ◌++◌, length, map, Option, option_map, is_some}
use Rattle.iom_base.specs.declared.mode.Mode.{Mode}
use Rattle.iom_base.specs.declared.mode.Mode.TheVariants.{First, Second, Both}
use Rattle.iom_command_queue.specs.Waiting.{commands_in}
use Rattle.iom_coherence.specs.Scene.{AccessInFlight}
use Rattle.iom_driver.specs.declared.device.Device.{Device}
use Rattle.iom_driver.specs.declared.device.Stages.{Stages}
use Rattle.iom_driver.specs.Devices.{attachment_by_id, owned_stages_of}
use Rattle.iom_driver.specs.Fences.{last_fence, fence_of}
use Rattle.iom_driver.specs.Layout.{completion_address}
use Rattle.iom_inflight.specs.Flights.{NumberedAccess, FlightRow}
use Rattle.iom_iommu.specs.Parts.{registers_of, contexts_of, translations_of, flights_of, fence_snapshot_of, slots_of}
use Rattle.iom_registers.specs.Queues.{command_status}
use Rattle.iom_tlb.specs.declared.space.Space.{Space}
use Rattle.iom_tlb.specs.declared.space.Space.TheVariants as space
use Rattle.iom_device.specs.Caches.{kind_in}
use Rattle.iom_world_effects.specs.Devices.{shown_attachment}
use Rattle.iom_world_effects.specs.Parts.{Parts}
use Rattle.iom_world_effects.specs.Queued.{completed_in}
use Rattle.iom_world_effects.specs.Scenes.{Values}
use Rattle.iom_world_effects.specs.Traffic.{traffic_of}

-- an access in flight, as far as copies go
abbrev pub access_in_flight : ℕ → NumberedAccess → AccessInFlight
access_in_flight device flight = record { device = device; frame = flight.accepted.frame; kind = flight.accepted.access.kind; number = flight.number }

-- those of all devices
abbrev pub accesses_of : List FlightRow → List AccessInFlight
accesses_of [] = []
accesses_of (row ∷ rows) = map (access_in_flight row.device) row.waiting ++ accesses_of rows

-- the address space of a device that is attached in the mode, with this number
abbrev pub space_in : Mode → ℕ → Space
space_in (First size) number = space.First number
space_in (Second size) number = space.Second number
space_in (Both size) number = space.Both number number

-- that of a device that is attached, quarantined or leaving
abbrev pub space_at : List Device → ℕ → Option Space
space_at devices id = option_map (λ (stage : Stages). space_in stage.mode stage.number) (owned_stages_of devices id)

abbrev pub values_of : Parts → Values
values_of parts = record {
  ledger = parts.driver.ledger;
  address = completion_address (length parts.memory);
  waiting = commands_in parts.memory (registers_of parts.iommu);
  completed = completed_in parts.memory;
  last_fence = last_fence parts.driver;
  fence_of = fence_of parts.driver;
  given = parts.driver.given;
  confirmed = parts.driver.confirmed;
  so_far = (flights_of parts.iommu).so_far;
  in_flight = accesses_of (flights_of parts.iommu).rows;
  kind_of = kind_in parts.devices;
  attachment_of = λ id. shown_attachment (attachment_by_id parts.driver.devices id);
  is_cached = λ id. is_some (contexts_of parts.iommu id);
  space_of = space_at parts.driver.devices;
  translations = translations_of parts.iommu;
  fence_snapshot = fence_snapshot_of parts.iommu;
  is_stopped = (command_status (registers_of parts.iommu)).cmd_to;
  traffic = traffic_of parts.devices parts.fabric (slots_of parts.iommu);
}

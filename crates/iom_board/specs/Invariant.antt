-- What stays true of a board, whatever is done to it.
use Rattle.std.specs.Prelude.{◌≡◌, ℕ, ◌^◌, ◌≤◌, ◌<◌, Bool, true, List, length, map, Some, slice_get, is_some, ⊤}
use Rattle.std.specs.List.{All}
use Rattle.iom_device.specs.Caches.{device_with, epoch_in, HaveTheirCaches}
use Rattle.iom_device.specs.declared.device.Device.{Device}
use Rattle.iom_fabric.specs.declared.fabric.OnLink.{OnLink}
use Rattle.iom_fabric.specs.declared.message.Message.{Message}
use Rattle.iom_fabric.specs.declared.message.Message.TheVariants as sent
use Rattle.iom_inflight.specs.Flights.{FlightRow}
use Rattle.iom_iommu.specs.Parts.{flights_of, slots_of, frames_of}
use Rattle.iom_board.specs.BoardParts.{BoardParts}

-- the ids of the devices, in the order of plugging, and of the IOMMU's rows
abbrev pub device_ids : List Device → List ℕ
device_ids devices = map (λ (device : Device). device.id) devices

abbrev pub flight_ids : List FlightRow → List ℕ
flight_ids rows = map (λ (row : FlightRow). row.device) rows

-- no two devices have the same id
abbrev pub AreOfOneId : List Device → Type 0
AreOfOneId devices =
    (j k : ℕ) (one other : Device) → slice_get devices j ≡ Some one → slice_get devices k ≡ Some other → one.id ≡ other.id → j ≡ k

-- a question is one of a device that is plugged in, and of a page of the 64-bit address space
abbrev pub IsOfPlugged : Bool → Message → Type 0
IsOfPlugged is_plugged (sent.Ask epoch page) = (is_plugged ≡ true) × (page < 2 ^ 52)
IsOfPlugged is_plugged (sent.Answer epoch page translation) = ⊤
IsOfPlugged is_plugged (sent.InvReq serial range) = ⊤
IsOfPlugged is_plugged (sent.InvDone serial) = ⊤

abbrev pub IsMessageOf : List Device → OnLink → Type 0
IsMessageOf devices on = IsOfPlugged (is_some (device_with devices on.device)) on.message

-- The IOMMU was built for this memory, and has a row for each device, in their order; each device has a cache where its kind does; and no more accesses were
-- accepted, serials given and epochs begun than events came.
pub record BoardInvariant (parts : BoardParts) (events : ℕ) : Type 0 where
  pub size : frames_of parts.iommu ≡ length parts.memory
  pub own_ids : AreOfOneId parts.devices
  pub rows : flight_ids (flights_of parts.iommu).rows ≡ device_ids parts.devices
  pub caches : HaveTheirCaches parts.devices
  pub askers : All (IsMessageOf parts.devices) parts.fabric
  pub accepted : (flights_of parts.iommu).so_far ≤ events
  pub serials : (slots_of parts.iommu).last ≤ events
  pub epochs : (id : ℕ) → epoch_in parts.devices id ≤ events

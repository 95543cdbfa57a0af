-- What the ledger machine sees of the devices: their kinds are the world's, and whether they have disks, how they are attached the driver knows, and what is in flight the IOMMU.
use Rattle.std.specs.Prelude.{ℕ, List, [], map}
use Rattle.std.specs.Option.{option_map_or}
use Rattle.iom_base.specs.declared.access.AcceptedAccess.{AcceptedAccess}
use Rattle.iom_driver.specs.declared.device.Attachment as driver
use Rattle.iom_driver.specs.declared.device.Attachment.TheVariants as attached
use Rattle.iom_driver.specs.declared.device.Device as known
use Rattle.iom_driver.specs.Devices.{attachment_by_id}
use Rattle.iom_inflight.specs.Flights.{NumberedAccess, FlightRow, row_of}
use Rattle.iom_machine.specs.declared.state.Attachment.{Attachment}
use Rattle.iom_machine.specs.declared.state.Attachment.TheVariants.{Detached, Attached, Quarantined, Leaving}
use Rattle.iom_machine.specs.declared.state.Device as machine
use Rattle.iom_device.specs.declared.device.Device.{Device}

-- how a device is attached, in its mode, with ATS or without
abbrev pub shown_attachment : driver.Attachment → Attachment
shown_attachment attached.Detached = Detached
shown_attachment (attached.Attached stage) = Attached stage.mode stage.ats
shown_attachment (attached.Quarantined ticket stage) = Quarantined ticket stage.mode stage.ats
shown_attachment (attached.Leaving ticket stage) = Leaving ticket stage.mode stage.ats

-- what the device has in flight, the oldest first
abbrev pub in_flight_of : List FlightRow → ℕ → List AcceptedAccess
in_flight_of rows id = option_map_or (λ (row : FlightRow). map (λ (flight : NumberedAccess). flight.accepted) row.waiting) (row_of rows id) []

-- how many of its accesses were ever accepted
abbrev pub accepted_of : List FlightRow → ℕ → ℕ
accepted_of rows id = option_map_or (λ (row : FlightRow). row.accepted) (row_of rows id) 0

-- a device, where the driver knows these, and the IOMMU has these rows
abbrev pub shown_device : List known.Device → List FlightRow → Device → machine.Device
shown_device known rows device = record {
  id = device.id;
  kind = device.kind;
  has_disk = device.has_disk;
  attachment = shown_attachment (attachment_by_id known device.id);
  accepted = accepted_of rows device.id;
  in_flight = in_flight_of rows device.id;
}

-- the devices, in the order of plugging
abbrev pub shown_devices : List known.Device → List FlightRow → List Device → List machine.Device
shown_devices known rows devices = map (shown_device known rows) devices

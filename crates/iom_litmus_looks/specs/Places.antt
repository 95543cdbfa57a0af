-- What hardware is, for a litmus test: what later answers can depend on.
use Rattle.std.specs.Prelude.{ℕ, List, map}
use Rattle.iom_device.specs.declared.device.Device.{Device}
use Rattle.iom_fabric.specs.declared.fabric.OnLink.{OnLink}
use Rattle.iom_board.specs.declared.board.Board.{Board}
use Rattle.iom_iommu.specs.OwnIommu.{Iommu}

-- The parts of the hardware. How many events there were, and how much room lists have, aren't among them.
pub record HardwarePlace : Type 0 where
  pub memory : List (List ℕ)
  pub iommu : Iommu
  pub devices : List Device
  pub messages : List OnLink
  pub disks : List ℕ

abbrev pub hardware_place : Board → HardwarePlace
hardware_place hardware = record {
  memory = hardware.memory;
  iommu = hardware.iommu;
  devices = hardware.devices.items;
  messages = hardware.fabric;
  disks = hardware.disks.items;
}

-- the ids of the devices, in the order of plugging
abbrev pub ids_of : List Device → List ℕ
ids_of devices = map (λ (device : Device). device.id) devices

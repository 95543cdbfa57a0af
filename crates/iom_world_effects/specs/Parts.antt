-- The parts of a world: what each call of driver, IOMMU and devices speaks of.
use Rattle.std.specs.Prelude.{ℕ, List}
use Rattle.iom_driver.specs.State.{DriverState}
use Rattle.iom_fabric.specs.declared.fabric.OnLink.{OnLink}
use Rattle.iom_iommu.specs.OwnIommu.{Iommu}
use Rattle.iom_device.specs.declared.device.Device.{Device}

-- the bytes of each frame, the IOMMU, what the driver knows, the devices in the order of plugging, and the messages under way
pub record Parts : Type 0 where
  pub memory : List (List ℕ)
  pub iommu : Iommu
  pub driver : DriverState
  pub devices : List Device
  pub fabric : List OnLink

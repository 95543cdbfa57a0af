-- The IOMMU and the driver of a world at power-on.
use Rattle.std.specs.Prelude.{◌≡◌, ℕ, ◌-◌, true}
use Rattle.iom_driver.specs.Calls.{IsOpening, turned_on}
use Rattle.iom_driver.specs.Layout.{ddtp_of}
use Rattle.iom_driver.specs.State.{DriverState}
use Rattle.iom_iommu.specs.Parts.{IsAtPowerOn, mmio}
use Rattle.iom_registers.specs.declared.register.Register.TheVariants.{Ddtp}
use Rattle.iom_iommu.specs.OwnIommu.{Iommu}

-- the IOMMU was at power-on, and then the driver wrote `ddtp` and turned its queues on
abbrev pub IsStartedIommu : ℕ → ℕ → Iommu → Type 0
IsStartedIommu frames levels iommu =
    (cold : Iommu) × IsAtPowerOn frames cold × (iommu ≡ turned_on mmio frames (mmio.after cold Ddtp (ddtp_of frames levels)))

-- the driver was new, and then it was started from a fence's number: so it has given no ticket, and its first fence gets that number
abbrev pub IsStartedDriver : ℕ → ℕ → ℕ → DriverState → Type 0
IsStartedDriver first_fence frames levels driver =
    (cold : DriverState) × IsOpening frames levels cold × (driver ≡ record cold { started = true; restarts = first_fence - 1 })

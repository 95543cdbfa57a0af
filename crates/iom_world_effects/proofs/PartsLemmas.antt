-- The parts of a world by what each of them is, and the driver's law for a state.
use Rattle.std.proofs.Common.{◌≡◌, ◌∙◌, ℕ, true, List, ap}
use Rattle.iom_driver.specs.declared.driver.Driver.{Driver}
use Rattle.iom_driver.specs.Laws.{KeepsReserved, KeepsRing, ReadyStays, LeavesAllElse, ReadyAfterRecord}
use Rattle.iom_fault_queue.specs.declared.ring.Put.{Put}
use Rattle.iom_fault_queue.specs.Calls.{PutsRecord}
use Rattle.iom_fault_queue.specs.Fields.{Fields}
use Rattle.iom_driver.specs.Ready.{IsReady}
use Rattle.iom_driver.specs.StateOf.{state_of}
use Rattle.iom_driver.specs.State.{DriverState}
use Rattle.iom_iommu.specs.OwnIommu.{Iommu}
use Rattle.iom_registers.specs.declared.registers.Registers.{Registers}
use Rattle.iom_device.specs.declared.device.Device.{Device}
use Rattle.iom_world_effects.specs.Parts.{Parts}
use Rattle.iom_fabric.specs.declared.fabric.OnLink.{OnLink}

-- the parts that are these
abbrev pub of_parts : List (List ℕ) → Iommu → DriverState → List Device → List OnLink → Parts
of_parts memory iommu driver devices fabric = record { memory = memory; iommu = iommu; driver = driver; devices = devices; fabric = fabric }

pub parts_are : (new : Parts) (memory : List (List ℕ)) (iommu : Iommu) (driver : DriverState) (devices : List Device) (fabric : List OnLink)
    → new.memory ≡ memory → new.iommu ≡ iommu → new.driver ≡ driver → new.devices ≡ devices → new.fabric ≡ fabric → new ≡ of_parts memory iommu driver devices fabric
parts_are new memory iommu driver devices fabric same_memory same_iommu same_driver same_devices same_fabric =
    ap (λ m. of_parts m new.iommu new.driver new.devices new.fabric) same_memory
    ∙ ap (λ i. of_parts memory i new.driver new.devices new.fabric) same_iommu
    ∙ ap (λ d. of_parts memory iommu d new.devices new.fabric) same_driver
    ∙ ap (λ ds. of_parts memory iommu driver ds new.fabric) same_devices
    ∙ ap (λ ms. of_parts memory iommu driver devices ms) same_fabric

-- the driver's law, of one state
abbrev pub StaysReady : DriverState → Type 0
StaysReady d = (old new : List (List ℕ)) (r s : Registers) → IsReady d old r → KeepsReserved d old new → KeepsRing r s → IsReady d new s

pub stays_of : ReadyStays → (driver : Driver) → StaysReady (state_of driver)
stays_of law driver old new r s ready reserved ring = law driver old new r s ready reserved ring

-- and of a state in which a fault is reported
abbrev pub StaysReported : DriverState → Type 0
StaysReported d = (old new : List (List ℕ)) (r s : Registers) (fields : Fields) (answer : Put) → IsReady d old r → d.started ≡ true → PutsRecord old r fields answer new s
    → IsReady d new s × LeavesAllElse old new r s

pub reported_of : ReadyAfterRecord → (driver : Driver) → StaysReported (state_of driver)
reported_of law driver old new r s fields answer ready started puts = law driver old new r s fields answer ready started puts

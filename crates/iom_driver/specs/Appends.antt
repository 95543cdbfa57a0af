-- The commands of a release and of a detach, and what appending them does to memory and to whatever has registers.
use Rattle.std.specs.Prelude.{◌≡◌, ℕ, ◌++◌, true, false, List, [], ◌∷◌, Option, None, Some, if◌then◌else◌}
use Rattle.iom_command_queue.specs.declared.command.Command.{Command}
use Rattle.iom_base.specs.declared.mode.Mode.{Mode}
use Rattle.iom_base.specs.declared.mode.Mode.TheVariants.{First, Second, Both}
use Rattle.iom_command_queue.specs.declared.command.AtsRange.{AtsRange}
use Rattle.iom_command_queue.specs.declared.command.AtsRange.TheVariants.{Page, Everything}
use Rattle.iom_command_queue.specs.declared.command.Command.TheVariants.{IotinvalVma, IotinvalGvma, IofenceC, IodirInvalDdt, AtsInval}
use Rattle.iom_command_queue.specs.declared.entry.QueueEntry.TheVariants as stands
use Rattle.iom_command_queue.specs.Waiting.{commands_in, place_of, WritesCommand}
use Rattle.iom_registers.specs.declared.mmio.Mmio.{Ghosts}
use Rattle.iom_registers.specs.declared.register.Register.TheVariants.{Cqt}
use Rattle.iom_registers.specs.Queues.{command_entries, command_tail, next_index}
use Rattle.iom_driver.specs.declared.device.Stages.{Stages}

-- Translations go, of the address space of this number in the mode: those of the page, or all (IOMMU specification, section 3.1.1, "IOMMU Page-Table
-- cache invalidation commands"). IOTINVAL.VMA where the first stage translates alone; else IOTINVAL.GVMA, whose page is a guest physical one.
abbrev pub invalidation_of : Mode → ℕ → Option ℕ → Command
invalidation_of (First size) number page = IotinvalVma None (Some number) page
invalidation_of (Second size) number page = IotinvalGvma (Some number) page
invalidation_of (Both size) number page = IotinvalGvma (Some number) page

-- those of the page
abbrev pub invalidation : Mode → ℕ → ℕ → Command
invalidation mode number page = invalidation_of mode number (Some page)

-- all of the address space
abbrev pub space_invalidation : Mode → ℕ → Command
space_invalidation mode number = invalidation_of mode number None

-- IODIR.INVAL_DDT: the context of the device goes (section 3.1.3, "IOMMU directory cache invalidation commands")
abbrev pub context_invalidation : ℕ → Command
context_invalidation id = IodirInvalDdt (Some id)

-- IOFENCE.C: once earlier commands are complete, and reads and writes that were processed before them, the number stands at the address (section
-- 3.1.2, "IOMMU Command-Queue Fence command")
abbrev pub fence : ℕ → ℕ → Command
fence address number = IofenceC (Some (record { address = address; «data» = number })) false true true

-- The translations that a device with ATS is asked to drop when its page is released: those of the page. In both stages everything, since the page is
-- a guest physical one, and the device's own copies don't tell which of these they came through.
abbrev pub dropped_range : Mode → ℕ → AtsRange
dropped_range (First size) page = Page page
dropped_range (Second size) page = Page page
dropped_range (Both size) page = Everything

-- ATS.INVAL: the device, where it may keep translations of its own, drops these (section 3.1.4, "IOMMU PCIe ATS commands")
abbrev pub device_invalidation : ℕ → Stages → ℕ → List Command
device_invalidation id stage page = if stage.ats then AtsInval id (dropped_range stage.mode page) ∷ [] else []

-- The commands of a release, by the id of the device, its stages, the page, the address of the completion word, and the fence's number: the IOMMU
-- drops what it has cached of the page; then the device does, which could else ask for that again; and then the fence.
abbrev pub release_commands : ℕ → Stages → ℕ → ℕ → ℕ → List Command
release_commands id stage page address number = invalidation stage.mode stage.number page ∷ device_invalidation id stage page ++ fence address number ∷ []

-- The commands of a detach, and of a quarantine: the device's context goes, so that it may ask for nothing more; then all of its address space; and
-- then the fence.
abbrev pub detach_commands : ℕ → Stages → ℕ → ℕ → List Command
detach_commands id stage address number = context_invalidation id ∷ space_invalidation stage.mode stage.number ∷ fence address number ∷ []

-- the command's bytes stand at the tail, and the tail moved on by one: so the command is the last that waits
pub record Appends {M : Type 0} (g : Ghosts M) (memory : List (List ℕ)) (io : M) (command : Command) (memory' : List (List ℕ)) (io' : M) : Type 0 where
  pub written : WritesCommand memory (place_of (g.registers io) (command_tail (g.registers io))) command memory'
  pub rung : io' ≡ g.after io Cqt (next_index (command_entries (g.registers io)) (command_tail (g.registers io)))
  pub list : commands_in memory' (g.registers io') ≡ commands_in memory (g.registers io) ++ stands.Command command ∷ []

-- these commands, one after the other
abbrev pub AppendsAll : {M : Type 0} → Ghosts M → List (List ℕ) → M → List Command → List (List ℕ) → M → Type 0
AppendsAll g memory io [] memory' io' = (memory' ≡ memory) × (io' ≡ io)
AppendsAll {M} g memory io (command ∷ later) memory' io' = (between_memory : List (List ℕ)) × (between_io : M)
    × Appends g memory io command between_memory between_io
    × AppendsAll g between_memory between_io later memory' io'

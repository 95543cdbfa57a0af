-- What software may do to a board by itself: it stores bytes in memory, and writes registers of the IOMMU.
use Rattle.std.specs.Prelude.{◌≡◌, ℕ, length}
use Rattle.iom_iommu.specs.Parts.{after_write, flights_of, frames_of, slots_of}
use Rattle.iom_registers.specs.declared.register.Register.{Register}
use Rattle.iom_board.specs.BoardParts.{BoardParts}
use Rattle.iom_board.specs.Invariant.{BoardInvariant}

-- memory has as many frames, no access in flight changes and no serial is given, and devices and messages stay
pub record ChangesAsSoftware (old new : BoardParts) : Type 0 where
  pub size : length new.memory ≡ length old.memory
  pub frames : frames_of new.iommu ≡ frames_of old.iommu
  pub flights : flights_of new.iommu ≡ flights_of old.iommu
  pub last : (slots_of new.iommu).last ≡ (slots_of old.iommu).last
  pub devices : new.devices ≡ old.devices
  pub fabric : new.fabric ≡ old.fabric

-- WHATEVER SOFTWARE DOES, a board keeps its invariant
abbrev pub SoftwareKeepsInvariant : Type 0
SoftwareKeepsInvariant = (old new : BoardParts) (events : ℕ) → BoardInvariant old events → ChangesAsSoftware old new → BoardInvariant new events

-- a write of a register is such a change
abbrev pub WritesAreSoftware : Type 0
WritesAreSoftware = (old : BoardParts) (register : Register) (value : ℕ) → ChangesAsSoftware old (record old { iommu = after_write old.iommu register value })

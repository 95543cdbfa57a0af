-- Where requests that are under way make their loads (RISC-V IOMMU specification, sections 2.3 and 2.3.1).
use Rattle.std.specs.Prelude.{ℕ, List, Contains}
use Rattle.iom_base.specs.declared.access.AccessKind.TheVariants.{Read}
use Rattle.iom_ledger.specs.History.{History, May}
use Rattle.iom_walk_coherence.specs.Walks.{Walk, InGuestTable, walk_at}
use Rattle.iom_walks.specs.Walks.{WalkRow}
use Rattle.iom_world_effects.specs.Parts.{Parts}
use Rattle.iom_world_walks.specs.Standing.{RowsStand}

-- where a walk stands at an entry of a guest's own table, its device may read the frame in which that is
abbrev pub GuestTablesMayBeRead : List Walk → History → Type 0
GuestTablesMayBeRead under_way history = (id frame : ℕ) → Contains under_way (walk_at id (InGuestTable frame)) → May history id frame Read

-- EACH REQUEST'S NEXT LOAD is of a page of the directory on the path of its device's id, of a table that the driver wrote for the device, or of a guest's own table in a
-- frame that the device may read: it holds it, or released it under a ticket that isn't confirmed
abbrev pub LoadWhereTheyMay : Parts → List WalkRow → History → Type 0
LoadWhereTheyMay parts rows history =
    ∥ ((under_way : List Walk) × RowsStand parts.driver parts.memory under_way rows × GuestTablesMayBeRead under_way history) ∥₁

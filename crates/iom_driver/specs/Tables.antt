-- The page tables of attached, quarantined and leaving devices.
use Rattle.std.specs.Prelude.{◌≡◌, ℕ, ◌^◌, ◌%◌, ◌<◌, ◌≤◌, List, Option, None, Some, option_map, slice_get}
use Rattle.iom_base.specs.declared.mode.Mode.{Mode}
use Rattle.iom_base.specs.declared.mode.Mode.TheVariants.{First, Second, Both}
use Rattle.iom_base.specs.Modes.{size_in}
use Rattle.iom_base.specs.Sizes.{levels_of, page_limit_of}
use Rattle.iom_base.specs.declared.owner.Owner.{Owner}
use Rattle.iom_base.specs.declared.owner.Owner.TheVariants.{OneDevice}
use Rattle.iom_ledger.specs.declared.ledger.Ledger.{Ledger}
use Rattle.iom_ledger.specs.History.{Pair}
use Rattle.iom_ledger.specs.Shown.{held_in}
use Rattle.iom_page_table.specs.declared.leaf.PageLeaf.{PageLeaf}
use Rattle.iom_page_table.specs.Leaves.{leaf_of}
use Rattle.iom_page_table.specs.FirstTables.{IsRoot, HasTable}
use Rattle.iom_page_table.specs.SecondTables.{IsGuestRoot, HasGuestTable}
use Rattle.iom_driver.specs.declared.device.Device.{Device}
use Rattle.iom_driver.specs.declared.device.Stages.{Stages}
use Rattle.iom_driver.specs.Devices.{owned_stages_of}

-- the leaf that maps a page to what is held there
abbrev pub leaf_for : Pair → PageLeaf
leaf_for pair = record { frame = pair.0; rights = pair.1 }

-- the root is that of the tables that the driver writes in the mode: of a first stage where that translates alone; else of a second stage, whose root is
-- aligned to the four frames that it fills (RISC-V Privileged Architecture, Sv39 and Sv39x4, Sv48 and Sv48x4)
abbrev pub IsRootIn : Mode → List (List ℕ) → ℕ → Type 0
IsRootIn (First size) memory root = IsRoot size memory root
IsRootIn (Second size) memory root = IsGuestRoot size memory root × (root % 4 ≡ 0)
IsRootIn (Both size) memory root = IsGuestRoot size memory root × (root % 4 ≡ 0)

-- the frame holds one of these tables
abbrev pub HasTableIn : Mode → List (List ℕ) → ℕ → ℕ → Type 0
HasTableIn (First size) memory root f = HasTable size memory root f
HasTableIn (Second size) memory root f = HasGuestTable size memory root f
HasTableIn (Both size) memory root f = HasGuestTable size memory root f

-- the tables of the root are a tree, in frames that are reserved for the device alone, and map exactly what the device holds, which is on pages of their lower half
pub record AreTablesOf (memory : List (List ℕ)) (owners : List (Option Owner)) (ledger : Ledger) (id : ℕ) (mode : Mode) (root : ℕ) : Type 0 where
  pub tree : IsRootIn mode memory root
  pub own : (f : ℕ) → HasTableIn mode memory root f → slice_get owners f ≡ Some (Some (OneDevice id))
  pub low : (page : ℕ) → page_limit_of (size_in mode) ≤ page → held_in ledger id page ≡ None
  pub leaves : (page : ℕ) → page < 2 ^ 52 → leaf_of (levels_of (size_in mode)) memory root page ≡ option_map leaf_for (held_in ledger id page)

-- each attached, quarantined or leaving device has such tables
abbrev pub HaveTables : List (List ℕ) → List (Option Owner) → Ledger → List Device → Type 0
HaveTables memory owners ledger devices =
    (id : ℕ) (stage : Stages) → owned_stages_of devices id ≡ Some stage → AreTablesOf memory owners ledger id stage.mode stage.root

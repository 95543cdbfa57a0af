-- What is wrong with the entry that a walk of tables loads last, where that stops it.
use Rattle.std.specs.Prelude.{ℕ, ◌%◌, ◌^◌, ◌==◌, Bool, true, false}
use Rattle.iom_base.specs.Rights.{allows}
use Rattle.iom_base.specs.Tables.{table_entries}
use Rattle.iom_base.specs.declared.access.AccessKind.{AccessKind}
use Rattle.iom_base.specs.declared.access.AccessKind.TheVariants.{Read}
use Rattle.iom_stage_walk.specs.declared.entry.Entry.{Entry}
use Rattle.iom_stage_walk.specs.declared.entry.Entry.TheVariants as entry
use Rattle.iom_stepped_walk.specs.declared.flaw.Flaw.{Flaw}
use Rattle.iom_stepped_walk.specs.declared.flaw.Flaw.TheVariants.{OutsideMemory, Invalid, NamesNoTable, Misaligned, Forbids, NamesNoPage}
use Rattle.iom_stepped_walk.specs.declared.tables.TableWalk.{TableWalk}
use Rattle.iom_stepped_walk.specs.declared.tables.TableWalk.TheVariants.{InFirstStage, InSecondStage, ToGuestEntry, InGuestTable, ToGuestPage}

-- the level of the table from which a walk loads next
abbrev pub level_of : TableWalk → ℕ
level_of (InFirstStage asked place) = place.level
level_of (InSecondStage asked place) = place.level
level_of (ToGuestEntry both entry place) = place.level
level_of (InGuestTable both entry frame) = entry.level
level_of (ToGuestPage both page place) = place.level

-- the kind of access that a leaf there has to allow: a read, on the way to an entry of a guest's table (RISC-V Privileged Architecture, section 15.5)
abbrev pub asks_of : TableWalk → AccessKind
asks_of (InFirstStage asked place) = asked.kind
asks_of (InSecondStage asked place) = asked.kind
asks_of (ToGuestEntry both entry place) = Read
asks_of (InGuestTable both entry frame) = both.asked.kind
asks_of (ToGuestPage both page place) = both.asked.kind

-- of a leaf: whether it is aligned to what it spans, and whether it allows the access (section 12.3.2)
abbrev pub flaw_of_leaf : Bool → Bool → Flaw
flaw_of_leaf false allowed = Misaligned
flaw_of_leaf true false = Forbids
flaw_of_leaf true true = NamesNoPage

-- WHAT IS WRONG with an entry of a table of this level, for this kind of access, the first that applies
abbrev pub flaw_of : AccessKind → ℕ → Entry → Flaw
flaw_of kind level entry.Outside = OutsideMemory
flaw_of kind level entry.Invalid = Invalid
flaw_of kind level (entry.Pointer next) = NamesNoTable
flaw_of kind level (entry.Leaf base rights) = flaw_of_leaf (base % table_entries ^ level == 0) (allows rights kind)

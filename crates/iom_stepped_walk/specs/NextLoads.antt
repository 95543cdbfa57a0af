-- Which load a walk makes next: of which entry of which table, and from which physical address.
use Rattle.std.specs.Prelude.{◌≡◌, ℕ, zero, suc, ◌/◌, Option, None, Some}
use Rattle.iom_base.specs.Sizes.{page_size}
use Rattle.iom_device_dir.specs.Paths.{ddi}
use Rattle.iom_stage_walk.specs.Both.{guest_address}
use Rattle.iom_walk_loads.specs.Loads.{Walk, Ends, ReadsEntry, ReadsContext}
use Rattle.iom_stepped_walk.specs.Directories.{directory_rest}
use Rattle.iom_stepped_walk.specs.Indices.{index_at}
use Rattle.iom_stepped_walk.specs.Positions.{address_of, entry_index, rest_of}
use Rattle.iom_stepped_walk.specs.declared.directory.DirectoryWalk.{DirectoryWalk}
use Rattle.iom_stepped_walk.specs.declared.next.EntryLoad.{EntryLoad}
use Rattle.iom_stepped_walk.specs.declared.next.Table.{Table}
use Rattle.iom_stepped_walk.specs.declared.next.Table.TheVariants.{Contexts, Directory, FirstStage, GuestTable, SecondStage}
use Rattle.iom_stepped_walk.specs.declared.place.Place.{Place}
use Rattle.iom_stepped_walk.specs.declared.tables.TableWalk.{TableWalk}
use Rattle.iom_stepped_walk.specs.declared.tables.TableWalk.TheVariants.{InFirstStage, InSecondStage, ToGuestEntry, InGuestTable, ToGuestPage}

-- THE NEXT LOAD of what remains of a walk is from this address; None where it has ended
abbrev pub next_address : {A : Type 0} → Walk A → Option ℕ
next_address (Ends answer) = None
next_address (ReadsEntry address rest) = Some address
next_address (ReadsContext address rest) = Some address

-- the table from which a walk that stands there loads next: of the first stage, of the second, or one of a guest's, which are of the first stage and are
-- themselves found through the second (RISC-V Privileged Architecture, section 15.5)
abbrev pub table_of : TableWalk → Table
table_of (InFirstStage asked place) = FirstStage place.level
table_of (InSecondStage asked place) = SecondStage place.level
table_of (ToGuestEntry both entry place) = SecondStage place.level
table_of (InGuestTable both entry frame) = GuestTable entry.level
table_of (ToGuestPage both page place) = SecondStage place.level

-- the index of an address in the table in hand
abbrev pub index_of : Place → ℕ → ℕ
index_of place address = index_at place.is_wide place.level (address / page_size)

-- the index of the entry that it loads there
abbrev pub next_index : TableWalk → ℕ
next_index (InFirstStage asked place) = index_of place asked.address
next_index (InSecondStage asked place) = index_of place asked.address
next_index (ToGuestEntry both entry place) = index_of place (address_of entry both.asked.address)
next_index (InGuestTable both entry frame) = entry_index entry both.asked.address
next_index (ToGuestPage both page place) = index_of place (guest_address page.number both.asked.address)

-- the load that a walk of tables makes next, in a memory of whatever size
pub record LoadsNext (walk : TableWalk) (load : EntryLoad) : Type 0 where
  pub address : (frames : ℕ) → next_address (rest_of frames walk) ≡ Some load.address
  pub table : load.table ≡ table_of walk
  pub index : load.index ≡ next_index walk

-- the page of a level of the directory: the entries of level 0 are contexts (RISC-V IOMMU specification, section 2.1)
abbrev pub directory_table : ℕ → Table
directory_table zero = Contexts
directory_table (suc level) = Directory (suc level)

-- the load that a walk through the directory makes next
pub record LocatesNext (walk : DirectoryWalk) (load : EntryLoad) : Type 0 where
  pub address : next_address (directory_rest walk) ≡ Some load.address
  pub table : load.table ≡ directory_table walk.level
  pub index : load.index ≡ ddi walk.level walk.id

-- Where a walk ends, all its loads made from one memory.
use Rattle.std.specs.Prelude.{◌≡◌, ℕ, true, false, List, length, Some, Result, Ok, Err}
use Rattle.iom_base.specs.Tables.{entry_size}
use Rattle.iom_base.specs.declared.cause.Cause.{Cause}
use Rattle.iom_device_dir.specs.declared.context.Context.{Context}
use Rattle.iom_phys_mem.specs.Words.{word_at}
use Rattle.iom_stage_walk.specs.Entries.{entry_read}
use Rattle.iom_stage_walk.specs.declared.walked.WalkFault.{WalkFault}
use Rattle.iom_stepped_walk.specs.Directories.{directory_rest}
use Rattle.iom_stepped_walk.specs.Flaws.{asks_of, flaw_of, level_of}
use Rattle.iom_stepped_walk.specs.NextLoads.{LoadsNext, LocatesNext}
use Rattle.iom_stepped_walk.specs.Positions.{rest_of}
use Rattle.iom_stepped_walk.specs.Steps.{TableAnswer}
use Rattle.iom_stepped_walk.specs.declared.directory.DirectoryWalk.{DirectoryWalk}
use Rattle.iom_stepped_walk.specs.declared.flaw.Flaw.{Flaw}
use Rattle.iom_stepped_walk.specs.declared.next.EntryLoad.{EntryLoad}
use Rattle.iom_stepped_walk.specs.declared.tables.TableWalk.{TableWalk}
use Rattle.iom_walk_loads.specs.Loads.{Walk, Ends, after_load, made_from}
use Rattle.iom_walk_stops.specs.Loads.{last_load, ComesTo}
use Rattle.iom_walk_stops.specs.declared.directory.DirectoryEnd.{DirectoryEnd}
use Rattle.iom_walk_stops.specs.declared.directory.DirectoryEnd.TheVariants as directory
use Rattle.iom_walk_stops.specs.declared.tables.TablesEnd.{TablesEnd}
use Rattle.iom_walk_stops.specs.declared.tables.TablesEnd.TheVariants.{Reaches, StopsAt, StopsUnread, LacksGuestRoot}

-- A WALK OF TABLES STOPS AT AN ENTRY: its last load is of it, and ends the walk with the fault. Before that load it stands somewhere, which says of which table
-- the entry is, and what is wrong with it
pub record StopsAtEntry (memory : List (List ℕ)) (whole : Walk TableAnswer) (load : EntryLoad) (flaw : Flaw) (fault : WalkFault) : Type 0 where
  pub made : made_from memory whole ≡ Err fault
  pub last : last_load memory whole ≡ Some load.address
  pub walk : TableWalk
  pub stands : ComesTo memory whole (rest_of (length memory) walk)
  pub next : LoadsNext walk load
  pub ends : after_load memory (rest_of (length memory) walk) ≡ Ends (Err fault)
  pub wrong : flaw ≡ flaw_of (asks_of walk) (level_of walk) (entry_read (word_at entry_size memory load.address))

-- WHERE A WALK OF TABLES ENDS: it reaches a page; or it stops before its first load, by an address that isn't lawful, or in the walk's own access to the root of a
-- guest's tables, which the second stage doesn't translate; or an entry stops it
abbrev pub EndOfTables : List (List ℕ) → Walk TableAnswer → TablesEnd → Type 0
EndOfTables memory whole (Reaches walked) = made_from memory whole ≡ Ok walked
EndOfTables memory whole (StopsUnread fault) = (whole ≡ Ends (Err fault)) × (fault.implicit ≡ false)
EndOfTables memory whole (LacksGuestRoot fault) = (whole ≡ Ends (Err fault)) × (fault.implicit ≡ true)
EndOfTables memory whole (StopsAt load flaw fault) = StopsAtEntry memory whole load flaw fault

-- A WALK OF THE DIRECTORY STOPS AT AN ENTRY, or at a context, in the same way
pub record StopsInDirectory (memory : List (List ℕ)) (whole : Walk (Result Context Cause)) (load : EntryLoad) (cause : Cause) : Type 0 where
  pub made : made_from memory whole ≡ Err cause
  pub last : last_load memory whole ≡ Some load.address
  pub walk : DirectoryWalk
  pub stands : ComesTo memory whole (directory_rest walk)
  pub next : LocatesNext walk load
  pub ends : after_load memory (directory_rest walk) ≡ Ends (Err cause)

-- WHERE A WALK OF THE DIRECTORY ENDS: it finds a context; or the mode Off, or an id that is too wide, stops it before its first load; or an entry, or a context, stops it
abbrev pub EndOfDirectory : List (List ℕ) → Walk (Result Context Cause) → DirectoryEnd → Type 0
EndOfDirectory memory whole (directory.Finds context) = made_from memory whole ≡ Ok context
EndOfDirectory memory whole (directory.StopsUnread cause) = whole ≡ Ends (Err cause)
EndOfDirectory memory whole (directory.StopsAt load cause) = StopsInDirectory memory whole load cause

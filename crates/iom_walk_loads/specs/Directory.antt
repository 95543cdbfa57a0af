-- The walk of a device id through the directory, load by load (RISC-V IOMMU specification, section 2.3.1, "Process to locate the Device-context").
use Rattle.std.specs.Prelude.{ℕ, zero, suc, nat_lt, Result, Ok, Err, if◌then◌else◌}
use Rattle.iom_base.specs.declared.cause.Cause.{Cause}
use Rattle.iom_base.specs.declared.cause.Cause.TheVariants.{AllInboundDisallowed, TransactionTypeDisallowed}
use Rattle.iom_device_dir.specs.declared.context.Context.{Context}
use Rattle.iom_device_dir.specs.declared.entry.NonLeafEntry.{NonLeafEntry}
use Rattle.iom_device_dir.specs.Located.{loaded_entry}
use Rattle.iom_device_dir.specs.Paths.{ddi, entry_place, context_place, ids_below}
use Rattle.iom_registers.specs.declared.directory.DirectoryMode.{DirectoryMode}
use Rattle.iom_registers.specs.declared.directory.DirectoryMode.TheVariants.{Off, Bare, OneLevel, TwoLevels, ThreeLevels}
use Rattle.iom_registers.specs.declared.directory.DirectoryPointer.{DirectoryPointer}
use Rattle.iom_walk_loads.specs.Loads.{Walk, Ends, ReadsEntry, ReadsContext}

-- what remains after a non-leaf entry: the page that it names is followed (step 7), or the walk ends with the cause (steps 3, 5 and 6)
abbrev pub after_entry : (ℕ → Walk (Result Context Cause)) → Result NonLeafEntry Cause → Walk (Result Context Cause)
after_entry follow (Ok entry) = follow entry.next.number
after_entry follow (Err cause) = Ends (Err cause)

-- from the directory page of a level on: an entry of each level above 0 (step 3), and the context in the page of level 0 (step 8)
abbrev pub directory_walk : ℕ → ℕ → ℕ → Walk (Result Context Cause)
directory_walk zero page id = ReadsContext (context_place page (ddi 0 id)) (λ given. Ends given)
directory_walk (suc level) page id =
    ReadsEntry (entry_place page (ddi (suc level) id)) (λ given. after_entry (λ next. directory_walk level next id) (loaded_entry given))

-- in a directory whose root has this level: no load is made for an id that is too wide
abbrev pub locating_from : ℕ → ℕ → ℕ → Walk (Result Context Cause)
locating_from level root id = if nat_lt id (ids_below level) then directory_walk level root id else Ends (Err TransactionTypeDisallowed)

-- THE DIRECTORY, by ddtp: where its mode is Off no transaction is allowed, and nothing is loaded. Nobody looks for a context where it is Bare
abbrev pub locating_by : DirectoryMode → ℕ → ℕ → Walk (Result Context Cause)
locating_by Off root id = Ends (Err AllInboundDisallowed)
locating_by Bare root id = Ends (Err AllInboundDisallowed)
locating_by OneLevel root id = locating_from 0 root id
locating_by TwoLevels root id = locating_from 1 root id
locating_by ThreeLevels root id = locating_from 2 root id

abbrev pub locating : DirectoryPointer → ℕ → Walk (Result Context Cause)
locating ddtp id = locating_by ddtp.mode ddtp.ppn id

-- Where the way of an untranslated request ends, by the state in which the hardware is (RISC-V IOMMU specification, section 2.3, "Process to translate an IOVA").
use Rattle.std.specs.Prelude.{◌≡◌, ℕ, ◌/◌, nat_lt, Bool, true, false, List, length, Option, None, Some, if◌then◌else◌}
use Rattle.iom_base.specs.Sizes.{page_size}
use Rattle.iom_base.specs.Tables.{access_fault_of}
use Rattle.iom_base.specs.declared.access.AccessKind.{AccessKind}
use Rattle.iom_base.specs.declared.cause.Cause.TheVariants.{AllInboundDisallowed, TransactionTypeDisallowed}
use Rattle.iom_device_dir.specs.Paths.{fits_directory}
use Rattle.iom_device_dir.specs.declared.context.Context.{Context}
use Rattle.iom_registers.specs.declared.directory.DirectoryMode.{DirectoryMode}
use Rattle.iom_registers.specs.declared.directory.DirectoryMode.TheVariants.{Off, Bare, OneLevel, TwoLevels, ThreeLevels}
use Rattle.iom_registers.specs.declared.directory.DirectoryPointer.{DirectoryPointer}
use Rattle.iom_stage_walk.specs.Both.{plain}
use Rattle.iom_stage_walk.specs.declared.walked.WalkFault.{WalkFault}
use Rattle.iom_walk_loads.specs.Directory.{locating}
use Rattle.iom_walk_stops.specs.Stages.{stages_of, walk_of}
use Rattle.iom_walk_stops.specs.Stops.{EndOfDirectory, EndOfTables}
use Rattle.iom_walk_stops.specs.declared.directory.DirectoryEnd.{DirectoryEnd}
use Rattle.iom_walk_stops.specs.declared.directory.DirectoryEnd.TheVariants as directory
use Rattle.iom_walk_stops.specs.declared.stages.Stages.{Stages}
use Rattle.iom_walk_stops.specs.declared.tables.TablesEnd.{TablesEnd}
use Rattle.iom_walk_stops.specs.declared.tables.TablesEnd.TheVariants as tables
use Rattle.iom_fault_reasons.specs.declared.found.ContextSource.{ContextSource}
use Rattle.iom_fault_reasons.specs.declared.found.ContextSource.TheVariants.{Cache, Directory}
use Rattle.iom_fault_reasons.specs.declared.found.WhyFault.{WhyFault}
use Rattle.iom_fault_reasons.specs.declared.found.WhyFault.TheVariants.{DirectoryOff, IdTooWide, NoContext, OutsideMemory, NoSuchAddress, NoGuestRoot, StopsAt, Untranslated, Reaches}

-- where no stage translates the address, it is that of memory
abbrev pub own_reason : List (List ℕ) → ℕ → WhyFault
own_reason memory address = if nat_lt (address / page_size) (length memory) then Untranslated (address / page_size) else OutsideMemory

-- by where the walk of the context's stages ends
abbrev pub reason_by : ContextSource → TablesEnd → WhyFault
reason_by source (tables.Reaches walked) = Reaches source walked.frame
reason_by source (tables.StopsUnread fault) = NoSuchAddress source fault
reason_by source (tables.LacksGuestRoot fault) = NoGuestRoot source fault
reason_by source (tables.StopsAt load flaw fault) = StopsAt source load flaw fault

-- their walk ends somewhere, in memory as it is, and that is the reason
abbrev pub IsByStages : List (List ℕ) → Stages → ContextSource → ℕ → AccessKind → WhyFault → Type 0
IsByStages memory stages source address kind why =
    (end : TablesEnd) × EndOfTables memory (walk_of (length memory) stages address kind) end × (why ≡ reason_by source end)

-- by a context: where both of its stages are Bare, none translates
abbrev pub IsByFound : List (List ℕ) → Option Stages → ContextSource → ℕ → AccessKind → WhyFault → Type 0
IsByFound memory None source address kind why = why ≡ own_reason memory address
IsByFound memory (Some stages) source address kind why = IsByStages memory stages source address kind why

abbrev pub IsByContext : List (List ℕ) → Context → ContextSource → ℕ → AccessKind → WhyFault → Type 0
IsByContext memory context source address kind why = IsByFound memory (stages_of context.first_stage context.second_stage) source address kind why

-- by where the walk of the directory ends: at an entry, or with a context
abbrev pub IsByEnd : List (List ℕ) → DirectoryEnd → ℕ → AccessKind → WhyFault → Type 0
IsByEnd memory (directory.Finds context) address kind why = IsByContext memory context Directory address kind why
IsByEnd memory (directory.StopsUnread cause) address kind why = ⊥
IsByEnd memory (directory.StopsAt load cause) address kind why = why ≡ NoContext load cause

abbrev pub IsByDirectory : List (List ℕ) → DirectoryPointer → ℕ → ℕ → AccessKind → WhyFault → Type 0
IsByDirectory memory ddtp id address kind why = (end : DirectoryEnd) × EndOfDirectory memory (locating ddtp id) end × IsByEnd memory end address kind why

-- by the context that is cached; where none is, by the directory (section 2.8)
abbrev pub IsFound : List (List ℕ) → DirectoryPointer → Option Context → ℕ → ℕ → AccessKind → WhyFault → Type 0
IsFound memory ddtp None id address kind why = IsByDirectory memory ddtp id address kind why
IsFound memory ddtp (Some cached) id address kind why = IsByContext memory cached Cache address kind why

-- an id that is too wide for the directory has no context, whatever is cached (section 2.3.1)
abbrev pub IsWithin : Bool → List (List ℕ) → DirectoryPointer → Option Context → ℕ → ℕ → AccessKind → WhyFault → Type 0
IsWithin false memory ddtp cached id address kind why = why ≡ IdTooWide
IsWithin true memory ddtp cached id address kind why = IsFound memory ddtp cached id address kind why

-- the mode is one of a directory
abbrev pub IsDirectory : DirectoryMode → Type 0
IsDirectory Off = ⊥
IsDirectory Bare = ⊥
IsDirectory OneLevel = Unit {0}
IsDirectory TwoLevels = Unit {0}
IsDirectory ThreeLevels = Unit {0}

-- by the mode of ddtp
abbrev pub IsWhyIn : DirectoryMode → List (List ℕ) → DirectoryPointer → Option Context → ℕ → ℕ → AccessKind → WhyFault → Type 0
IsWhyIn Off memory ddtp cached id address kind why = why ≡ DirectoryOff
IsWhyIn Bare memory ddtp cached id address kind why = why ≡ own_reason memory address
IsWhyIn OneLevel memory ddtp cached id address kind why = IsWithin (fits_directory OneLevel id) memory ddtp cached id address kind why
IsWhyIn TwoLevels memory ddtp cached id address kind why = IsWithin (fits_directory TwoLevels id) memory ddtp cached id address kind why
IsWhyIn ThreeLevels memory ddtp cached id address kind why = IsWithin (fits_directory ThreeLevels id) memory ddtp cached id address kind why

-- THE REASON: where the way of an untranslated request of the device ends, with this memory, this ddtp, and this context cached for the device
abbrev pub IsWhy : List (List ℕ) → DirectoryPointer → Option Context → ℕ → ℕ → AccessKind → WhyFault → Type 0
IsWhy memory ddtp cached id address kind why = IsWhyIn ddtp.mode memory ddtp cached id address kind why

-- the fault of which it is the reason; None where nothing stops the request
abbrev pub fault_by : AccessKind → WhyFault → Option WalkFault
fault_by kind DirectoryOff = Some (plain AllInboundDisallowed)
fault_by kind IdTooWide = Some (plain TransactionTypeDisallowed)
fault_by kind (NoContext load cause) = Some (plain cause)
fault_by kind OutsideMemory = Some (plain (access_fault_of kind))
fault_by kind (NoSuchAddress source fault) = Some fault
fault_by kind (NoGuestRoot source fault) = Some fault
fault_by kind (StopsAt source load flaw fault) = Some fault
fault_by kind (Untranslated frame) = None
fault_by kind (Reaches source frame) = None

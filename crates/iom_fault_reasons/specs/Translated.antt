-- Where the way of a request ends that says that it is translated (RISC-V IOMMU specification, section 2.3; PCI Express, "Address Translation Services").
use Rattle.std.specs.Prelude.{◌≡◌, ℕ, ◌/◌, nat_lt, Bool, true, false, List, length, Option, None, Some, if◌then◌else◌}
use Rattle.iom_base.specs.Sizes.{page_size}
use Rattle.iom_base.specs.Tables.{access_fault_of}
use Rattle.iom_base.specs.declared.access.AccessKind.{AccessKind}
use Rattle.iom_base.specs.declared.cause.Cause.TheVariants.{AllInboundDisallowed, TransactionTypeDisallowed}
use Rattle.iom_device_dir.specs.Paths.{fits_directory}
use Rattle.iom_device_dir.specs.declared.context.Context.{Context}
use Rattle.iom_registers.specs.declared.directory.DirectoryMode.{DirectoryMode}
use Rattle.iom_registers.specs.declared.directory.DirectoryMode.TheVariants.{Off, Bare, OneLevel, TwoLevels, ThreeLevels}
use Rattle.iom_registers.specs.declared.directory.DirectoryPointer.{DirectoryPointer}
use Rattle.iom_stage_walk.specs.Both.{plain}
use Rattle.iom_stage_walk.specs.declared.walked.WalkFault.{WalkFault}
use Rattle.iom_walk_loads.specs.Directory.{locating}
use Rattle.iom_walk_stops.specs.Stops.{EndOfDirectory}
use Rattle.iom_walk_stops.specs.declared.directory.DirectoryEnd.{DirectoryEnd}
use Rattle.iom_walk_stops.specs.declared.directory.DirectoryEnd.TheVariants as directory
use Rattle.iom_fault_reasons.specs.declared.found.ContextSource.{ContextSource}
use Rattle.iom_fault_reasons.specs.declared.found.ContextSource.TheVariants.{Cache, Directory}
use Rattle.iom_fault_reasons.specs.declared.translated.WhyTranslated.{WhyTranslated}
use Rattle.iom_fault_reasons.specs.declared.translated.WhyTranslated.TheVariants.{DirectoryOff, DirectoryBare, IdTooWide, NoContext, LacksAts, OutsideMemory, Passes}

-- by a context: one with EN_ATS clear lets none through; else the address is that of memory
abbrev pub reason_of_context : List (List ℕ) → Context → ContextSource → ℕ → WhyTranslated
reason_of_context memory context source address =
    if context.en_ats
    then (if nat_lt (address / page_size) (length memory) then Passes (address / page_size) else OutsideMemory)
    else LacksAts source

-- by where the walk of the directory ends: at an entry, or with a context
abbrev pub IsTranslatedByEnd : List (List ℕ) → DirectoryEnd → ℕ → WhyTranslated → Type 0
IsTranslatedByEnd memory (directory.Finds context) address why = why ≡ reason_of_context memory context Directory address
IsTranslatedByEnd memory (directory.StopsUnread cause) address why = ⊥
IsTranslatedByEnd memory (directory.StopsAt load cause) address why = why ≡ NoContext load cause

abbrev pub IsTranslatedByDirectory : List (List ℕ) → DirectoryPointer → ℕ → ℕ → WhyTranslated → Type 0
IsTranslatedByDirectory memory ddtp id address why = (end : DirectoryEnd) × EndOfDirectory memory (locating ddtp id) end × IsTranslatedByEnd memory end address why

-- by the context that is cached; where none is, by the directory
abbrev pub IsTranslatedFound : List (List ℕ) → DirectoryPointer → Option Context → ℕ → ℕ → WhyTranslated → Type 0
IsTranslatedFound memory ddtp None id address why = IsTranslatedByDirectory memory ddtp id address why
IsTranslatedFound memory ddtp (Some cached) id address why = why ≡ reason_of_context memory cached Cache address

-- an id that is too wide for the directory has no context
abbrev pub IsTranslatedWithin : Bool → List (List ℕ) → DirectoryPointer → Option Context → ℕ → ℕ → WhyTranslated → Type 0
IsTranslatedWithin false memory ddtp cached id address why = why ≡ IdTooWide
IsTranslatedWithin true memory ddtp cached id address why = IsTranslatedFound memory ddtp cached id address why

-- by the mode of ddtp: none is let through in the modes Off and Bare
abbrev pub IsTranslatedIn : DirectoryMode → List (List ℕ) → DirectoryPointer → Option Context → ℕ → ℕ → WhyTranslated → Type 0
IsTranslatedIn Off memory ddtp cached id address why = why ≡ DirectoryOff
IsTranslatedIn Bare memory ddtp cached id address why = why ≡ DirectoryBare
IsTranslatedIn OneLevel memory ddtp cached id address why = IsTranslatedWithin (fits_directory OneLevel id) memory ddtp cached id address why
IsTranslatedIn TwoLevels memory ddtp cached id address why = IsTranslatedWithin (fits_directory TwoLevels id) memory ddtp cached id address why
IsTranslatedIn ThreeLevels memory ddtp cached id address why = IsTranslatedWithin (fits_directory ThreeLevels id) memory ddtp cached id address why

-- THE REASON, with this memory, this ddtp, and this context cached for the device
abbrev pub IsWhyTranslated : List (List ℕ) → DirectoryPointer → Option Context → ℕ → ℕ → WhyTranslated → Type 0
IsWhyTranslated memory ddtp cached id address why = IsTranslatedIn ddtp.mode memory ddtp cached id address why

-- the fault of which it is the reason; None where nothing stops the request
abbrev pub translated_fault_by : AccessKind → WhyTranslated → Option WalkFault
translated_fault_by kind DirectoryOff = Some (plain AllInboundDisallowed)
translated_fault_by kind DirectoryBare = Some (plain TransactionTypeDisallowed)
translated_fault_by kind IdTooWide = Some (plain TransactionTypeDisallowed)
translated_fault_by kind (NoContext load cause) = Some (plain cause)
translated_fault_by kind (LacksAts source) = Some (plain TransactionTypeDisallowed)
translated_fault_by kind OutsideMemory = Some (plain (access_fault_of kind))
translated_fault_by kind (Passes frame) = None

-- How a transaction is translated, and what is cached for it (IOMMU specification, section 2.3, "Process to translate an IOVA", and section
-- 2.8, "Caching in-memory data structures").
use Rattle.std.specs.Prelude.{◌≡◌, ℕ, ◌*◌, ◌/◌, nat_lt, Bool, List, length, Option, None, Some, Result, Ok, Err, if◌then◌else◌}
use Rattle.iom_base.specs.Tables.{access_fault_of}
use Rattle.iom_base.specs.Rights.{allows, rw}
use Rattle.iom_base.specs.Sizes.{page_size}
use Rattle.iom_base.specs.declared.access.AccessKind.{AccessKind}
use Rattle.iom_base.specs.declared.cause.Cause.{Cause}
use Rattle.iom_base.specs.declared.cause.Cause.TheVariants.{AllInboundDisallowed, TransactionTypeDisallowed}
use Rattle.iom_registers.specs.declared.directory.DirectoryMode.{DirectoryMode}
use Rattle.iom_registers.specs.declared.directory.DirectoryMode.TheVariants as mode
use Rattle.iom_registers.specs.declared.registers.Registers.{Registers}
use Rattle.iom_registers.specs.Queues.{directory_mode}
use Rattle.iom_stage_walk.specs.declared.walked.Walked.{Walked}
use Rattle.iom_stage_walk.specs.declared.walked.WalkFault.{WalkFault}
use Rattle.iom_stage_walk.specs.Both.{plain}
use Rattle.iom_device_dir.specs.declared.context.Context.{Context}
use Rattle.iom_device_dir.specs.declared.stages.FirstStage.{FirstStage}
use Rattle.iom_device_dir.specs.declared.stages.SecondStage.{SecondStage}
use Rattle.iom_device_dir.specs.Contents.{Content, IsSameContent, KeepsOne}
use Rattle.iom_device_dir.specs.Located.{located_context}
use Rattle.iom_device_dir.specs.Paths.{fits_directory}
use Rattle.iom_tlb.specs.declared.space.Space.{Space}
use Rattle.iom_tlb.specs.declared.space.Space.TheVariants as space
use Rattle.iom_tlb.specs.declared.trans_cache.Translation.{Translation}
use Rattle.iom_tlb.specs.Content.{Key, Translations, TranslationsUnchanged, Keeps}
use Rattle.iom_iommu.specs.Stages.{space_through, ReachesThrough, StopsThrough}

-- the cached context; where there is none, the one that the directory has
abbrev pub found_context : Option Context → Result Context Cause → Result Context Cause
found_context None located = located
found_context (Some cached) located = Ok cached

-- the context of a device, or the cause for which there is none. The width of the id is asked first (section 2.3.1): one that is too wide for the
-- directory has none, also where one is cached for it
abbrev pub context_or_cause : List (List ℕ) → Registers → Content ℕ Context → ℕ → Result Context Cause
context_or_cause memory r content id =
    if fits_directory (directory_mode r) id then found_context (content id) (located_context memory r.ddtp id) else Err TransactionTypeDisallowed

-- the same where the transaction is of ATS, a question or a translated request: none is let through in the modes Off and Bare, nor by a context that
-- has EN_ATS clear
abbrev pub letting_ats : Result Context Cause → Result Context Cause
letting_ats (Ok context) = if context.en_ats then Ok context else Err TransactionTypeDisallowed
letting_ats (Err cause) = Err cause

abbrev pub ats_context_in : DirectoryMode → Result Context Cause → Result Context Cause
ats_context_in mode.Off found = Err AllInboundDisallowed
ats_context_in mode.Bare found = Err TransactionTypeDisallowed
ats_context_in mode.OneLevel found = letting_ats found
ats_context_in mode.TwoLevels found = letting_ats found
ats_context_in mode.ThreeLevels found = letting_ats found

abbrev pub ats_context_for : List (List ℕ) → Registers → Content ℕ Context → ℕ → Result Context Cause
ats_context_for memory r content id = ats_context_in (directory_mode r) (context_or_cause memory r content id)

-- the frame of the address itself, if there is one, to be read and written
abbrev pub own_page : List (List ℕ) → ℕ → AccessKind → Result Translation WalkFault
own_page memory address kind =
    if nat_lt (address / page_size) (length memory) then Ok (record { frame = address / page_size; rights = rw; order = 0 })
    else Err (plain (access_fault_of kind))

-- the page of an address, in the address space that the stages of a context translate: a first stage's is named by PSCID, a second's by GSCID,
-- that of both by both
abbrev pub first_key : Context → ℕ → Key
first_key context address = (space.First context.pscid.number, address / page_size)

abbrev pub second_key : Context → ℕ → Key
second_key context address = (space.Second context.gscid, address / page_size)

abbrev pub both_key : Context → ℕ → Key
both_key context address = (space.Both context.gscid context.pscid.number, address / page_size)

-- a cached translation, where its right allows the access: one with too small a right isn't used
abbrev pub cached_for : Option Translation → AccessKind → Option Translation
cached_for None kind = None
cached_for (Some translation) kind = if allows translation.rights kind then Some translation else None

-- what is kept of a walk: also the order of the leaf, by which an invalidation of another page of the leaf takes it out; each level has 512 times as many pages
abbrev pub translation_of : Walked → Translation
translation_of walked = record { frame = walked.frame; rights = walked.rights; order = 9 * walked.level }

-- the walk reaches this translation, which is kept; or it stops with this fault, and nothing is kept. What it reaches, and with what it stops, is said
-- of the stages that are walked
abbrev pub Walks : Bool → (Walked → Type 0) → (WalkFault → Type 0) → Key → Translations → Result Translation WalkFault → Translations → Type 0
Walks sure Reaches Stops key old (Ok translation) new =
    (walked : Walked) × Reaches walked × (translation ≡ translation_of walked) × Keeps sure old key (translation_of walked) new
Walks sure Reaches Stops key old (Err fault) new = Stops fault × TranslationsUnchanged old new

-- by a cached translation, if there is one; else by the walk
abbrev pub LooksOrWalks : Bool → Option Translation → (Walked → Type 0) → (WalkFault → Type 0) → Key → Translations → Result Translation WalkFault
    → Translations → Type 0
LooksOrWalks sure (Some cached) Reaches Stops key old answer new = (answer ≡ Ok cached) × TranslationsUnchanged old new
LooksOrWalks sure None Reaches Stops key old answer new = Walks sure Reaches Stops key old answer new

-- in an address space: by a cached translation of the page, or by a walk; in none the address is that of memory, and nothing is cached
abbrev pub TranslatesIn : Option Space → Bool → (Walked → Type 0) → (WalkFault → Type 0) → List (List ℕ) → ℕ → AccessKind → Translations → Result Translation WalkFault
    → Translations → Type 0
TranslatesIn None sure Reaches Stops memory address kind old answer new = (answer ≡ own_page memory address kind) × TranslationsUnchanged old new
TranslatesIn (Some space) sure Reaches Stops memory address kind old answer new =
    LooksOrWalks sure (cached_for (old (space, address / page_size)) kind) Reaches Stops (space, address / page_size) old answer new

-- by the stages of a context
abbrev pub Translates : Bool → FirstStage → SecondStage → Context → List (List ℕ) → ℕ → AccessKind → Translations → Result Translation WalkFault
    → Translations → Type 0
Translates sure first second context memory address kind old answer new =
    TranslatesIn (space_through first second context) sure (ReachesThrough first second memory address kind) (StopsThrough first second memory address kind)
    memory address kind old answer new

-- by the context that was found
abbrev pub ServesBy : Bool → Result Context Cause → List (List ℕ) → ℕ → AccessKind → Translations → Result Translation WalkFault → Translations → Type 0
ServesBy sure (Ok context) memory address kind old answer new =
    Translates sure context.first_stage context.second_stage context memory address kind old answer new
ServesBy sure (Err cause) memory address kind old answer new = (answer ≡ Err (plain cause)) × TranslationsUnchanged old new

-- by ddtp's mode: no transaction is allowed, or none is translated, or each by its context
abbrev pub ServesIn : Bool → DirectoryMode → Result Context Cause → List (List ℕ) → ℕ → AccessKind → Translations → Result Translation WalkFault
    → Translations → Type 0
ServesIn sure mode.Off found memory address kind old answer new = (answer ≡ Err (plain AllInboundDisallowed)) × TranslationsUnchanged old new
ServesIn sure mode.Bare found memory address kind old answer new = (answer ≡ own_page memory address kind) × TranslationsUnchanged old new
ServesIn sure mode.OneLevel found memory address kind old answer new = ServesBy sure found memory address kind old answer new
ServesIn sure mode.TwoLevels found memory address kind old answer new = ServesBy sure found memory address kind old answer new
ServesIn sure mode.ThreeLevels found memory address kind old answer new = ServesBy sure found memory address kind old answer new

-- THE ANSWER to an access of a device, with the translations that are cached before and after: its translation, or the fault for which it has
-- none. Whether the cache is sure says whether a keep may be refused
abbrev pub Serves : Bool → List (List ℕ) → Registers → Content ℕ Context → ℕ → ℕ → AccessKind → Translations → Result Translation WalkFault
    → Translations → Type 0
Serves sure memory r contexts id address kind old answer new =
    ServesIn sure (directory_mode r) (context_or_cause memory r contexts id) memory address kind old answer new

-- a context that was located is kept, where none was cached. An id that is too wide for the directory has none there: nothing is kept for it
abbrev pub KeepsLocated : Option Context → Result Context Cause → Content ℕ Context → ℕ → Content ℕ Context → Type 0
KeepsLocated (Some cached) located old id new = IsSameContent old new
KeepsLocated None (Ok context) old id new = KeepsOne old id context new
KeepsLocated None (Err cause) old id new = IsSameContent old new

abbrev pub KeepsIn : DirectoryMode → Option Context → Result Context Cause → Content ℕ Context → ℕ → Content ℕ Context → Type 0
KeepsIn mode.Off cached located old id new = IsSameContent old new
KeepsIn mode.Bare cached located old id new = IsSameContent old new
KeepsIn mode.OneLevel cached located old id new = KeepsLocated cached located old id new
KeepsIn mode.TwoLevels cached located old id new = KeepsLocated cached located old id new
KeepsIn mode.ThreeLevels cached located old id new = KeepsLocated cached located old id new

-- THE CONTEXT CACHE after an access of a device: a context that was located is kept, also where the translation then faults
abbrev pub KeepsContext : List (List ℕ) → Registers → Content ℕ Context → ℕ → Content ℕ Context → Type 0
KeepsContext memory r old id new = KeepsIn (directory_mode r) (old id) (located_context memory r.ddtp id) old id new

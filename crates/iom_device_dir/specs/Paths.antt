-- The path of a device id through the directory: it finds a context, or stops with a cause (IOMMU specification, sections 2.1 and
-- 2.3.1, "Process to locate the Device-context").
use Rattle.std.specs.Prelude.{◌≡◌, ℕ, zero, suc, ◌+◌, ◌*◌, ◌^◌, ◌<◌, ◌≤◌, ◌⊎◌, nat_lt, Bool, true, List, Option, Some, None}
use Rattle.iom_base.specs.Sizes.{page_size}
use Rattle.iom_base.specs.Tables.{entry_size}
use Rattle.iom_base.specs.declared.cause.Cause.{Cause}
use Rattle.iom_base.specs.declared.cause.Cause.TheVariants.{AllInboundDisallowed, DirectoryLoadFault, TransactionTypeDisallowed}
use Rattle.iom_phys_mem.specs.Words.{word_at}
use Rattle.iom_registers.specs.Bits.{bits}
use Rattle.iom_registers.specs.declared.directory.DirectoryMode.{DirectoryMode}
use Rattle.iom_registers.specs.declared.directory.DirectoryMode.TheVariants.{Off, Bare, OneLevel, TwoLevels, ThreeLevels}
use Rattle.iom_registers.specs.declared.directory.DirectoryPointer.{DirectoryPointer}
use Rattle.iom_device_dir.specs.declared.context.Context.{Context}
use Rattle.iom_device_dir.specs.declared.entry.NonLeafEntry.{NonLeafEntry}
use Rattle.iom_device_dir.specs.declared.words.ContextWords.{ContextWords}
use Rattle.iom_device_dir.specs.Formats.{IsNonLeafEntry, IsNonLeafEntryRefused, AreContextWords, IsContextRefused}

-- the bytes of a context
abbrev pub context_size : ℕ
context_size = 32

-- DDI[i], the index of a device id in a page of level i, where contexts have the base format: DDI[0] is bits 6:0 of the id, DDI[1] bits
-- 15:7, DDI[2] bits 23:16. There are no further levels
abbrev pub ddi : ℕ → ℕ → ℕ
ddi zero id = bits 6 0 id
ddi (suc zero) id = bits 15 7 id
ddi (suc (suc level)) id = bits 23 16 id

-- where the non-leaf entry with an index is, in the directory page at a page number
abbrev pub entry_place : ℕ → ℕ → ℕ
entry_place page index = page_size * page + entry_size * index

-- where the context with an index is
abbrev pub context_place : ℕ → ℕ → ℕ
context_place page index = page_size * page + context_size * index

-- four words, where each of them is there
abbrev pub four_context_words : Option ℕ → Option ℕ → Option ℕ → Option ℕ → Option ContextWords
four_context_words (Some tc) (Some iohgatp) (Some ta) (Some fsc) = Some (record { tc = tc; iohgatp = iohgatp; ta = ta; fsc = fsc })
four_context_words (Some tc) (Some iohgatp) (Some ta) None = None
four_context_words (Some tc) (Some iohgatp) None fsc = None
four_context_words (Some tc) None ta fsc = None
four_context_words None iohgatp ta fsc = None

-- the words of the context at an address; None where one is outside memory
unfoldable pub context_words_at : List (List ℕ) → ℕ → Option ContextWords
context_words_at memory address =
    four_context_words (word_at 8 memory address) (word_at 8 memory (address + 8)) (word_at 8 memory (address + 16)) (word_at 8 memory (address + 24))

-- the word that was loaded is this entry
abbrev pub LoadsEntry : Option ℕ → NonLeafEntry → Type 0
LoadsEntry None entry = ⊥
LoadsEntry (Some word) entry = IsNonLeafEntry word entry

-- the path stops at the word that was loaded: it is outside memory, or no entry
abbrev pub StopsAtLoadedEntry : Option ℕ → Cause → Type 0
StopsAtLoadedEntry None cause = cause ≡ DirectoryLoadFault
StopsAtLoadedEntry (Some word) cause = IsNonLeafEntryRefused word cause

-- the words that were loaded are this context
abbrev pub LoadsContext : Option ContextWords → Context → Type 0
LoadsContext None context = ⊥
LoadsContext (Some words) context = AreContextWords words context

-- the path stops at the words that were loaded: they are outside memory, or no context
abbrev pub StopsAtLoadedContext : Option ContextWords → Cause → Type 0
StopsAtLoadedContext None cause = cause ≡ DirectoryLoadFault
StopsAtLoadedContext (Some words) cause = IsContextRefused words cause

-- from the directory page of a level the indices of the id, one a level, lead to this context
abbrev pub LeadsToContext : List (List ℕ) → ℕ → ℕ → ℕ → Context → Type 0
LeadsToContext memory zero page id context = LoadsContext (context_words_at memory (context_place page (ddi 0 id))) context
LeadsToContext memory (suc level) page id context =
    (entry : NonLeafEntry) × LoadsEntry (word_at 8 memory (entry_place page (ddi (suc level) id))) entry
    × LeadsToContext memory level entry.next.number id context

-- from the directory page of a level the indices lead to an entry or a load that has this cause
abbrev pub StopsBeforeContext : List (List ℕ) → ℕ → ℕ → ℕ → Cause → Type 0
StopsBeforeContext memory zero page id cause = StopsAtLoadedContext (context_words_at memory (context_place page (ddi 0 id))) cause
StopsBeforeContext memory (suc level) page id cause =
    StopsAtLoadedEntry (word_at 8 memory (entry_place page (ddi (suc level) id))) cause
    ⊎ ((entry : NonLeafEntry) × LoadsEntry (word_at 8 memory (entry_place page (ddi (suc level) id))) entry
    × StopsBeforeContext memory level entry.next.number id cause)

-- the id has no bits above those of DDI[0], .., up to the level of the root: 7, 16 or 24 bits
abbrev pub ids_below : ℕ → ℕ
ids_below zero = 2 ^ 7
ids_below (suc zero) = 2 ^ 16
ids_below (suc (suc level)) = 2 ^ 24

-- whether the id is as wide at most as the levels that there are, by ddtp's mode. Where there is no directory each id is
abbrev pub fits_directory : DirectoryMode → ℕ → Bool
fits_directory Off id = true
fits_directory Bare id = true
fits_directory OneLevel id = nat_lt id (ids_below 0)
fits_directory TwoLevels id = nat_lt id (ids_below 1)
fits_directory ThreeLevels id = nat_lt id (ids_below 2)

-- in a directory whose root has this level the id's path finds a context
abbrev pub FindsFromLevel : ℕ → List (List ℕ) → ℕ → ℕ → Context → Type 0
FindsFromLevel level memory root id context = (id < ids_below level) × LeadsToContext memory level root id context

-- it stops: the id is too wide for the levels that there are (cause 260), or its indices lead to an entry or a load with this cause
abbrev pub StopsFromLevel : ℕ → List (List ℕ) → ℕ → ℕ → Cause → Type 0
StopsFromLevel level memory root id cause =
    ((ids_below level ≤ id) × (cause ≡ TransactionTypeDisallowed)) ⊎ ((id < ids_below level) × StopsBeforeContext memory level root id cause)

-- THE PATH, by ddtp's mode: the id finds this context. Where the mode is Off or Bare there is no directory
abbrev pub FindsByMode : DirectoryMode → List (List ℕ) → ℕ → ℕ → Context → Type 0
FindsByMode Off memory root id context = ⊥
FindsByMode Bare memory root id context = ⊥
FindsByMode OneLevel memory root id context = FindsFromLevel 0 memory root id context
FindsByMode TwoLevels memory root id context = FindsFromLevel 1 memory root id context
FindsByMode ThreeLevels memory root id context = FindsFromLevel 2 memory root id context

abbrev pub FindsContext : List (List ℕ) → DirectoryPointer → ℕ → Context → Type 0
FindsContext memory ddtp id context = FindsByMode ddtp.mode memory ddtp.ppn id context

-- the id's path stops with this cause: where the mode is Off, no transaction is allowed (cause 256). Where it is Bare nobody looks for a context
abbrev pub StopsByMode : DirectoryMode → List (List ℕ) → ℕ → ℕ → Cause → Type 0
StopsByMode Off memory root id cause = cause ≡ AllInboundDisallowed
StopsByMode Bare memory root id cause = ⊥
StopsByMode OneLevel memory root id cause = StopsFromLevel 0 memory root id cause
StopsByMode TwoLevels memory root id cause = StopsFromLevel 1 memory root id cause
StopsByMode ThreeLevels memory root id cause = StopsFromLevel 2 memory root id cause

abbrev pub StopsLocating : List (List ℕ) → DirectoryPointer → ℕ → Cause → Type 0
StopsLocating memory ddtp id cause = StopsByMode ddtp.mode memory ddtp.ppn id cause

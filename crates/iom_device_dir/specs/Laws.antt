-- Laws of the path of a device id: it has one end, and depends on nothing but the words that it loads.
use Rattle.std.specs.Prelude.{◌≡◌, ℕ, zero, suc, ◌+◌, ◌*◌, ◌/◌, ◌^◌, ◌<◌, ◌↔◌, nat_lt, List, [], ◌∷◌, slice_get, Result, Ok, Err, if◌then◌else◌}
use Rattle.std.specs.List.{All}
use Rattle.iom_base.specs.Sizes.{page_size}
use Rattle.iom_base.specs.declared.cause.Cause.{Cause}
use Rattle.iom_phys_mem.specs.Words.{word_at}
use Rattle.iom_registers.specs.declared.directory.DirectoryMode.{DirectoryMode}
use Rattle.iom_registers.specs.declared.directory.DirectoryMode.TheVariants.{Off, Bare, OneLevel, TwoLevels, ThreeLevels}
use Rattle.iom_registers.specs.declared.directory.DirectoryPointer.{DirectoryPointer}
use Rattle.iom_device_dir.specs.declared.context.Context.{Context}
use Rattle.iom_device_dir.specs.declared.entry.NonLeafEntry.{NonLeafEntry}
use Rattle.iom_device_dir.specs.Paths.{ddi, entry_place, context_place, ids_below, FindsContext, StopsLocating}
use Rattle.iom_device_dir.specs.Located.{loaded_entry}

-- an id whose path finds a context finds no other, and stops with no cause; and it stops with one cause
abbrev pub PathsEndOnce : Type 0
PathsEndOnce =
    (memory : List (List ℕ)) (ddtp : DirectoryPointer) (id : ℕ)
    → ((one other : Context) → FindsContext memory ddtp id one → FindsContext memory ddtp id other → one ≡ other)
    × ((context : Context) (cause : Cause) → FindsContext memory ddtp id context → ¬ StopsLocating memory ddtp id cause)
    × ((one other : Cause) → StopsLocating memory ddtp id one → StopsLocating memory ddtp id other → one ≡ other)

-- the addresses of the words of a context
abbrev pub context_loads : ℕ → List ℕ
context_loads address = address ∷ (address + 8) ∷ (address + 16) ∷ (address + 24) ∷ []

-- what is loaded after an entry; nothing, where there is none
abbrev pub loads_after_entry : Result NonLeafEntry Cause → (ℕ → List ℕ) → List ℕ
loads_after_entry (Ok entry) follow = follow entry.next.number
loads_after_entry (Err cause) follow = []

-- the addresses of the words that a path loads, from the directory page of a level on
abbrev pub path_loads_from : List (List ℕ) → ℕ → ℕ → ℕ → List ℕ
path_loads_from memory zero page id = context_loads (context_place page (ddi 0 id))
path_loads_from memory (suc level) page id =
    entry_place page (ddi (suc level) id)
    ∷ loads_after_entry (loaded_entry (word_at 8 memory (entry_place page (ddi (suc level) id)))) (λ next. path_loads_from memory level next id)

-- an id that is too wide loads nothing
abbrev pub path_loads_within : ℕ → List (List ℕ) → ℕ → ℕ → List ℕ
path_loads_within level memory root id = if nat_lt id (ids_below level) then path_loads_from memory level root id else []

abbrev pub path_loads_by_mode : DirectoryMode → List (List ℕ) → ℕ → ℕ → List ℕ
path_loads_by_mode Off memory root id = []
path_loads_by_mode Bare memory root id = []
path_loads_by_mode OneLevel memory root id = path_loads_within 0 memory root id
path_loads_by_mode TwoLevels memory root id = path_loads_within 1 memory root id
path_loads_by_mode ThreeLevels memory root id = path_loads_within 2 memory root id

abbrev pub path_loads : List (List ℕ) → DirectoryPointer → ℕ → List ℕ
path_loads memory ddtp id = path_loads_by_mode ddtp.mode memory ddtp.ppn id

-- the path of the id ends in two memories in the same way
abbrev pub PathEndsAlike : List (List ℕ) → List (List ℕ) → DirectoryPointer → ℕ → Type 0
PathEndsAlike old new ddtp id =
    ((context : Context) → FindsContext old ddtp id context ↔ FindsContext new ddtp id context)
    × ((cause : Cause) → StopsLocating old ddtp id cause ↔ StopsLocating new ddtp id cause)

-- it does so where the memories are alike on the words that the path loads in one of them: so a store elsewhere leaves it
abbrev pub PathsDependOnLoadedWords : Type 0
PathsDependOnLoadedWords =
    (old new : List (List ℕ)) (ddtp : DirectoryPointer) (id : ℕ) → All (λ a. word_at 8 new a ≡ word_at 8 old a) (path_loads old ddtp id) → PathEndsAlike old new ddtp id

-- and where they are alike on the frames of these words
abbrev pub PathsDependOnLoadedFrames : Type 0
PathsDependOnLoadedFrames =
    (old new : List (List ℕ)) (ddtp : DirectoryPointer) (id : ℕ)
    → All (λ a. slice_get new (a / page_size) ≡ slice_get old (a / page_size)) (path_loads old ddtp id) → PathEndsAlike old new ddtp id

-- contexts don't overlap: a word that is one of two contexts' is one of a single context
abbrev pub ContextsDontOverlap : Type 0
ContextsDontOverlap =
    (page other index index' word word' : ℕ) → index < 2 ^ 7 → index' < 2 ^ 7 → word < 4 → word' < 4
    → context_place page index + 8 * word ≡ context_place other index' + 8 * word' → (page ≡ other) × (index ≡ index')

-- ids of 24 bits with the same indices are the same
abbrev pub IndicesNameOneId : Type 0
IndicesNameOneId =
    (id other : ℕ) → id < 2 ^ 24 → other < 2 ^ 24 → ddi 0 id ≡ ddi 0 other → ddi 1 id ≡ ddi 1 other → ddi 2 id ≡ ddi 2 other → id ≡ other

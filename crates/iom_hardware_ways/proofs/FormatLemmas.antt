-- What the hardware's walks read and find is what walks by its formats do.
use Rattle.std.proofs.Common.{suc, zero, ◌≡◌, ◌+◌, ◌*◌, ◌/◌, ◌%◌, ◌<◌, ◌^◌, ◌∙◌, inl, inr, ℕ, Bool, true, false, nat_lt, List, [], ◌∷◌, map, drop, Option, slice_get, Result, Ok, Err, if◌then◌else◌, refl, sym, ap, subst, arith}
use Rattle.std.specs.Option.{option_map}
use Rattle.std.proofs.lemmas.Bool.{eq-eqb}
use Rattle.std.proofs.Math.Nat.{mod-lt}
use Rattle.std.proofs.Common.{lit<}
use Rattle.byteorder.specs.Endian.{little_number}
use Rattle.iom_base.specs.declared.access.AccessKind.{AccessKind}
use Rattle.iom_base.specs.declared.cause.Cause.{Cause}
use Rattle.iom_base.specs.declared.cause.Cause.TheVariants.{TransactionTypeDisallowed}
use Rattle.iom_base.specs.declared.rights.Rights.{Rights}
use Rattle.iom_base.specs.Rights.{allows}
use Rattle.iom_phys_mem.specs.Words.{word_at}
use Rattle.iom_registers.specs.declared.directory.DirectoryMode.{DirectoryMode}
use Rattle.iom_registers.specs.declared.directory.DirectoryMode.TheVariants as mode
use Rattle.iom_device_dir.specs.declared.context.Context.{Context as DeviceContext}
use Rattle.iom_device_dir.specs.declared.entry.NonLeafEntry.{NonLeafEntry}
use Rattle.iom_device_dir.specs.Located.{loaded_entry, loaded_context, follow_entry, path_end_from, located_from_level, located_by_mode}
use Rattle.iom_device_dir.specs.Paths.{ddi, entry_place, context_place, context_words_at, four_context_words, ids_below}
use Rattle.iom_stage_walk.specs.Entries.{Entries, entries, entry_read, slot}
use Rattle.iom_stage_walk.specs.Paths.{Reaches, IsLawfulLeaf, pages_spanned, page_in}
use Rattle.iom_reach.specs.Memory.{Tables, Found, Nothing, Leaf, WalkStep, Goes, Ends}
use Rattle.iom_reach.specs.Scene.{Mapping, At}
use Rattle.iom_hardware_ways.specs.Formats.{word_in, step_at, index_of, found_leaf, found_entry, entry_format, context_found, found_non_leaf, context_of, stored_context, context_format, indices_from, steps_of}
use Rattle.iom_hardware_ways.specs.Scenes.{directory_by}

-- a word by its frame and offset
load : (n : ℕ) (memory : List (List ℕ)) (address frame offset : ℕ) → address % n ≡ 0 → address / 4096 ≡ frame → address % 4096 ≡ offset
    → word_at n memory address ≡ option_map (λ bytes. little_number n (drop offset bytes)) (slice_get memory frame)
load n memory address frame offset even quotient rest =
    rw (eq-eqb (address % n) 0 even, quotient, rest) refl

pub word_there : (memory : List (List ℕ)) (address frame offset : ℕ) → address ≡ 4096 * frame + offset → offset < 4096 → offset % 8 ≡ 0
    → word_at 8 memory address ≡ word_in (slice_get memory frame) offset
word_there memory address frame offset is low even =
    load 8 memory address frame offset (omega (arith, is, low, even)) (omega (arith, is, low)) (omega (arith, is, low))

-- PAGE TABLES

pub entry_there : (memory : List (List ℕ)) (table index : ℕ)
    → entries memory (slot table index) ≡ entry_read (word_in (slice_get memory (table + index / 512)) (8 * (index % 512)))
unfolding entries
entry_there memory table index = ap entry_read (word_there memory (8 * (512 * table + index)) (table + index / 512) (8 * (index % 512)) (omega arith) (omega arith) (omega arith))

index_back : (index : ℕ) → index_of (step_at index) ≡ index
index_back index = omega arith

pub indices_back : (is : List ℕ) → map index_of (map step_at is) ≡ is
indices_back [] = refl
indices_back (i ∷ is) = ap (λ n. n ∷ map index_of (map step_at is)) (index_back i) ∙ ap (λ ns. i ∷ ns) (indices_back is)

abbrev as_leaf : Mapping → Found Mapping
as_leaf mapping = Leaf mapping

leaf_found : (kind : AccessKind) (base : ℕ) (rights : Rights) (below : List ℕ) (frame : ℕ) (given : Rights) → IsLawfulLeaf kind base rights below frame given
    → found_leaf base rights (map index_of (map step_at below)) ≡ as_leaf (record { frame = frame; rights = given })
leaf_found kind base rights below frame given lawful =
    ap (λ is. found_leaf base rights is) (indices_back below)
    ∙ ap (λ (b : Bool). if b then as_leaf (record { frame = base + page_in below; rights = rights }) else Nothing) (eq-eqb (base % pages_spanned below) 0 lawful.aligned)
    ∙ ap (λ (f : ℕ). as_leaf (record { frame = f; rights = rights })) (sym lawful.page)
    ∙ ap (λ (g : Rights). as_leaf (record { frame = frame; rights = g })) (sym lawful.same)

-- a path that reaches a leaf is a walk that ends there
pub reaches_ends : (memory : List (List ℕ)) (kind : AccessKind) (table : ℕ) (is : List ℕ) (frame : ℕ) (given : Rights) → Reaches (entries memory) kind table is frame given
    → Ends entry_format (slice_get memory) table (map step_at is) (record { frame = frame; rights = given })
reaches_ends memory kind table [] frame given never = never
reaches_ends memory kind table (i ∷ below) frame given (inl (next, at, rest)) =
    subst (λ (f : Found Mapping). Goes f (λ n. Ends entry_format (slice_get memory) n (map step_at below) (record { frame = frame; rights = given })) (λ said. said ≡ record { frame = frame; rights = given }))
    (sym (ap (λ e. found_entry e (map step_at below)) (sym (entry_there memory table i) ∙ at)))
    (reaches_ends memory kind next below frame given rest)
reaches_ends memory kind table (i ∷ below) frame given (inr (base, rights, at, lawful)) =
    subst (λ (f : Found Mapping). Goes f (λ n. Ends entry_format (slice_get memory) n (map step_at below) (record { frame = frame; rights = given })) (λ said. said ≡ record { frame = frame; rights = given }))
    (sym (ap (λ e. found_entry e (map step_at below)) (sym (entry_there memory table i) ∙ at) ∙ leaf_found kind base rights below frame given lawful))
    refl

-- and its right allows the access
pub reaches_allowed : (e : Entries) (kind : AccessKind) (table : ℕ) (is : List ℕ) (frame : ℕ) (given : Rights) → Reaches e kind table is frame given → allows given kind ≡ true
reaches_allowed e kind table [] frame given never = absurd never
reaches_allowed e kind table (i ∷ below) frame given (inl (next, at, rest)) = reaches_allowed e kind next below frame given rest
reaches_allowed e kind table (i ∷ below) frame given (inr (base, rights, at, lawful)) = ap (λ (g : Rights). allows g kind) lawful.same ∙ lawful.allowed

-- THE DIRECTORY

pub ddi_low : (level id : ℕ) → ddi (suc level) id < 512
ddi_low zero id = omega (arith, mod-lt (id / 2 ^ 7) (lit< {m = 0} {n = 2 ^ 9} tt))
ddi_low (suc level) id = omega (arith, mod-lt (id / 2 ^ 16) (lit< {m = 0} {n = 2 ^ 8} tt))

pub ddi_lowest : (id : ℕ) → ddi 0 id < 128
ddi_lowest id = omega (arith, mod-lt (id / 2 ^ 0) (lit< {m = 0} {n = 2 ^ 7} tt))

four_words : (a b c d e f g h : Option ℕ) → a ≡ e → b ≡ f → c ≡ g → d ≡ h → four_context_words a b c d ≡ four_context_words e f g h
four_words a b c d e f g h i j k l = rw (i, j, k, l) refl

pub context_there : (memory : List (List ℕ)) (page index : ℕ) → index < 128
    → loaded_context (context_words_at memory (context_place page index)) ≡ stored_context (slice_get memory (page + 0)) (32 * index)
unfolding context_words_at
context_there memory page index low =
    let a = 4096 * page + 32 * index in
    let f = slice_get memory (page + 0) in
    ap loaded_context (four_words (word_at 8 memory a) (word_at 8 memory (a + 8)) (word_at 8 memory (a + 16)) (word_at 8 memory (a + 24))
    (word_in f (32 * index)) (word_in f (32 * index + 8)) (word_in f (32 * index + 16)) (word_in f (32 * index + 24))
    (word_there memory a (page + 0) (32 * index) (omega arith) (omega (arith, low)) (omega arith))
    (word_there memory (a + 8) (page + 0) (32 * index + 8) (omega arith) (omega (arith, low)) (omega arith))
    (word_there memory (a + 16) (page + 0) (32 * index + 16) (omega arith) (omega (arith, low)) (omega arith))
    (word_there memory (a + 24) (page + 0) (32 * index + 24) (omega arith) (omega (arith, low)) (omega arith)))

pub non_leaf_there : (memory : List (List ℕ)) (page index : ℕ) → index < 512
    → word_at 8 memory (entry_place page index) ≡ word_in (slice_get memory (page + 0)) (8 * index)
non_leaf_there memory page index low = word_there memory (4096 * page + 8 * index) (page + 0) (8 * index) (omega arith) (omega (arith, low)) (omega arith)

follows : (memory : List (List ℕ)) (loaded : Result NonLeafEntry Cause) (follow : ℕ → Result DeviceContext Cause) (steps : List WalkStep) (context : DeviceContext)
    → ((next : ℕ) → follow next ≡ Ok context → Ends context_format (slice_get memory) next steps (context_of context))
    → follow_entry loaded follow ≡ Ok context
    → Goes (found_non_leaf loaded) (λ next. Ends context_format (slice_get memory) next steps (context_of context)) (λ said. said ≡ context_of context)
follows memory (Ok entry) follow steps context later is = later entry.next.number is
follows memory (Err cause) follow steps context later is = absurd (cc)

loaded_leaf : (loaded : Result DeviceContext Cause) (On : ℕ → Type 0) (context : DeviceContext) → loaded ≡ Ok context
    → Goes (context_found loaded) On (λ said. said ≡ context_of context)
loaded_leaf loaded On context is = subst (λ l. Goes (context_found l) On (λ said. said ≡ context_of context)) (sym is) refl

ends_below : (memory : List (List ℕ)) (level page id : ℕ) (rest : List WalkStep) (context : DeviceContext) (first : WalkStep) (others : List WalkStep) → rest ≡ first ∷ others
    → Goes (found_non_leaf (loaded_entry (word_in (slice_get memory (page + 0)) (8 * ddi (suc level) id)))) (λ next. Ends context_format (slice_get memory) next rest (context_of context)) (λ said. said ≡ context_of context)
    → Ends context_format (slice_get memory) page (record { frame = 0; place = ddi (suc level) id } ∷ rest) (context_of context)
ends_below memory level page id rest context first others is goes =
    subst (λ steps. Goes (context_format (slice_get memory (page + 0)) (ddi (suc level) id) steps) (λ next. Ends context_format (slice_get memory) next steps (context_of context)) (λ said. said ≡ context_of context))
    (sym is)
    (subst (λ steps. Goes (found_non_leaf (loaded_entry (word_in (slice_get memory (page + 0)) (8 * ddi (suc level) id)))) (λ next. Ends context_format (slice_get memory) next steps (context_of context)) (λ said. said ≡ context_of context)) is goes)

-- the indices are some
pub some_indices : (level id : ℕ) → (first : WalkStep) × (others : List WalkStep) × (indices_from level id ≡ first ∷ others)
some_indices zero id = (record { frame = 0; place = ddi 0 id }, [], refl)
some_indices (suc level) id = (record { frame = 0; place = ddi (suc level) id }, indices_from level id, refl)

pub located_ends : (memory : List (List ℕ)) (level page id : ℕ) (context : DeviceContext) → path_end_from memory level page id ≡ Ok context
    → Ends context_format (slice_get memory) page (indices_from level id) (context_of context)
located_ends memory zero page id context is =
    loaded_leaf (stored_context (slice_get memory (page + 0)) (32 * ddi 0 id)) (λ next. Ends context_format (slice_get memory) next [] (context_of context)) context
    (sym (context_there memory page (ddi 0 id) (ddi_lowest id)) ∙ is)
located_ends memory (suc level) page id context is =
    let (first, others, all) = some_indices level id in
    ends_below memory level page id (indices_from level id) context first others all
    (follows memory (loaded_entry (word_in (slice_get memory (page + 0)) (8 * ddi (suc level) id))) (λ next. path_end_from memory level next id) (indices_from level id) context
    (λ next leads. located_ends memory level next id context leads)
    (subst (λ w. follow_entry (loaded_entry w) (λ next. path_end_from memory level next id) ≡ Ok context) (non_leaf_there memory page (ddi (suc level) id) (ddi_low level id)) is))

-- by level
located_from : (memory : List (List ℕ)) (level root id : ℕ) (context : DeviceContext) → located_from_level level memory root id ≡ Ok context
    → Ends context_format (slice_get memory) root (steps_of (suc level) id) (context_of context)
located_from memory level root id context is = by (nat_lt id (ids_below level)) is
  where
    by : (b : Bool) → (if b then path_end_from memory level root id else Err TransactionTypeDisallowed) ≡ Ok context
        → Ends context_format (slice_get memory) root (if b then indices_from level id else []) (context_of context)
    by true found = located_ends memory level root id context found
    by false found = absurd (cc)

-- by ddtp's mode
pub located_in : (m : DirectoryMode) (memory : List (List ℕ)) (root id : ℕ) (context : DeviceContext) → located_by_mode m memory root id ≡ Ok context
    → (tables : Tables) × (directory_by m root ≡ At tables) × Ends context_format (slice_get memory) tables.root (steps_of tables.levels id) (context_of context)
unfolding located_by_mode
located_in mode.Off memory root id context is = absurd (cc)
located_in mode.Bare memory root id context is = absurd (cc)
located_in mode.OneLevel memory root id context is = (record { root = root; levels = 1 }, refl, located_from memory 0 root id context is)
located_in mode.TwoLevels memory root id context is = (record { root = root; levels = 2 }, refl, located_from memory 1 root id context is)
located_in mode.ThreeLevels memory root id context is = (record { root = root; levels = 3 }, refl, located_from memory 2 root id context is)

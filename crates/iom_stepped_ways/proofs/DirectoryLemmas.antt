-- Loads of the directory, and walks by its format: where a walk goes on, ends, and begins.
use Rattle.std.proofs.Common.{◌≡◌, ◌+◌, ◌⊎◌, inl, inr, ℕ, zero, suc, Bool, true, false, nat_lt, List, [], slice_get, Result, Ok, Err, if◌then◌else◌, refl, sym, ap, ◌∙◌, subst}
use Rattle.iom_base.specs.declared.cause.Cause.{Cause}
use Rattle.iom_base.specs.declared.cause.Cause.TheVariants.{TransactionTypeDisallowed, AllInboundDisallowed}
use Rattle.iom_device_dir.specs.declared.context.Context.{Context as DeviceContext}
use Rattle.iom_device_dir.specs.declared.entry.NonLeafEntry.{NonLeafEntry}
use Rattle.iom_device_dir.specs.Located.{loaded_entry, loaded_context}
use Rattle.iom_device_dir.specs.Paths.{ddi, entry_place, context_place, context_words_at, ids_below}
use Rattle.iom_phys_mem.specs.Words.{word_at}
use Rattle.iom_registers.specs.declared.directory.DirectoryMode.{DirectoryMode}
use Rattle.iom_registers.specs.declared.directory.DirectoryMode.TheVariants as mode
use Rattle.iom_walk_loads.specs.Directory.{after_entry, directory_walk, locating_by, locating_from}
use Rattle.iom_walk_loads.specs.Loads.{Ends, after_load}
use Rattle.iom_reach.proofs.WalkLemmas.{passes_here}
use Rattle.iom_reach.specs.Memory.{Tables, Goes, Passes, Ends as EndsAt}
use Rattle.iom_reach.specs.Scene.{At}
use Rattle.iom_hardware_ways.proofs.FormatLemmas.{non_leaf_there, ddi_low, some_indices, located_ends}
use Rattle.iom_hardware_ways.specs.Formats.{found_non_leaf, context_of, context_format, indices_from, steps_of}
use Rattle.iom_hardware_ways.specs.Scenes.{directory_by}

-- ONE LOAD in a page of the directory: the walk goes on in the next page, finds a context, or ends with a cause
abbrev pub GoesOnInDirectory : List (List ℕ) → ℕ → ℕ → ℕ → Type 0
GoesOnInDirectory memory level page id =
    (lower : ℕ) × (next : ℕ) × (after_load memory (directory_walk level page id) ≡ directory_walk lower next id)
    × Passes context_format (slice_get memory) page (indices_from level id) next (indices_from lower id)

abbrev pub FindsInDirectory : List (List ℕ) → ℕ → ℕ → ℕ → Type 0
FindsInDirectory memory level page id =
    (context : DeviceContext) × (after_load memory (directory_walk level page id) ≡ Ends (Ok context))
    × EndsAt context_format (slice_get memory) page (indices_from level id) (context_of context)

abbrev pub StopsInDirectory : List (List ℕ) → ℕ → ℕ → ℕ → Type 0
StopsInDirectory memory level page id = (cause : Cause) × (after_load memory (directory_walk level page id) ≡ Ends (Err cause))

at_context : (memory : List (List ℕ)) (page id : ℕ) (loaded : Result DeviceContext Cause) → loaded_context (context_words_at memory (context_place page (ddi 0 id))) ≡ loaded
    → FindsInDirectory memory 0 page id ⊎ StopsInDirectory memory 0 page id
at_context memory page id (Ok context) is = inl (context, ap (λ l. Ends l) is, located_ends memory 0 page id context is)
at_context memory page id (Err cause) is = inr (cause, ap (λ l. Ends l) is)

-- the next page is where the format's walk goes on
passes_on : (memory : List (List ℕ)) (level page id : ℕ) (entry : NonLeafEntry) → loaded_entry (word_at 8 memory (entry_place page (ddi (suc level) id))) ≡ Ok entry
    → Passes context_format (slice_get memory) page (indices_from (suc level) id) entry.next.number (indices_from level id)
passes_on memory level page id entry is =
    let (first, others, all) = some_indices level id in
    let there = sym (ap loaded_entry (non_leaf_there memory page (ddi (suc level) id) (ddi_low level id))) ∙ is in
    inr (subst (λ steps. Goes (context_format (slice_get memory (page + 0)) (ddi (suc level) id) steps)
    (λ t. Passes context_format (slice_get memory) t (indices_from level id) entry.next.number (indices_from level id)) (λ said. ⊥)) (sym all)
    (subst (λ loaded. Goes (found_non_leaf loaded)
    (λ t. Passes context_format (slice_get memory) t (indices_from level id) entry.next.number (indices_from level id)) (λ said. ⊥)) (sym there)
    (passes_here context_format (slice_get memory) entry.next.number (indices_from level id))))

at_non_leaf : (memory : List (List ℕ)) (level page id : ℕ) (loaded : Result NonLeafEntry Cause) → loaded_entry (word_at 8 memory (entry_place page (ddi (suc level) id))) ≡ loaded
    → GoesOnInDirectory memory (suc level) page id ⊎ StopsInDirectory memory (suc level) page id
at_non_leaf memory level page id (Ok entry) is =
    inl (level, entry.next.number, ap (after_entry (λ next. directory_walk level next id)) is, passes_on memory level page id entry is)
at_non_leaf memory level page id (Err cause) is = inr (cause, ap (after_entry (λ next. directory_walk level next id)) is)

pub directory_load : (memory : List (List ℕ)) (level page id : ℕ)
    → GoesOnInDirectory memory level page id ⊎ (FindsInDirectory memory level page id ⊎ StopsInDirectory memory level page id)
directory_load memory zero page id = inr (at_context memory page id (loaded_context (context_words_at memory (context_place page (ddi 0 id)))) refl)
directory_load memory (suc level) page id =
    elim (at_non_leaf memory level page id (loaded_entry (word_at 8 memory (entry_place page (ddi (suc level) id)))) refl) [ inl on ↦ inl on | inr stops ↦ inr (inr stops) ]

-- A WALK BEGINS at the root of the directory, or ends at once with a cause
abbrev pub BeginsInDirectory : DirectoryMode → ℕ → ℕ → Type 0
BeginsInDirectory m root id =
    (level : ℕ) × (tables : Tables) × (locating_by m root id ≡ directory_walk level root id) × (directory_by m root ≡ At tables)
    × (tables.root ≡ root) × (steps_of tables.levels id ≡ indices_from level id)

begins_from : (level root id : ℕ)
    → ((locating_from level root id ≡ directory_walk level root id) × (steps_of (suc level) id ≡ indices_from level id))
    ⊎ ((cause : Cause) × (locating_from level root id ≡ Ends (Err cause)))
begins_from level root id = by (nat_lt id (ids_below level))
  where
    by : (b : Bool)
        → (((if b then directory_walk level root id else Ends (Err TransactionTypeDisallowed)) ≡ directory_walk level root id) × ((if b then indices_from level id else []) ≡ indices_from level id))
        ⊎ ((cause : Cause) × ((if b then directory_walk level root id else Ends (Err TransactionTypeDisallowed)) ≡ Ends (Err cause)))
    by true = inl (refl, refl)
    by false = inr (TransactionTypeDisallowed, refl)

pub directory_begins : (m : DirectoryMode) (root id : ℕ) → BeginsInDirectory m root id ⊎ ((cause : Cause) × (locating_by m root id ≡ Ends (Err cause)))
directory_begins mode.Off root id = inr (AllInboundDisallowed, refl)
directory_begins mode.Bare root id = inr (AllInboundDisallowed, refl)
directory_begins mode.OneLevel root id = elim (begins_from 0 root id) [
  | inl (is, steps) ↦ inl (0, record { root = root; levels = 1 }, is, refl, refl, steps)
  | inr stops ↦ inr stops
]
directory_begins mode.TwoLevels root id = elim (begins_from 1 root id) [
  | inl (is, steps) ↦ inl (1, record { root = root; levels = 2 }, is, refl, refl, steps)
  | inr stops ↦ inr stops
]
directory_begins mode.ThreeLevels root id = elim (begins_from 2 root id) [
  | inl (is, steps) ↦ inl (2, record { root = root; levels = 3 }, is, refl, refl, steps)
  | inr stops ↦ inr stops
]

-- What a walk of the directory by the formats ends at, the path of the id finds.
use Rattle.std.proofs.Common.{suc, zero, ◌≡◌, ◌+◌, ◌*◌, ◌∙◌, ℕ, Bool, true, false, nat_lt, List, [], ◌∷◌, slice_get, Result, Ok, Err, if◌then◌else◌, refl, sym, ap, subst}
use Rattle.iom_base.specs.declared.cause.Cause.{Cause}
use Rattle.iom_base.specs.declared.cause.Cause.TheVariants.{TransactionTypeDisallowed}
use Rattle.iom_device_dir.proofs.Ends.{located_exactly}
use Rattle.iom_device_dir.specs.declared.context.Context.{Context as DeviceContext}
use Rattle.iom_device_dir.specs.declared.entry.NonLeafEntry.{NonLeafEntry}
use Rattle.iom_device_dir.specs.Located.{loaded_entry, follow_entry, path_end_from, located_from_level, located_by_mode}
use Rattle.iom_device_dir.specs.Paths.{ddi, ids_below}
use Rattle.iom_registers.specs.declared.directory.DirectoryMode.{DirectoryMode}
use Rattle.iom_registers.specs.declared.directory.DirectoryMode.TheVariants as mode
use Rattle.iom_reach.specs.Memory.{Tables, Goes, Ends, WalkStep}
use Rattle.iom_reach.specs.Scene.{Context, Directory, Off, Bare, At}
use Rattle.iom_hardware_ways.specs.Formats.{word_in, context_found, found_non_leaf, context_of, stored_context, context_format, indices_from, steps_of}
use Rattle.iom_hardware_ways.specs.Laws.{DirectoriesAreFound}
use Rattle.iom_hardware_ways.specs.Scenes.{directory_by}
use Rattle.iom_hardware_ways.proofs.FormatLemmas.{context_there, non_leaf_there, ddi_low, ddi_lowest, some_indices}

-- a path ends at a context that is this
abbrev IsFound : Result DeviceContext Cause → Context → Type 0
IsFound result context = (found : DeviceContext) × (result ≡ Ok found) × (context_of found ≡ context)

context_back : (loaded : Result DeviceContext Cause) (On : ℕ → Type 0) (context : Context) → ((next : ℕ) → On next → ⊥) → Goes (context_found loaded) On (λ said. said ≡ context) → IsFound loaded context
context_back (Ok found) On context none same = (found, refl, same)
context_back (Err cause) On context none never = absurd never

entry_back : (loaded : Result NonLeafEntry Cause) (On : ℕ → Type 0) (context : Context) (follow : ℕ → Result DeviceContext Cause) → ((next : ℕ) → On next → IsFound (follow next) context)
    → Goes (found_non_leaf loaded) On (λ said. said ≡ context) → IsFound (follow_entry loaded follow) context
entry_back (Ok entry) On context follow later goes = later entry.next.number goes
entry_back (Err cause) On context follow later never = absurd never

-- before the last step a non-leaf entry is read
below : (memory : List (List ℕ)) (level page id : ℕ) (rest : List WalkStep) (context : Context) (first : WalkStep) (others : List WalkStep) → rest ≡ first ∷ others
    → Ends context_format (slice_get memory) page (record { frame = 0; place = ddi (suc level) id } ∷ rest) context
    → Goes (found_non_leaf (loaded_entry (word_in (slice_get memory (page + 0)) (8 * ddi (suc level) id)))) (λ next. Ends context_format (slice_get memory) next rest context) (λ said. said ≡ context)
below memory level page id rest context first others is ends =
    subst (λ steps. Goes (found_non_leaf (loaded_entry (word_in (slice_get memory (page + 0)) (8 * ddi (suc level) id)))) (λ next. Ends context_format (slice_get memory) next steps context) (λ said. said ≡ context))
    (sym is)
    (subst (λ steps. Goes (context_format (slice_get memory (page + 0)) (ddi (suc level) id) steps) (λ next. Ends context_format (slice_get memory) next steps context) (λ said. said ≡ context)) is ends)

ends_found : (memory : List (List ℕ)) (level page id : ℕ) (context : Context) → Ends context_format (slice_get memory) page (indices_from level id) context
    → IsFound (path_end_from memory level page id) context
ends_found memory zero page id context ends =
    subst (λ r. IsFound r context) (sym (context_there memory page (ddi 0 id) (ddi_lowest id)))
    (context_back (stored_context (slice_get memory (page + 0)) (32 * ddi 0 id)) (λ next. Ends context_format (slice_get memory) next [] context) context (λ next never. never) ends)
ends_found memory (suc level) page id context ends =
    let (first, others, all) = some_indices level id in
    subst (λ w. IsFound (follow_entry (loaded_entry w) (λ next. path_end_from memory level next id)) context) (sym (non_leaf_there memory page (ddi (suc level) id) (ddi_low level id)))
    (entry_back (loaded_entry (word_in (slice_get memory (page + 0)) (8 * ddi (suc level) id))) (λ next. Ends context_format (slice_get memory) next (indices_from level id) context) context
    (λ next. path_end_from memory level next id) (λ next rest. ends_found memory level next id context rest)
    (below memory level page id (indices_from level id) context first others all ends))

found_from : (memory : List (List ℕ)) (level root id : ℕ) (context : Context) → Ends context_format (slice_get memory) root (steps_of (suc level) id) context
    → IsFound (located_from_level level memory root id) context
found_from memory level root id context ends = by (nat_lt id (ids_below level)) ends
  where
    by : (b : Bool) → Ends context_format (slice_get memory) root (if b then indices_from level id else []) context
        → IsFound (if b then path_end_from memory level root id else Err TransactionTypeDisallowed) context
    by true found = ends_found memory level root id context found
    by false never = absurd never

-- the tree that a directory is
abbrev tree_of : Directory → Tables
tree_of Off = record { root = 0; levels = 0 }
tree_of Bare = record { root = 0; levels = 0 }
tree_of (At tables) = tables

found_by : (m : DirectoryMode) (memory : List (List ℕ)) (root id : ℕ) (tables : Tables) (context : Context) → directory_by m root ≡ At tables
    → Ends context_format (slice_get memory) tables.root (steps_of tables.levels id) context → IsFound (located_by_mode m memory root id) context
unfolding located_by_mode
found_by mode.Off memory root id tables context is ends = absurd (cc)
found_by mode.Bare memory root id tables context is ends = absurd (cc)
found_by mode.OneLevel memory root id tables context is ends =
    found_from memory 0 root id context (subst (λ (t : Tables). Ends context_format (slice_get memory) t.root (steps_of t.levels id) context) (sym (ap tree_of is)) ends)
found_by mode.TwoLevels memory root id tables context is ends =
    found_from memory 1 root id context (subst (λ (t : Tables). Ends context_format (slice_get memory) t.root (steps_of t.levels id) context) (sym (ap tree_of is)) ends)
found_by mode.ThreeLevels memory root id tables context is ends =
    found_from memory 2 root id context (subst (λ (t : Tables). Ends context_format (slice_get memory) t.root (steps_of t.levels id) context) (sym (ap tree_of is)) ends)

bare_is_none : (tables : Tables) → Bare ≡ At tables → ⊥
bare_is_none tables same = cc

pub directories_are_found : DirectoriesAreFound
directories_are_found memory ddtp id tables context is ends =
    let (found, at, same) = found_by ddtp.mode memory ddtp.ppn id tables context is ends in (
      found,
      (located_exactly ddtp.mode memory ddtp.ppn id
          (λ bare. bare_is_none tables (sym (ap (λ m. directory_by m ddtp.ppn) bare) ∙ is))
          (located_by_mode ddtp.mode memory ddtp.ppn id) refl found).0 at,
      same,
    )

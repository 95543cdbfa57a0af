-- The context to which a walk of the directory comes, and the pages that it reads, are those of the walk by the formats.
use Rattle.std.proofs.Common.{◌≡◌, ◌⊎◌, ◌∙◌, inl, inr, ℕ, zero, suc, ◌+◌, ◌-◌, ◌*◌, ◌/◌, ◌<◌, List, [], ◌∷◌, slice_get, Some, Result, Ok, Err, subst, refl, sym, arith}
use Rattle.iom_base.specs.declared.cause.Cause.{Cause}
use Rattle.iom_device_dir.specs.Located.{loaded_entry, loaded_context}
use Rattle.iom_device_dir.specs.Paths.{ddi, entry_place, context_place, context_words_at}
use Rattle.iom_device_dir.specs.declared.context.Context.{Context as DeviceContext}
use Rattle.iom_device_dir.specs.declared.entry.NonLeafEntry.{NonLeafEntry}
use Rattle.iom_phys_mem.specs.Words.{word_at}
use Rattle.iom_walk_loads.proofs.LoadLemmas.{within_le}
use Rattle.iom_walk_loads.proofs.WholeLemmas.{path_met}
use Rattle.iom_walk_loads.specs.Directory.{after_entry, directory_walk}
use Rattle.iom_walk_loads.specs.Loads.{Walk, Ends as HasEnded, ReadsEntry, ReadsContext, EndsWithin, after_load, made_from}
use Rattle.iom_stepped_walk.proofs.FinishLemmas.{directory_within}
use Rattle.iom_stepped_walk.specs.Directories.{directory_rest, still_locating}
use Rattle.iom_stepped_walk.specs.NextLoads.{next_address}
use Rattle.iom_stepped_walk.specs.declared.directory.DirectoryWalk.{DirectoryWalk}
use Rattle.iom_stepped_walk.specs.declared.directory.Locating.{Locating}
use Rattle.iom_stepped_walk.specs.declared.directory.Locating.TheVariants.{GoesOn, Ended}
use Rattle.iom_reach.specs.Memory.{Goes, Ends, WalkStep}
use Rattle.iom_reach.specs.Scene.{Context}
use Rattle.iom_hardware_ways.proofs.FormatLemmas.{context_there, non_leaf_there, ddi_low, ddi_lowest, some_indices, located_ends}
use Rattle.iom_hardware_ways.specs.Formats.{word_in, context_found, found_non_leaf, context_of, stored_context, context_format, indices_from}
use Rattle.iom_table_survey.specs.Rows.{GrowsBy}
use Rattle.iom_table_survey.proofs.AddLemmas.{adds_none, adds_same, adds_then}
use Rattle.iom_way_survey.specs.Directories.{next_page_of, IsOnWay, IsOnPath}

-- WHERE IT ENDS

-- a walk ends at a context that is this
abbrev IsFound : Result DeviceContext Cause → Context → Type 0
IsFound result context = (found : DeviceContext) × (result ≡ Ok found) × (context_of found ≡ context)

context_back : (loaded : Result DeviceContext Cause) (On : ℕ → Type 0) (context : Context) → ((next : ℕ) → On next → ⊥) → Goes (context_found loaded) On (λ said. said ≡ context) → IsFound loaded context
context_back (Ok found) On context none same = (found, refl, same)
context_back (Err cause) On context none never = absurd never

entry_back : (memory : List (List ℕ)) (loaded : Result NonLeafEntry Cause) (On : ℕ → Type 0) (context : Context) (follow : ℕ → Walk (Result DeviceContext Cause))
    → ((next : ℕ) → On next → IsFound (made_from memory (follow next)) context)
    → Goes (found_non_leaf loaded) On (λ said. said ≡ context) → IsFound (made_from memory (after_entry follow loaded)) context
entry_back memory (Ok entry) On context follow later goes = later entry.next.number goes
entry_back memory (Err cause) On context follow later never = absurd never

-- before the last step a non-leaf entry is read
below : (memory : List (List ℕ)) (level page id : ℕ) (rest : List WalkStep) (context : Context) (first : WalkStep) (others : List WalkStep) → rest ≡ first ∷ others
    → Ends context_format (slice_get memory) page (record { frame = 0; place = ddi (suc level) id } ∷ rest) context
    → Goes (found_non_leaf (loaded_entry (word_in (slice_get memory (page + 0)) (8 * ddi (suc level) id)))) (λ next. Ends context_format (slice_get memory) next rest context) (λ said. said ≡ context)
below memory level page id rest context first others is ends =
    subst (λ steps. Goes (found_non_leaf (loaded_entry (word_in (slice_get memory (page + 0)) (8 * ddi (suc level) id)))) (λ next. Ends context_format (slice_get memory) next steps context) (λ said. said ≡ context))
    (sym is)
    (subst (λ steps. Goes (context_format (slice_get memory (page + 0)) (ddi (suc level) id) steps) (λ next. Ends context_format (slice_get memory) next steps context) (λ said. said ≡ context)) is ends)

pub made_found : (memory : List (List ℕ)) (level page id : ℕ) (context : Context) → Ends context_format (slice_get memory) page (indices_from level id) context
    → IsFound (made_from memory (directory_walk level page id)) context
made_found memory zero page id context ends =
    subst (λ r. IsFound r context) (sym (context_there memory page (ddi 0 id) (ddi_lowest id)))
    (context_back (stored_context (slice_get memory (page + 0)) (32 * ddi 0 id)) (λ next. Ends context_format (slice_get memory) next [] context) context (λ next never. never) ends)
made_found memory (suc level) page id context ends =
    let (first, others, all) = some_indices level id in
    subst (λ w. IsFound (made_from memory (after_entry (λ next. directory_walk level next id) (loaded_entry w))) context) (sym (non_leaf_there memory page (ddi (suc level) id) (ddi_low level id)))
    (entry_back memory (loaded_entry (word_in (slice_get memory (page + 0)) (8 * ddi (suc level) id))) (λ next. Ends context_format (slice_get memory) next (indices_from level id) context) context
    (λ next. directory_walk level next id) (λ next rest. made_found memory level next id context rest)
    (below memory level page id (indices_from level id) context first others all ends))

pub made_ends : (memory : List (List ℕ)) (level page id : ℕ) (own : DeviceContext) → made_from memory (directory_walk level page id) ≡ Ok own
    → Ends context_format (slice_get memory) page (indices_from level id) (context_of own)
made_ends memory level page id own is = located_ends memory level page id own (sym (path_met memory level page id) ∙ is)

-- HOW LONG IT IS: one load a level

within_levels : (level page id : ℕ) → EndsWithin (suc level) (directory_walk level page id)
within_levels zero page id = λ given. tt
within_levels (suc level) page id = λ given. by (loaded_entry given) (λ next. within_levels level next id)
  where
    by : (x : Result NonLeafEntry Cause) → ((next : ℕ) → EndsWithin (suc level) (directory_walk level next id)) → EndsWithin (suc level) (after_entry (λ next. directory_walk level next id) x)
    by (Ok entry) follow = follow entry.next.number
    by (Err cause) follow = tt

pub within_three : (walk : DirectoryWalk) → EndsWithin 3 (directory_rest walk)
within_three walk = within_le (suc walk.level) 3 (directory_rest walk) (let low = walk.in_range in omega (arith, low)) (within_levels walk.level walk.page.number walk.id)

-- THE FRAMES THAT IT READS

-- the frames from which the loads are that remain of a walk
abbrev pub LoadsFrom : {A : Type 0} → List (List ℕ) → Walk A → ℕ → Type 0
LoadsFrom memory (HasEnded answer) frame = ⊥
LoadsFrom memory (ReadsEntry address rest) frame = (frame ≡ address / 4096) ⊎ LoadsFrom memory (rest (word_at 8 memory address)) frame
LoadsFrom memory (ReadsContext address rest) frame = (frame ≡ address / 4096) ⊎ LoadsFrom memory (rest (loaded_context (context_words_at memory address))) frame

-- they are the pages on the path
entry_page : (page index : ℕ) → index < 512 → entry_place page index / 4096 ≡ page
entry_page page index low = omega (arith, low)

context_page : (page index : ℕ) → index < 128 → context_place page index / 4096 ≡ page
context_page page index low = omega (arith, low)

on_path : (memory : List (List ℕ)) (level page id frame : ℕ) → LoadsFrom memory (directory_walk level page id) frame → IsOnPath memory level page id frame
on_path memory zero page id frame (inl here) = here ∙ context_page page (ddi 0 id) (ddi_lowest id)
on_path memory zero page id frame (inr never) = absurd never
on_path memory (suc level) page id frame (inl here) = inl (here ∙ entry_page page (ddi (suc level) id) (ddi_low level id))
on_path memory (suc level) page id frame (inr later) = inr (by (loaded_entry (word_at 8 memory (entry_place page (ddi (suc level) id)))) (λ next. on_path memory level next id frame) later)
  where
    by : (x : Result NonLeafEntry Cause) → ((next : ℕ) → LoadsFrom memory (directory_walk level next id) frame → IsOnPath memory level next id frame)
        → LoadsFrom memory (after_entry (λ next. directory_walk level next id) x) frame → IsOnWay (next_page_of x) (λ next. IsOnPath memory level next id frame)
    by (Ok entry) follow is = follow entry.next.number is
    by (Err cause) follow never = never

path_loads : (memory : List (List ℕ)) (level page id frame : ℕ) → IsOnPath memory level page id frame → LoadsFrom memory (directory_walk level page id) frame
path_loads memory zero page id frame here = inl (here ∙ sym (context_page page (ddi 0 id) (ddi_lowest id)))
path_loads memory (suc level) page id frame (inl here) = inl (here ∙ sym (entry_page page (ddi (suc level) id) (ddi_low level id)))
path_loads memory (suc level) page id frame (inr later) = inr (by (loaded_entry (word_at 8 memory (entry_place page (ddi (suc level) id)))) (λ next. path_loads memory level next id frame) later)
  where
    by : (x : Result NonLeafEntry Cause) → ((next : ℕ) → IsOnPath memory level next id frame → LoadsFrom memory (directory_walk level next id) frame)
        → IsOnWay (next_page_of x) (λ next. IsOnPath memory level next id frame) → LoadsFrom memory (after_entry (λ next. directory_walk level next id) x) frame
    by (Ok entry) follow is = follow entry.next.number is
    by (Err cause) follow never = never

-- STEP BY STEP: what is still read goes in, and with it all that the walk reads
pub record IsLeftOf (memory : List (List ℕ)) (walk : DirectoryWalk) (old now : List ℕ) (made : ℕ) (progress : Locating) : Type 0 where
  pub rest : (new : List ℕ) → GrowsBy now new (LoadsFrom memory (still_locating progress)) → GrowsBy old new (LoadsFrom memory (directory_rest walk))
  pub within : EndsWithin (3 - made) (still_locating progress)

pub all_left : (memory : List (List ℕ)) (walk : DirectoryWalk) (old : List ℕ) → IsLeftOf memory walk old old 0 (GoesOn walk)
all_left memory walk old = record { rest = λ new adds. adds; within = within_three walk }

loads_split : {A : Type 0} (memory : List (List ℕ)) (walk : Walk A) (address : ℕ) (old between new : List ℕ) → next_address walk ≡ Some address → GrowsBy old between (λ f. f ≡ address / 4096)
    → GrowsBy between new (LoadsFrom memory (after_load memory walk)) → GrowsBy old new (LoadsFrom memory walk)
loads_split memory (HasEnded answer) address old between new is first rest = let no : ⊥ = cc in absurd no
loads_split memory (ReadsEntry own rest) address old between new is first later =
    let same : own ≡ address = cc in
    adds_then old between new (λ f. f ≡ own / 4096) (LoadsFrom memory (rest (word_at 8 memory own))) (subst (λ a. GrowsBy old between (λ f. f ≡ a / 4096)) (sym same) first) later
loads_split memory (ReadsContext own rest) address old between new is first later =
    let same : own ≡ address = cc in
    adds_then old between new (λ f. f ≡ own / 4096) (LoadsFrom memory (rest (loaded_context (context_words_at memory own)))) (subst (λ a. GrowsBy old between (λ f. f ≡ a / 4096)) (sym same) first) later

pub one_less_left : (memory : List (List ℕ)) (walk stands : DirectoryWalk) (old now new : List ℕ) (made address : ℕ) (progress next : Locating) → progress ≡ GoesOn stands → made < 3
    → next_address (directory_rest stands) ≡ Some address → still_locating next ≡ after_load memory (directory_rest stands) → GrowsBy now new (λ f. f ≡ address / 4096)
    → IsLeftOf memory walk old now made progress → IsLeftOf memory walk old new (made + 1) next
one_less_left memory walk stands old now new made address progress next is few at loaded first left = record {
  rest = λ last adds. left.rest last
      (subst (λ (p : Locating). GrowsBy now last (LoadsFrom memory (still_locating p))) (sym is)
      (loads_split memory (directory_rest stands) address now new last at first (subst (λ w. GrowsBy new last (LoadsFrom memory w)) loaded adds)));
  within = directory_within memory stands next made few loaded (subst (λ (p : Locating). EndsWithin (3 - made) (still_locating p)) is left.within);
}

all_on_path : (memory : List (List ℕ)) (walk : DirectoryWalk) (old new : List ℕ) → GrowsBy old new (LoadsFrom memory (directory_rest walk)) → GrowsBy old new (IsOnPath memory walk.level walk.page.number walk.id)
all_on_path memory walk old new adds = adds_same old new (LoadsFrom memory (directory_rest walk)) (IsOnPath memory walk.level walk.page.number walk.id) adds
    (path_loads memory walk.level walk.page.number walk.id) (on_path memory walk.level walk.page.number walk.id)

pub none_left : (memory : List (List ℕ)) (walk : DirectoryWalk) (old now : List ℕ) (made : ℕ) (progress : Locating) (answer : Result DeviceContext Cause) → progress ≡ Ended answer
    → IsLeftOf memory walk old now made progress → GrowsBy old now (IsOnPath memory walk.level walk.page.number walk.id)
none_left memory walk old now made progress answer is left =
    all_on_path memory walk old now (left.rest now (subst (λ (p : Locating). GrowsBy now now (LoadsFrom memory (still_locating p))) (sym is) (adds_none now (λ f. ⊥) (λ f never. never))))

no_loads : {A : Type 0} (memory : List (List ℕ)) (walk : Walk A) (frame : ℕ) → EndsWithin 0 walk → LoadsFrom memory walk frame → ⊥
no_loads memory (HasEnded answer) frame within never = never
no_loads memory (ReadsEntry address rest) frame never loads = never
no_loads memory (ReadsContext address rest) frame never loads = never

pub all_made : (memory : List (List ℕ)) (walk : DirectoryWalk) (old now : List ℕ) (made : ℕ) (progress : Locating) → made ≡ 3
    → IsLeftOf memory walk old now made progress → GrowsBy old now (IsOnPath memory walk.level walk.page.number walk.id)
all_made memory walk old now made progress last left =
    all_on_path memory walk old now
    (left.rest now (adds_none now (LoadsFrom memory (still_locating progress)) (λ f loads. no_loads memory (still_locating progress) f (subst (λ n. EndsWithin (3 - n) (still_locating progress)) last left.within) loads)))

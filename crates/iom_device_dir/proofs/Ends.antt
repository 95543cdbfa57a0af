-- A path ends in one way: what the relations say, the function says, and the other way round.
use Rattle.std.proofs.Common.{◌≡◌, ◌<◌, ◌∙◌, ℕ, zero, suc, inl, inr, Bool, true, false, nat_lt, List, Option, Some, None, Result, Ok, Err, refl, sym, ap, subst, if◌then◌else◌}
use Rattle.std.specs.Prelude.{◌↔◌}
use Rattle.std.proofs.lemmas.Bool.{lt-ltb, le-ltb, ltb-true, ltb-false}
use Rattle.iom_base.specs.declared.cause.Cause.{Cause}
use Rattle.iom_base.specs.declared.cause.Cause.TheVariants.{TransactionTypeDisallowed}
use Rattle.iom_phys_mem.specs.Words.{word_at}
use Rattle.iom_registers.specs.declared.directory.DirectoryMode.{DirectoryMode}
use Rattle.iom_registers.specs.declared.directory.DirectoryMode.TheVariants.{Off, Bare, OneLevel, TwoLevels, ThreeLevels}
use Rattle.iom_device_dir.specs.declared.context.Context.{Context}
use Rattle.iom_device_dir.specs.declared.entry.NonLeafEntry.{NonLeafEntry}
use Rattle.iom_device_dir.specs.declared.words.ContextWords.{ContextWords}
use Rattle.iom_device_dir.specs.Decoded.{decoded_non_leaf_entry, decoded_context}
use Rattle.iom_device_dir.specs.Paths.{ddi, entry_place, context_place, context_words_at, LoadsEntry, StopsAtLoadedEntry, LoadsContext, StopsAtLoadedContext, LeadsToContext, StopsBeforeContext, ids_below, fits_directory, FindsFromLevel, StopsFromLevel, FindsByMode, StopsByMode}
use Rattle.iom_device_dir.specs.Located.{loaded_entry, loaded_context, follow_entry, path_end_from, located_from_level, located_by_mode}
use Rattle.iom_device_dir.proofs.Exact.{Judges, judged, found, refused, JudgesNonLeaf, judged_non_leaf, found_non_leaf, refused_non_leaf}

-- what the load of an entry gives
abbrev TellsEntry : Option ℕ → Result NonLeafEntry Cause → Type 0
TellsEntry o (Ok entry) = LoadsEntry o entry
TellsEntry o (Err cause) = StopsAtLoadedEntry o cause

by_word : (word : ℕ) (r : Result NonLeafEntry Cause) → JudgesNonLeaf word r → TellsEntry (Some word) r
by_word word (Ok entry) h = h
by_word word (Err cause) h = h

entry_told : (o : Option ℕ) → TellsEntry o (loaded_entry o)
entry_told None = refl
entry_told (Some word) = by_word word (decoded_non_leaf_entry word) (judged_non_leaf word)

names_read : (o : Option ℕ) (entry : NonLeafEntry) → LoadsEntry o entry → loaded_entry o ≡ Ok entry
names_read None entry h = absurd h
names_read (Some word) entry h = found_non_leaf word entry h

stop_read : (o : Option ℕ) (cause : Cause) → StopsAtLoadedEntry o cause → loaded_entry o ≡ Err cause
stop_read None cause h = ap (λ x. Err x) (sym h)
stop_read (Some word) cause h = refused_non_leaf word cause h

-- what the loads of a context give
abbrev TellsContext : Option ContextWords → Result Context Cause → Type 0
TellsContext o (Ok context) = LoadsContext o context
TellsContext o (Err cause) = StopsAtLoadedContext o cause

by_words : (w : ContextWords) (r : Result Context Cause) → Judges w r → TellsContext (Some w) r
by_words w (Ok context) h = h
by_words w (Err cause) h = h

context_told : (o : Option ContextWords) → TellsContext o (loaded_context o)
context_told None = refl
context_told (Some w) = by_words w (decoded_context w) (judged w)

holds_read : (o : Option ContextWords) (context : Context) → LoadsContext o context → loaded_context o ≡ Ok context
holds_read None context h = absurd h
holds_read (Some w) context h = found w context h

stop_read_context : (o : Option ContextWords) (cause : Cause) → StopsAtLoadedContext o cause → loaded_context o ≡ Err cause
stop_read_context None cause h = ap (λ x. Err x) (sym h)
stop_read_context (Some w) cause h = refused w cause h

-- where a path ends, from the directory page of a level on
abbrev Ends : List (List ℕ) → ℕ → ℕ → ℕ → Result Context Cause → Type 0
Ends memory level page id (Ok context) = LeadsToContext memory level page id context
Ends memory level page id (Err cause) = StopsBeforeContext memory level page id cause

ends_here : (memory : List (List ℕ)) (page id : ℕ) (r : Result Context Cause) → TellsContext (context_words_at memory (context_place page (ddi 0 id))) r → Ends memory 0 page id r
ends_here memory page id (Ok context) h = h
ends_here memory page id (Err cause) h = h

ends_below : (memory : List (List ℕ)) (level page : ℕ) (entry : NonLeafEntry) (id : ℕ) → LoadsEntry (word_at 8 memory (entry_place page (ddi (suc level) id))) entry
    → (r : Result Context Cause) → Ends memory level entry.next.number id r → Ends memory (suc level) page id r
ends_below memory level page entry id loads (Ok context) h = (entry, loads, h)
ends_below memory level page entry id loads (Err cause) h = inr (entry, loads, h)

ends_after : (memory : List (List ℕ)) (level page id : ℕ) (r : Result NonLeafEntry Cause) → TellsEntry (word_at 8 memory (entry_place page (ddi (suc level) id))) r
    → ((next : ℕ) → Ends memory level next id (path_end_from memory level next id)) → Ends memory (suc level) page id (follow_entry r (λ next. path_end_from memory level next id))
ends_after memory level page id (Ok entry) reply go = ends_below memory level page entry id reply (path_end_from memory level entry.next.number id) (go entry.next.number)
ends_after memory level page id (Err cause) reply go = inl reply

ends : (memory : List (List ℕ)) (level page id : ℕ) → Ends memory level page id (path_end_from memory level page id)
ends memory zero page id = ends_here memory page id (loaded_context (context_words_at memory (context_place page (ddi 0 id)))) (context_told (context_words_at memory (context_place page (ddi 0 id))))
ends memory (suc level) page id =
    ends_after memory level page id (loaded_entry (word_at 8 memory (entry_place page (ddi (suc level) id)))) (entry_told (word_at 8 memory (entry_place page (ddi (suc level) id))))
    (λ next. ends memory level next id)

leads_end : (memory : List (List ℕ)) (level page id : ℕ) (context : Context) → LeadsToContext memory level page id context → path_end_from memory level page id ≡ Ok context
leads_end memory zero page id context h = holds_read (context_words_at memory (context_place page (ddi 0 id))) context h
leads_end memory (suc level) page id context h =
    ap (λ r. follow_entry r (λ next. path_end_from memory level next id)) (names_read (word_at 8 memory (entry_place page (ddi (suc level) id))) h.0 h.1)
    ∙ leads_end memory level h.0.next.number id context h.2

stops_end : (memory : List (List ℕ)) (level page id : ℕ) (cause : Cause) → StopsBeforeContext memory level page id cause → path_end_from memory level page id ≡ Err cause
stops_end memory zero page id cause h = stop_read_context (context_words_at memory (context_place page (ddi 0 id))) cause h
stops_end memory (suc level) page id cause (inl h) =
    ap (λ r. follow_entry r (λ next. path_end_from memory level next id)) (stop_read (word_at 8 memory (entry_place page (ddi (suc level) id))) cause h)
stops_end memory (suc level) page id cause (inr h) =
    ap (λ r. follow_entry r (λ next. path_end_from memory level next id)) (names_read (word_at 8 memory (entry_place page (ddi (suc level) id))) h.0 h.1)
    ∙ stops_end memory level h.0.next.number id cause h.2

-- the same in a directory whose root has a level
abbrev EndsFrom : ℕ → List (List ℕ) → ℕ → ℕ → Result Context Cause → Type 0
EndsFrom level memory root id (Ok context) = FindsFromLevel level memory root id context
EndsFrom level memory root id (Err cause) = StopsFromLevel level memory root id cause

within : (level : ℕ) (memory : List (List ℕ)) (root id : ℕ) → id < ids_below level → (r : Result Context Cause) → Ends memory level root id r → EndsFrom level memory root id r
within level memory root id small (Ok context) h = (small, h)
within level memory root id small (Err cause) h = inr (small, h)

ends_from : (level : ℕ) (memory : List (List ℕ)) (root id : ℕ) (b : Bool) → nat_lt id (ids_below level) ≡ b
    → EndsFrom level memory root id (if b then path_end_from memory level root id else Err TransactionTypeDisallowed)
ends_from level memory root id true is = within level memory root id (ltb-true id (ids_below level) is) (path_end_from memory level root id) (ends memory level root id)
ends_from level memory root id false is = inl (ltb-false id (ids_below level) is, refl)

finds_from : (level : ℕ) (memory : List (List ℕ)) (root id : ℕ) (context : Context) → FindsFromLevel level memory root id context → located_from_level level memory root id ≡ Ok context
finds_from level memory root id context h = rw (lt-ltb id (ids_below level) h.0) (leads_end memory level root id context h.1)

stops_from : (level : ℕ) (memory : List (List ℕ)) (root id : ℕ) (cause : Cause) → StopsFromLevel level memory root id cause → located_from_level level memory root id ≡ Err cause
stops_from level memory root id cause (inl h) = rw (le-ltb id (ids_below level) h.0) (ap (λ x. Err x) (sym h.1))
stops_from level memory root id cause (inr h) = rw (lt-ltb id (ids_below level) h.0) (stops_end memory level root id cause h.1)

-- the same by ddtp's mode, where that isn't Bare
abbrev pub EndsBy : DirectoryMode → List (List ℕ) → ℕ → ℕ → Result Context Cause → Type 0
EndsBy mode memory root id (Ok context) = FindsByMode mode memory root id context
EndsBy mode memory root id (Err cause) = StopsByMode mode memory root id cause

by_one : (memory : List (List ℕ)) (root id : ℕ) (r : Result Context Cause) → EndsFrom 0 memory root id r → EndsBy OneLevel memory root id r
by_one memory root id (Ok context) h = h
by_one memory root id (Err cause) h = h

by_two : (memory : List (List ℕ)) (root id : ℕ) (r : Result Context Cause) → EndsFrom 1 memory root id r → EndsBy TwoLevels memory root id r
by_two memory root id (Ok context) h = h
by_two memory root id (Err cause) h = h

by_three : (memory : List (List ℕ)) (root id : ℕ) (r : Result Context Cause) → EndsFrom 2 memory root id r → EndsBy ThreeLevels memory root id r
by_three memory root id (Ok context) h = h
by_three memory root id (Err cause) h = h

pub ends_by : (mode : DirectoryMode) (memory : List (List ℕ)) (root id : ℕ) → (mode ≡ Bare → ⊥) → EndsBy mode memory root id (located_by_mode mode memory root id)
unfolding located_by_mode
ends_by Off memory root id some = refl
ends_by Bare memory root id some = absurd (some refl)
ends_by OneLevel memory root id some = by_one memory root id (located_from_level 0 memory root id) (ends_from 0 memory root id (nat_lt id (ids_below 0)) refl)
ends_by TwoLevels memory root id some = by_two memory root id (located_from_level 1 memory root id) (ends_from 1 memory root id (nat_lt id (ids_below 1)) refl)
ends_by ThreeLevels memory root id some = by_three memory root id (located_from_level 2 memory root id) (ends_from 2 memory root id (nat_lt id (ids_below 2)) refl)

pub finds_by : (mode : DirectoryMode) (memory : List (List ℕ)) (root id : ℕ) (context : Context) → FindsByMode mode memory root id context → located_by_mode mode memory root id ≡ Ok context
unfolding located_by_mode
finds_by Off memory root id context h = absurd h
finds_by Bare memory root id context h = absurd h
finds_by OneLevel memory root id context h = finds_from 0 memory root id context h
finds_by TwoLevels memory root id context h = finds_from 1 memory root id context h
finds_by ThreeLevels memory root id context h = finds_from 2 memory root id context h

pub stops_by : (mode : DirectoryMode) (memory : List (List ℕ)) (root id : ℕ) (cause : Cause) → StopsByMode mode memory root id cause → located_by_mode mode memory root id ≡ Err cause
unfolding located_by_mode
stops_by Off memory root id cause h = ap (λ x. Err x) (sym h)
stops_by Bare memory root id cause h = absurd h
stops_by OneLevel memory root id cause h = stops_from 0 memory root id cause h
stops_by TwoLevels memory root id cause h = stops_from 1 memory root id cause h
stops_by ThreeLevels memory root id cause h = stops_from 2 memory root id cause h

-- both ways at once, for whatever was answered
module _ (mode : DirectoryMode) (memory : List (List ℕ)) (root id : ℕ) (some : mode ≡ Bare → ⊥) (result : Result Context Cause) (is : result ≡ located_by_mode mode memory root id) where
  pub located_exactly : (context : Context) → (result ≡ Ok context) ↔ FindsByMode mode memory root id context
  located_exactly context =
      (λ e. subst (EndsBy mode memory root id) (sym is ∙ e) (ends_by mode memory root id some), λ h. is ∙ finds_by mode memory root id context h)

  pub stopped_exactly : (cause : Cause) → (result ≡ Err cause) ↔ StopsByMode mode memory root id cause
  stopped_exactly cause =
      (λ e. subst (EndsBy mode memory root id) (sym is ∙ e) (ends_by mode memory root id some), λ h. is ∙ stops_by mode memory root id cause h)

-- a path has one end
module _ (mode : DirectoryMode) (memory : List (List ℕ)) (root id : ℕ) where
  pub one_context : (one other : Context) → FindsByMode mode memory root id one → FindsByMode mode memory root id other → one ≡ other
  one_context one other a b = let e : Ok one ≡ Ok other = sym (finds_by mode memory root id one a) ∙ finds_by mode memory root id other b in cc

  pub not_both : (context : Context) (cause : Cause) → FindsByMode mode memory root id context → StopsByMode mode memory root id cause → ⊥
  not_both context cause a b = let e : Ok context ≡ Err cause = sym (finds_by mode memory root id context a) ∙ stops_by mode memory root id cause b in cc

  pub one_cause : (one other : Cause) → StopsByMode mode memory root id one → StopsByMode mode memory root id other → one ≡ other
  one_cause one other a b = let e : Err one ≡ Err other = sym (stops_by mode memory root id one a) ∙ stops_by mode memory root id other b in cc

-- an id that is too wide for the directory has no context there
pub located-too_wide : (mode : DirectoryMode) (memory : List (List ℕ)) (root id : ℕ) → fits_directory mode id ≡ false → located_by_mode mode memory root id ≡ Err TransactionTypeDisallowed
unfolding located_by_mode
located-too_wide Off memory root id wide = absurd cc
located-too_wide Bare memory root id wide = absurd cc
located-too_wide OneLevel memory root id wide = rw wide refl
located-too_wide TwoLevels memory root id wide = rw wide refl
located-too_wide ThreeLevels memory root id wide = rw wide refl

-- Two memories that are alike on the words that a path loads: the path ends in both in the same way.
use Rattle.std.proofs.Common.{◌≡◌, ◌/◌, ◌+◌, ◌∙◌, ℕ, zero, suc, Bool, true, false, nat_lt, List, [], ◌∷◌, slice_get, Result, Ok, Err, refl, sym, ap, subst, if◌then◌else◌}
use Rattle.std.specs.Prelude.{◌↔◌}
use Rattle.std.specs.List.{All}
use Rattle.std.proofs.lemmas.List.Elements.{All-head, All-tail, All-weaker}
use Rattle.iom_base.specs.declared.cause.Cause.{Cause}
use Rattle.iom_base.specs.declared.cause.Cause.TheVariants.{TransactionTypeDisallowed}
use Rattle.iom_phys_mem.specs.Words.{word_at}
use Rattle.iom_registers.specs.declared.directory.DirectoryMode.{DirectoryMode}
use Rattle.iom_registers.specs.declared.directory.DirectoryMode.TheVariants.{Off, Bare, OneLevel, TwoLevels, ThreeLevels}
use Rattle.iom_device_dir.specs.declared.context.Context.{Context}
use Rattle.iom_device_dir.specs.declared.entry.NonLeafEntry.{NonLeafEntry}
use Rattle.iom_device_dir.specs.Paths.{ddi, entry_place, context_place, four_context_words, context_words_at, ids_below, FindsByMode, StopsByMode}
use Rattle.iom_device_dir.specs.Located.{loaded_entry, loaded_context, follow_entry, path_end_from, located_by_mode}
use Rattle.iom_device_dir.specs.Laws.{context_loads, loads_after_entry, path_loads_from, path_loads_by_mode}
use Rattle.iom_device_dir.proofs.Ends.{EndsBy, ends_by, finds_by, stops_by}

module _ (old new : List (List ℕ)) where
  -- the word at an address is the same in both
  abbrev pub Same : ℕ → Type 0
  Same a = word_at 8 new a ≡ word_at 8 old a

  same_words : (a : ℕ) → All Same (context_loads a) → context_words_at new a ≡ context_words_at old a
  unfolding context_words_at
  same_words a all =
      let first = All-head Same a ((a + 8) ∷ (a + 16) ∷ (a + 24) ∷ []) all in
      let after = All-tail Same a ((a + 8) ∷ (a + 16) ∷ (a + 24) ∷ []) all in
      let second = All-head Same (a + 8) ((a + 16) ∷ (a + 24) ∷ []) after in
      let after' = All-tail Same (a + 8) ((a + 16) ∷ (a + 24) ∷ []) after in
      let third = All-head Same (a + 16) ((a + 24) ∷ []) after' in
      let after'' = All-tail Same (a + 16) ((a + 24) ∷ []) after' in
      let fourth = All-head Same (a + 24) [] after'' in
      ap (λ x. four_context_words x (word_at 8 new (a + 8)) (word_at 8 new (a + 16)) (word_at 8 new (a + 24))) first
      ∙ ap (λ x. four_context_words (word_at 8 old a) x (word_at 8 new (a + 16)) (word_at 8 new (a + 24))) second
      ∙ ap (λ x. four_context_words (word_at 8 old a) (word_at 8 old (a + 8)) x (word_at 8 new (a + 24))) third
      ∙ ap (λ x. four_context_words (word_at 8 old a) (word_at 8 old (a + 8)) (word_at 8 old (a + 16)) x) fourth

  same_after : (level id : ℕ) (r : Result NonLeafEntry Cause) → All Same (loads_after_entry r (λ next. path_loads_from old level next id))
      → ((next : ℕ) → All Same (path_loads_from old level next id) → path_end_from new level next id ≡ path_end_from old level next id)
      → follow_entry r (λ next. path_end_from new level next id) ≡ follow_entry r (λ next. path_end_from old level next id)
  same_after level id (Ok entry) all go = go entry.next.number all
  same_after level id (Err cause) all go = refl

  same_end : (level page id : ℕ) → All Same (path_loads_from old level page id) → path_end_from new level page id ≡ path_end_from old level page id
  same_end zero page id all = ap loaded_context (same_words (context_place page (ddi 0 id)) all)
  same_end (suc level) page id all =
      let place = entry_place page (ddi (suc level) id) in
      let rest = loads_after_entry (loaded_entry (word_at 8 old place)) (λ next. path_loads_from old level next id) in
      ap (λ o. follow_entry (loaded_entry o) (λ next. path_end_from new level next id)) (All-head Same place rest all)
      ∙ same_after level id (loaded_entry (word_at 8 old place)) (All-tail Same place rest all) (λ next h. same_end level next id h)

  same_within : (level root id : ℕ) (b : Bool) → All Same (if b then path_loads_from old level root id else [])
      → (if b then path_end_from new level root id else Err TransactionTypeDisallowed) ≡ (if b then path_end_from old level root id else Err TransactionTypeDisallowed)
  same_within level root id true all = same_end level root id all
  same_within level root id false all = refl

  pub same_located : (mode : DirectoryMode) (root id : ℕ) → All Same (path_loads_by_mode mode old root id) → located_by_mode mode new root id ≡ located_by_mode mode old root id
  unfolding located_by_mode
  same_located Off root id all = refl
  same_located Bare root id all = refl
  same_located OneLevel root id all = same_within 0 root id (nat_lt id (ids_below 0)) all
  same_located TwoLevels root id all = same_within 1 root id (nat_lt id (ids_below 1)) all
  same_located ThreeLevels root id all = same_within 2 root id (nat_lt id (ids_below 2)) all

-- what is located tells the end, whatever the mode: where it is Bare there is none
not_bare : (mode : DirectoryMode) (memory : List (List ℕ)) (root id : ℕ) (context : Context) → FindsByMode mode memory root id context → mode ≡ Bare → ⊥
not_bare mode memory root id context h e = subst (λ m. FindsByMode m memory root id context) e h

not_bare_stop : (mode : DirectoryMode) (memory : List (List ℕ)) (root id : ℕ) (cause : Cause) → StopsByMode mode memory root id cause → mode ≡ Bare → ⊥
not_bare_stop mode memory root id cause h e = subst (λ m. StopsByMode m memory root id cause) e h

pub finds_too : (mode : DirectoryMode) (one other : List (List ℕ)) (root id : ℕ) → located_by_mode mode other root id ≡ located_by_mode mode one root id
    → (context : Context) → FindsByMode mode one root id context → FindsByMode mode other root id context
finds_too mode one other root id same context h =
    subst (EndsBy mode other root id) (same ∙ finds_by mode one root id context h) (ends_by mode other root id (not_bare mode one root id context h))

pub stops_too : (mode : DirectoryMode) (one other : List (List ℕ)) (root id : ℕ) → located_by_mode mode other root id ≡ located_by_mode mode one root id
    → (cause : Cause) → StopsByMode mode one root id cause → StopsByMode mode other root id cause
stops_too mode one other root id same cause h =
    subst (EndsBy mode other root id) (same ∙ stops_by mode one root id cause h) (ends_by mode other root id (not_bare_stop mode one root id cause h))

-- a word is read from its frame alone
same_word : (old new : List (List ℕ)) (a : ℕ) → slice_get new (a / 4096) ≡ slice_get old (a / 4096) → word_at 8 new a ≡ word_at 8 old a
same_word old new a same = rw same refl

pub same_frames : (old new : List (List ℕ)) (places : List ℕ) → All (λ a. slice_get new (a / 4096) ≡ slice_get old (a / 4096)) places → All (λ a. word_at 8 new a ≡ word_at 8 old a) places
same_frames old new places all =
    All-weaker (λ a. slice_get new (a / 4096) ≡ slice_get old (a / 4096)) (λ a. word_at 8 new a ≡ word_at 8 old a) (λ a same. same_word old new a same) places all

-- so the path has the same end in both
pub ends_alike : (mode : DirectoryMode) (old new : List (List ℕ)) (root id : ℕ) → located_by_mode mode new root id ≡ located_by_mode mode old root id
    → ((context : Context) → FindsByMode mode old root id context ↔ FindsByMode mode new root id context)
    × ((cause : Cause) → StopsByMode mode old root id cause ↔ StopsByMode mode new root id cause)
ends_alike mode old new root id same = (
  λ context. (finds_too mode old new root id same context, finds_too mode new old root id (sym same) context),
  λ cause. (stops_too mode old new root id same cause, stops_too mode new old root id (sym same) cause),
)

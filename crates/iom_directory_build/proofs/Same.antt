-- Memories that have the same words in the entries of a directory: it has the same pages.
use Rattle.std.proofs.Common.{zero, suc, ◌≡◌, ◌<◌, ◌≤◌, ◌∙◌, ℕ, List, length, Option, Some, None, Result, Ok, Err, refl, sym, ap, arith}
use Rattle.std.specs.Prelude.{◌↔◌}
use Rattle.std.specs.Option.{option_and_then}
use Rattle.iom_base.specs.declared.cause.Cause.{Cause}
use Rattle.iom_phys_mem.specs.Words.{word_at}
use Rattle.iom_device_dir.specs.declared.entry.NonLeafEntry.{NonLeafEntry}
use Rattle.iom_device_dir.specs.Paths.{ddi, entry_place, context_place, context_words_at, ids_below}
use Rattle.iom_device_dir.specs.Located.{loaded_entry, loaded_context, follow_entry, path_end_from}
use Rattle.iom_directory_build.specs.Changes.{KeepsPages}
use Rattle.iom_directory_build.specs.Pages.{page_named, next_page, page_at, HasPage, IsDirectory, EndsLawfully}
use Rattle.iom_directory_build.proofs.Paths.{to_level, at_root, one_down, goes_down, level_within}

module _ (old new : List (List ℕ)) (top root : ℕ) where
  -- the id's entry in each page above the lowest is the same word
  abbrev pub SameEntriesOf : ℕ → Type 0
  SameEntriesOf id = (level h : ℕ) → level < top → page_at old top root (suc level) id ≡ Some h
      → word_at 8 new (entry_place h (ddi (suc level) id)) ≡ word_at 8 old (entry_place h (ddi (suc level) id))

  abbrev pub SameEntries : Type 0
  SameEntries = (id : ℕ) → id < ids_below top → SameEntriesOf id

  -- and its context the same words
  abbrev pub SameContextOf : ℕ → Type 0
  SameContextOf id = (h : ℕ) → page_at old top root 0 id ≡ Some h → context_words_at new (context_place h (ddi 0 id)) ≡ context_words_at old (context_place h (ddi 0 id))

  same_step : (id level : ℕ) → level < top → SameEntriesOf id → (o : Option ℕ) → page_at old top root (suc level) id ≡ o
      → option_and_then (λ q. next_page new q (suc level) id) o ≡ option_and_then (λ q. next_page old q (suc level) id) o
  same_step id level lt same (Some h) at = ap (λ o. page_named (loaded_entry o)) (same level h lt at)
  same_step id level lt same None at = refl

  pub same_page : (id : ℕ) → SameEntriesOf id → (level : ℕ) → level ≤ top → page_at new top root level id ≡ page_at old top root level id
  same_page id same =
      to_level (λ level. page_at new top root level id ≡ page_at old top root level id) top
      (at_root new top root id ∙ sym (at_root old top root id))
      (λ level lt above.
      one_down new top root level id lt
      ∙ ap (option_and_then (λ q. next_page new q (suc level) id)) above
      ∙ same_step id level lt same (page_at old top root (suc level) id) refl
      ∙ sym (one_down old top root level id lt))

  pub same_pages : SameEntries → (f : ℕ) → HasPage new top root f ↔ HasPage old top root f
  same_pages same f = (
    λ h. (h.0, h.1, h.2, h.3, sym (same_page h.1 (same h.1 h.3) h.0 h.2) ∙ h.4),
    λ h. (h.0, h.1, h.2, h.3, same_page h.1 (same h.1 h.3) h.0 h.2 ∙ h.4),
  )

  pub pages_kept : SameEntries → KeepsPages old new top root
  pages_kept same level id f in_range at = same_page id (same id in_range) level (level_within old top root level id f at) ∙ at

  was_at : SameEntries → (level id f : ℕ) → id < ids_below top → page_at new top root level id ≡ Some f → page_at old top root level id ≡ Some f
  was_at same level id f in_range at = sym (same_page id (same id in_range) level (level_within new top root level id f at)) ∙ at

  -- it stays a directory while its paths end lawfully
  pub same_directory : IsDirectory old top root → SameEntries → length new ≡ length old → ((id : ℕ) → id < ids_below top → EndsLawfully (path_end_from new top root id)) → IsDirectory new top root
  same_directory d same size lawful =
      record {
        inside = λ f h. let lt = d.inside f ((same_pages same f).0 h) in omega (arith, lt, size);
        apart = λ level lower id other f in_range other_in_range at at_other.
            d.apart level lower id other f in_range other_in_range (was_at same level id f in_range at) (was_at same lower other f other_in_range at_other);
        lawful = lawful;
      }

  pub same_after : (id t : ℕ) (r : Result NonLeafEntry Cause) → ((next : ℕ) → page_named r ≡ Some next → path_end_from new t next id ≡ path_end_from old t next id)
      → follow_entry r (λ next. path_end_from new t next id) ≡ follow_entry r (λ next. path_end_from old t next id)
  same_after id t (Ok entry) go = go entry.next.number refl
  same_after id t (Err cause) go = refl

  same_end_below : (id : ℕ) → SameEntriesOf id → SameContextOf id → (t : ℕ) → t ≤ top → (p : ℕ) → page_at old top root t id ≡ Some p → path_end_from new t p id ≡ path_end_from old t p id
  same_end_below id same context zero le p at = ap loaded_context (context p at)
  same_end_below id same context (suc t) le p at =
      ap (λ o. follow_entry (loaded_entry o) (λ next. path_end_from new t next id)) (same t p (omega (arith, le)) at)
      ∙ same_after id t (loaded_entry (word_at 8 old (entry_place p (ddi (suc t) id))))
      (λ next named. same_end_below id same context t (omega (arith, le)) next (goes_down old top root t id p next (omega (arith, le)) at named))

  -- a path whose words are the same ends as it did
  pub same_end : (id : ℕ) → SameEntriesOf id → SameContextOf id → path_end_from new top root id ≡ path_end_from old top root id
  same_end id same context = same_end_below id same context top (omega arith) root (at_root old top root id)

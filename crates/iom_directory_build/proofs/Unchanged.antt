-- What changes no page of a directory leaves it.
use Rattle.std.proofs.Common.{zero, suc, ◌≡◌, ◌+◌, ◌/◌, ◌<◌, ◌≤◌, ◌∙◌, ℕ, List, Option, Some, None, is_some, slice_get, refl, sym, ap, subst, arith}
use Rattle.iom_phys_mem.specs.Words.{word_at}
use Rattle.iom_device_dir.specs.Paths.{ddi, entry_place, context_place, ids_below}
use Rattle.iom_device_dir.specs.Located.{loaded_entry}
use Rattle.iom_directory_build.specs.Pages.{page_named, next_page, page_at, HasPage, missing_below, missing_pages, EndsLawfully}
use Rattle.iom_directory_build.proofs.Paths.{at_root, goes_down}
use Rattle.iom_directory_build.proofs.Prefixes.{index_fits, context_index_fits}
use Rattle.iom_directory_build.proofs.Same.{SameEntries, SameContextOf, same_page, same_pages, pages_kept, same_directory, same_end}
use Rattle.iom_directory_build.proofs.Words.{word_stays, words_stay}
use Rattle.iom_directory_build.specs.Laws.{DirectoryStays}

module _ (old new : List (List ℕ)) (top root : ℕ) (same : (f : ℕ) → HasPage old top root f → slice_get new f ≡ slice_get old f) where
  word_of_page : (a f : ℕ) → a / 4096 ≡ f → HasPage old top root f → word_at 8 new a ≡ word_at 8 old a
  word_of_page a f e has = word_stays old new a (subst (λ n. slice_get new n ≡ slice_get old n) (sym e) (same f has))

  entries_stay : SameEntries old new top root
  entries_stay id in_range level h lt at =
      let fits = index_fits (suc level) id in
      word_of_page (entry_place h (ddi (suc level) id)) h (omega (arith, fits)) (suc level, id, omega (arith, lt), in_range, at)

  context_stays : (id : ℕ) → id < ids_below top → SameContextOf old new top root id
  context_stays id in_range h at =
      let fits = context_index_fits id in
      let has : HasPage old top root h = (0, id, omega arith, in_range, at) in
      let place = context_place h (ddi 0 id) in
      words_stay old new place (word_of_page place h (omega (arith, fits)) has) (word_of_page (place + 8) h (omega (arith, fits)) has)
      (word_of_page (place + 16) h (omega (arith, fits)) has) (word_of_page (place + 24) h (omega (arith, fits)) has)

  missing_after : (id level : ℕ) (o : Option ℕ) → ((n : ℕ) → o ≡ Some n → missing_pages new level n id ≡ missing_pages old level n id)
      → missing_below o (suc level) (λ n. missing_pages new level n id) ≡ missing_below o (suc level) (λ n. missing_pages old level n id)
  missing_after id level None below = refl
  missing_after id level (Some n) below = below n refl

  missing_from : (id : ℕ) → id < ids_below top → (level page : ℕ) → level ≤ top → page_at old top root level id ≡ Some page → missing_pages new level page id ≡ missing_pages old level page id
  missing_from id in_range zero page le at = refl
  missing_from id in_range (suc level) page le at =
      ap (λ o. missing_below o (suc level) (λ n. missing_pages new level n id)) (ap (λ o. page_named (loaded_entry o)) (entries_stay id in_range level page (omega (arith, le)) at))
      ∙ missing_after id level (next_page old page (suc level) id) (λ n named. missing_from id in_range level n (omega (arith, le)) (goes_down old top root level id page n (omega (arith, le)) at named))

  -- a path lacks as many pages as it did
  pub missing_stays : (id : ℕ) → id < ids_below top → missing_pages new top root id ≡ missing_pages old top root id
  missing_stays id in_range = missing_from id in_range top root (omega arith) (at_root old top root id)

pub unchanged : DirectoryStays
unchanged =
    λ old new top root low d size same.
    let entries = entries_stay old new top root same in
    let ends = λ (id : ℕ) (in_range : id < ids_below top). same_end old new top root id (entries id in_range) (context_stays old new top root same id in_range) in
    record {
      directory = same_directory old new top root d entries size (λ id in_range. subst EndsLawfully (sym (ends id in_range)) (d.lawful id in_range));
      pages = same_pages old new top root entries;
      ends = ends;
      paths = λ id in_range path. ap is_some (same_page old new top root id (entries id in_range) 0 (omega arith)) ∙ path;
      keeps = pages_kept old new top root entries;
    }

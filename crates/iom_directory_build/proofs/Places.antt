-- A context's place in a directory is written: it is found there, and all else is as it was.
use Rattle.std.proofs.Common.{zero, suc, ◌≡◌, ◌≢◌, ◌+◌, ◌/◌, ◌<◌, ◌∙◌, inl, inr, ℕ, List, length, Option, Some, None, is_some, Result, Err, refl, sym, ap, subst, arith}
use Rattle.std.specs.Prelude.{◌↔◌}
use Rattle.std.specs.Option.{option_and_then}
use Rattle.std.proofs.lemmas.Bool.Decides.{eqb_tells}
use Rattle.iom_base.specs.declared.cause.Cause.{Cause}
use Rattle.iom_base.specs.declared.cause.Cause.TheVariants.{DirectoryEntryNotValid}
use Rattle.iom_phys_mem.specs.Words.{word_at}
use Rattle.iom_device_dir.specs.declared.context.Context.{Context}
use Rattle.iom_device_dir.specs.Paths.{ddi, entry_place, context_place, ids_below}
use Rattle.iom_device_dir.specs.Located.{loaded_entry, path_end_from}
use Rattle.iom_directory_build.specs.Pages.{next_page, page_at, HasPage, HasWholePath, IsDirectory, EndsLawfully}
use Rattle.iom_directory_build.specs.Changes.{WritesPlace, KeepsOthers, KeepsPages, KeepsOutsideDirectory}
use Rattle.iom_directory_build.proofs.Paths.{past_root, end_past, stops_lawfully, same_end_from}
use Rattle.iom_directory_build.proofs.Prefixes.{index_fits, context_index_fits, same_id}
use Rattle.iom_directory_build.proofs.Same.{SameEntries, SameContextOf, same_page, same_pages, pages_kept, same_directory, same_end}
use Rattle.iom_directory_build.proofs.Words.{words_stay}

-- all that a write of the id's place leaves and changes
pub record Writes (old new : List (List ℕ)) (top root id : ℕ) (found : Result Context Cause) : Type 0 where
  pub directory : IsDirectory new top root
  pub pages : (f : ℕ) → HasPage new top root f ↔ HasPage old top root f
  pub here : path_end_from new top root id ≡ found
  pub others : KeepsOthers old new top root id
  pub outside : KeepsOutsideDirectory old new top root
  pub size : length new ≡ length old
  pub paths : (other : ℕ) → other < ids_below top → HasWholePath old top root other → HasWholePath new top root other
  pub keeps : KeepsPages old new top root

module _ (old new : List (List ℕ)) (top root page id : ℕ) (found : Result Context Cause) (d : IsDirectory old top root) (in_range : id < ids_below top) (at : page_at old top root 0 id ≡ Some page) (w : WritesPlace old new page id found) where
  -- an entry stands in another page
  entries_stay : SameEntries old new top root
  entries_stay other other_in_range level h lt at_other =
      let fits = index_fits (suc level) other in
      let low = context_index_fits id in
      w.elsewhere (entry_place h (ddi (suc level) other))
      (λ e.
      let same : h ≡ page = omega (arith, e, fits, low) in
      let level_is = (d.apart (suc level) 0 other id page other_in_range in_range (subst (λ n. page_at old top root (suc level) other ≡ Some n) same at_other) at).0 in
      omega (arith, level_is))

  -- another id's context at another place
  other_place : (other h : ℕ) → other < ids_below top → other ≢ id → page_at old top root 0 other ≡ Some h → context_place h (ddi 0 other) / 32 ≢ context_place page (ddi 0 id) / 32
  other_place other h other_in_range ne at_other e =
      let fits = context_index_fits other in
      let low = context_index_fits id in
      let same : h ≡ page = omega (arith, e, fits, low) in
      let index : ddi 0 other ≡ ddi 0 id = omega (arith, e, fits, low) in
      ne (same_id other id (d.apart 0 0 other id page other_in_range in_range (subst (λ n. page_at old top root 0 other ≡ Some n) same at_other) at).1 index)

  contexts_stay : (other : ℕ) → other < ids_below top → other ≢ id → SameContextOf old new top root other
  contexts_stay other other_in_range ne h at_other =
      let apart = other_place other h other_in_range ne at_other in
      let place = context_place h (ddi 0 other) in
      words_stay old new place (w.elsewhere place apart) (w.elsewhere (place + 8) (λ e. apart (omega (arith, e))))
      (w.elsewhere (place + 16) (λ e. apart (omega (arith, e)))) (w.elsewhere (place + 24) (λ e. apart (omega (arith, e))))

  others_stay : KeepsOthers old new top root id
  others_stay other other_in_range ne = same_end old new top root other (entries_stay other other_in_range) (contexts_stay other other_in_range ne)

  found_here : path_end_from new top root id ≡ found
  found_here = same_end_from new top root id 0 (omega arith) page (same_page old new top root id (entries_stay id in_range) 0 (omega arith) ∙ at) ∙ w.here

  ends_lawfully : EndsLawfully found → (other : ℕ) → other < ids_below top → EndsLawfully (path_end_from new top root other)
  ends_lawfully lawful other other_in_range =
      elim (eqb_tells other id) [
        | inl e ↦ subst (λ n. EndsLawfully (path_end_from new top root n)) (sym e.1) (subst EndsLawfully (sym found_here) lawful)
        | inr ne ↦ subst EndsLawfully (sym (others_stay other other_in_range ne.1)) (d.lawful other other_in_range)
      ]

  pub writes : EndsLawfully found → Writes old new top root id found
  writes lawful =
      let pages = same_pages old new top root entries_stay in
      record {
        directory = same_directory old new top root d entries_stay w.size (ends_lawfully lawful);
        pages = pages;
        here = found_here;
        others = others_stay;
        outside = λ f out. w.frames f (λ e. out ((pages f).1 (0, id, omega arith, in_range, at ∙ ap (λ n. Some n) (sym e))));
        size = w.size;
        paths = λ other other_in_range path. ap is_some (same_page old new top root other (entries_stay other other_in_range) 0 (omega arith)) ∙ path;
        keeps = pages_kept old new top root entries_stay;
      }

none_below : (m : List (List ℕ)) (top page id : ℕ) (o : Option ℕ) → next_page m page (suc top) id ≡ o → option_and_then (λ next. page_at m top next 0 id) o ≡ None → EndsLawfully (path_end_from m (suc top) page id)
    → ((next : ℕ) → page_at m top next 0 id ≡ None → EndsLawfully (path_end_from m top next id) → path_end_from m top next id ≡ Err DirectoryEntryNotValid)
    → path_end_from m (suc top) page id ≡ Err DirectoryEntryNotValid
none_below m top page id (Some next) named none lawful go =
    let past = end_past m page top id next named in past ∙ go next none (subst EndsLawfully past lawful)
none_below m top page id None named none lawful go =
    stops_lawfully m (loaded_entry (word_at 8 m (entry_place page (ddi (suc top) id)))) (λ next. path_end_from m top next id) named lawful

-- a path with no page of contexts finds none
pub no_page_of_contexts : (m : List (List ℕ)) (top page id : ℕ) → page_at m top page 0 id ≡ None → EndsLawfully (path_end_from m top page id) → path_end_from m top page id ≡ Err DirectoryEntryNotValid
no_page_of_contexts m zero page id none lawful = let no : ⊥ = cc in absurd no
no_page_of_contexts m (suc top) page id none lawful =
    none_below m top page id (next_page m page (suc top) id) refl (sym (past_root m top page 0 id (omega arith)) ∙ none) lawful
    (λ next none_next lawful_next. no_page_of_contexts m top next id none_next lawful_next)

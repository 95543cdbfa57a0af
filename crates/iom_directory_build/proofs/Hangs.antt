-- A zeroed page is hung in a directory, where an entry led nowhere: it is a page more, and each path ends as it did.
use Rattle.std.proofs.Common.{zero, suc, ◌≡◌, ◌≢◌, ◌⊎◌, ◌+◌, ◌/◌, ◌^◌, ◌<◌, ◌≤◌, ◌∙◌, inl, inr, ℕ, List, length, slice_get, Some, None, refl, sym, ap, subst, arith}
use Rattle.std.specs.Prelude.{◌↔◌}
use Rattle.std.proofs.lemmas.Bool.Decides.{eqb_tells}
use Rattle.iom_phys_mem.specs.Words.{word_at, zeroed}
use Rattle.iom_device_dir.specs.Paths.{ddi, entry_place, context_place, ids_below}
use Rattle.iom_device_dir.specs.Located.{loaded_entry, loaded_context, follow_entry, path_end_from}
use Rattle.iom_directory_build.specs.Pages.{page_named, next_page, page_at, HasPage, IsDirectory, IsSamePrefix, EndsLawfully}
use Rattle.iom_directory_build.specs.Written.{entry_word}
use Rattle.iom_directory_build.specs.Changes.{StoresOneWord, KeepsOutsideDirectory}
use Rattle.iom_directory_build.proofs.Paths.{to_level, at_root, goes_down, comes_from, level_within, same_entry, same_page_at, same_some, end_past, stops_lawfully, same_end_from}
use Rattle.iom_directory_build.proofs.Prefixes.{index_fits, context_index_fits, same_above, same_index, same_below}
use Rattle.iom_directory_build.proofs.Same.{same_after}
use Rattle.iom_directory_build.proofs.Words.{frame_inside, words_stay, zero_next, zero_end, entry_found}

-- the page is hung below the id's entry in a page of the level above
pub record Hangs (old new : List (List ℕ)) (top root level id page next : ℕ) : Type 0 where
  pub low : top ≤ 2
  pub directory : IsDirectory old top root
  pub below : level < top
  pub in_range : id < ids_below top
  pub at : page_at old top root (suc level) id ≡ Some page
  pub nowhere : next_page old page (suc level) id ≡ None
  pub stores : StoresOneWord old new (entry_place page (ddi (suc level) id)) (entry_word next)
  pub zero : slice_get old next ≡ Some zeroed
  pub outside : HasPage old top root next → ⊥
  pub small : next < 2 ^ 44

module _ (old new : List (List ℕ)) (top root level id page next : ℕ) (h : Hangs old new top root level id page next) where
  -- the place in the directory that the new page takes
  abbrev IsHere : ℕ → ℕ → Type 0
  IsHere lower other = (lower ≡ level) × IsSamePrefix level other id

  decide : (lower other : ℕ) → IsHere lower other ⊎ (IsHere lower other → ⊥)
  decide lower other =
      elim (eqb_tells lower level) [
        | inl e ↦ elim (eqb_tells (other / ids_below level) (id / ids_below level)) [ inl s ↦ inl (e.1, s.1) | inr n ↦ inr (λ x. n.1 x.1) ]
        | inr n ↦ inr (λ x. n.1 x.0)
      ]

  has_page : HasPage old top root page
  has_page = let lt = h.below in (suc level, id, omega (arith, lt), h.in_range, h.at)

  new_page_apart : next ≢ page
  new_page_apart e = h.outside (subst (λ n. HasPage old top root n) (sym e) has_page)

  new_zero : slice_get new next ≡ Some zeroed
  new_zero = let fits = index_fits (suc level) id in h.stores.frames next (λ e. new_page_apart (omega (arith, e, fits))) ∙ h.zero

  linked : next_page new page (suc level) id ≡ Some next
  linked = ap (λ o. page_named (loaded_entry o)) h.stores.here ∙ entry_found next h.small

  -- the page above it, by any id that leads there
  page_above : (other f : ℕ) → IsSamePrefix level other id → page_at old top root (suc level) other ≡ Some f → f ≡ page
  page_above other f same at =
      let lt = h.below in
      let low = h.low in
      let up = same_page_at old top root other id h.low (suc level) (omega (arith, lt)) (same_above level other id (omega (arith, lt, low)) same) in
      same_some f page (sym at ∙ up ∙ h.at)

  above_at : (other : ℕ) → IsSamePrefix level other id → page_at old top root (suc level) other ≡ Some page
  above_at other same =
      let lt = h.below in
      let low = h.low in
      same_page_at old top root other id h.low (suc level) (omega (arith, lt)) (same_above level other id (omega (arith, lt, low)) same) ∙ h.at

  index_there : (other : ℕ) → IsSamePrefix level other id → ddi (suc level) other ≡ ddi (suc level) id
  index_there other same = let lt = h.below in let low = h.low in same_index level other id (omega (arith, lt, low)) same

  -- every other entry is as it was
  entry_stays : (lower other f : ℕ) → lower < top → other < ids_below top → page_at old top root (suc lower) other ≡ Some f → (IsHere lower other → ⊥)
      → word_at 8 new (entry_place f (ddi (suc lower) other)) ≡ word_at 8 old (entry_place f (ddi (suc lower) other))
  entry_stays lower other f lt other_in_range at elsewhere =
      h.stores.elsewhere (entry_place f (ddi (suc lower) other))
      (λ e.
      let fits = index_fits (suc lower) other in
      let here_fits = index_fits (suc level) id in
      let same : f ≡ page = omega (arith, e, fits, here_fits) in
      let index : ddi (suc lower) other ≡ ddi (suc level) id = omega (arith, e, fits, here_fits) in
      let apart = h.directory.apart (suc lower) (suc level) other id page other_in_range h.in_range (subst (λ n. page_at old top root (suc lower) other ≡ Some n) same at) h.at in
      let upper = apart.0 in
      let level_is : lower ≡ level = omega (arith, upper) in
      let lt_here = h.below in
      let low = h.low in
      elsewhere (level_is, same_below level other id (omega (arith, lt_here, low)) (subst (λ l. IsSamePrefix l other id) upper apart.1) (subst (λ l. ddi (suc l) other ≡ ddi (suc level) id) level_is index)))

  next_stays : (lower other f : ℕ) → lower < top → other < ids_below top → page_at old top root (suc lower) other ≡ Some f → (IsHere lower other → ⊥)
      → next_page new f (suc lower) other ≡ next_page old f (suc lower) other
  next_stays lower other f lt other_in_range at elsewhere = ap (λ o. page_named (loaded_entry o)) (entry_stays lower other f lt other_in_range at elsewhere)

  -- the pages afterwards: the ones before, and the new one at its place
  abbrev WasOrIs : ℕ → ℕ → ℕ → Type 0
  WasOrIs lower other f = (page_at old top root lower other ≡ Some f) ⊎ (IsHere lower other × (f ≡ next))

  abbrev Pages : ℕ → ℕ → Type 0
  Pages other lower = (f : ℕ) → (page_at new top root lower other ≡ Some f → WasOrIs lower other f) × (WasOrIs lower other f → page_at new top root lower other ≡ Some f)

  -- below a page that was there
  was_below : (other : ℕ) → other < ids_below top → (lower : ℕ) → lower < top → (above f : ℕ) → page_at old top root (suc lower) other ≡ Some above
      → next_page new above (suc lower) other ≡ Some f → WasOrIs lower other f
  was_below other other_in_range lower lt above f at named =
      elim (decide lower other) [
        | inl here ↦
            let at_level = subst (λ l. page_at old top root (suc l) other ≡ Some above) here.0 at in
            let is_page = page_above other above here.1 at_level in
            let to_next : next_page new above (suc lower) other ≡ Some next =
            subst (λ l. next_page new above (suc l) other ≡ Some next) (sym here.0)
            (subst (λ p. next_page new p (suc level) other ≡ Some next) (sym is_page) (same_entry new page (suc level) other id (index_there other here.1) ∙ linked)) in
            inr (here, same_some f next (sym named ∙ to_next))
        | inr elsewhere ↦ inl (goes_down old top root lower other above f lt at (sym (next_stays lower other above lt other_in_range at elsewhere) ∙ named))
      ]

  stays_below : (other : ℕ) → other < ids_below top → (lower : ℕ) → lower < top → (above f : ℕ) → page_at old top root (suc lower) other ≡ Some above → page_at new top root (suc lower) other ≡ Some above
      → next_page old above (suc lower) other ≡ Some f → page_at new top root lower other ≡ Some f
  stays_below other other_in_range lower lt above f at at_new named =
      elim (decide lower other) [
        | inl here ↦
            let at_level = subst (λ l. page_at old top root (suc l) other ≡ Some above) here.0 at in
            let is_page = page_above other above here.1 at_level in
            let none : next_page old above (suc lower) other ≡ None =
            subst (λ l. next_page old above (suc l) other ≡ None) (sym here.0)
            (subst (λ p. next_page old p (suc level) other ≡ None) (sym is_page) (same_entry old page (suc level) other id (index_there other here.1) ∙ h.nowhere)) in
            let no : ⊥ = cc in absurd no
        | inr elsewhere ↦ goes_down new top root lower other above f lt at_new (next_stays lower other above lt other_in_range at elsewhere ∙ named)
      ]

  not_below_new : (other lower f : ℕ) → next_page new next (suc lower) other ≡ Some f → ⊥
  not_below_new other lower f named = let none = zero_next new next (suc lower) other new_zero in let no : ⊥ = cc in no

  pages_step : (other : ℕ) → other < ids_below top → (lower : ℕ) → lower < top → Pages other (suc lower) → Pages other lower
  pages_step other other_in_range lower lt above f = (
    λ at.
        let from = comes_from new top root lower other f lt at in
        elim ((above from.0).0 from.1) [
          | inl was ↦ was_below other other_in_range lower lt from.0 f was from.2
          | inr is ↦ absurd (not_below_new other lower f (subst (λ p. next_page new p (suc lower) other ≡ Some f) is.1 from.2))
        ],
    λ was_or_is. elim was_or_is [
      | inl was ↦
          let from = comes_from old top root lower other f lt was in
          stays_below other other_in_range lower lt from.0 f from.1 ((above from.0).1 (inl from.1)) from.2
      | inr is ↦
          let here = is.0 in
          let upper = subst (λ l. page_at old top root (suc l) other ≡ Some page) (sym here.0) (above_at other here.1) in
          let to_next : next_page new page (suc lower) other ≡ Some next =
          subst (λ l. next_page new page (suc l) other ≡ Some next) (sym here.0) (same_entry new page (suc level) other id (index_there other here.1) ∙ linked) in
          goes_down new top root lower other page next lt ((above page).1 (inl upper)) to_next ∙ ap (λ n. Some n) (sym is.1)
    ],
  )

  pages_at_root : (other : ℕ) → Pages other top
  pages_at_root other f = (
    λ at. inl (at_root old top root other ∙ sym (at_root new top root other) ∙ at),
    λ was_or_is. elim was_or_is [
      | inl was ↦ at_root new top root other ∙ sym (at_root old top root other) ∙ was
      | inr is ↦ absurd (let level_is = is.0.0 in let lt = h.below in omega (arith, level_is, lt))
    ],
  )

  pub pages_after : (other : ℕ) → other < ids_below top → (lower : ℕ) → lower ≤ top → Pages other lower
  pages_after other other_in_range = to_level (Pages other) top (pages_at_root other) (pages_step other other_in_range)

  -- the new page's own place
  pub new_page_at : page_at new top root level id ≡ Some next
  new_page_at = (pages_after id h.in_range level (let lt = h.below in omega (arith, lt)) next).1 (inr ((refl, refl), refl))

  pub pages_hung : (f : ℕ) → HasPage new top root f ↔ (HasPage old top root f ⊎ (f ≡ next))
  pages_hung f = (
    λ has. elim ((pages_after has.1 has.3 has.0 has.2 f).0 has.4) [ inl was ↦ inl (has.0, has.1, has.2, has.3, was) | inr is ↦ inr is.1 ],
    λ either. elim either [
      | inl has ↦ (has.0, has.1, has.2, has.3, (pages_after has.1 has.3 has.0 has.2 f).1 (inl has.4))
      | inr is ↦ (level, id, (let lt = h.below in omega (arith, lt)), h.in_range, new_page_at ∙ ap (λ n. Some n) (sym is))
    ],
  )

  was_or_is_at : (lower other f : ℕ) → other < ids_below top → page_at new top root lower other ≡ Some f → WasOrIs lower other f
  was_or_is_at lower other f other_in_range at = (pages_after other other_in_range lower (level_within new top root lower other f at) f).0 at

  not_next : (lower other f : ℕ) → other < ids_below top → page_at old top root lower other ≡ Some f → f ≡ next → ⊥
  not_next lower other f other_in_range at is =
      h.outside (lower, other, level_within old top root lower other f at, other_in_range, at ∙ ap (λ n. Some n) is)

  apart_after : (lower lowest one other f : ℕ) → one < ids_below top → other < ids_below top → WasOrIs lower one f → WasOrIs lowest other f → (lower ≡ lowest) × IsSamePrefix lower one other
  apart_after lower lowest one other f one_in other_in (inl a) (inl b) = h.directory.apart lower lowest one other f one_in other_in a b
  apart_after lower lowest one other f one_in other_in (inl a) (inr b) = absurd (not_next lower one f one_in a b.1)
  apart_after lower lowest one other f one_in other_in (inr a) (inl b) = absurd (not_next lowest other f other_in b a.1)
  apart_after lower lowest one other f one_in other_in (inr a) (inr b) =
      (a.0.0 ∙ sym b.0.0, subst (λ l. IsSamePrefix l one other) (sym a.0.0) (a.0.1 ∙ sym b.0.1))

  -- a context stands in another page
  context_stays : (other f : ℕ) → other < ids_below top → page_at old top root 0 other ≡ Some f → path_end_from new 0 f other ≡ path_end_from old 0 f other
  context_stays other f other_in_range at =
      let fits = context_index_fits other in
      let here_fits = index_fits (suc level) id in
      let place = context_place f (ddi 0 other) in
      let apart : f ≢ page = λ e. (
      let no = (h.directory.apart 0 (suc level) other id page other_in_range h.in_range (subst (λ n. page_at old top root 0 other ≡ Some n) e at) h.at).0 in omega (arith, no)) in
      ap loaded_context
      (words_stay old new place (h.stores.elsewhere place (λ e. apart (omega (arith, e, fits, here_fits)))) (h.stores.elsewhere (place + 8) (λ e. apart (omega (arith, e, fits, here_fits))))
      (h.stores.elsewhere (place + 16) (λ e. apart (omega (arith, e, fits, here_fits)))) (h.stores.elsewhere (place + 24) (λ e. apart (omega (arith, e, fits, here_fits)))))

  -- the path that goes by the new page found nothing, and finds nothing
  end_here : (other : ℕ) → other < ids_below top → IsSamePrefix level other id → path_end_from new (suc level) page other ≡ path_end_from old (suc level) page other
  end_here other other_in_range same =
      let index = index_there other same in
      let lt = h.below in
      let lawful = subst EndsLawfully (same_end_from old top root other (suc level) (omega (arith, lt)) page (above_at other same)) (h.directory.lawful other other_in_range) in
      end_past new page level other next (same_entry new page (suc level) other id index ∙ linked)
      ∙ zero_end new next level other new_zero
      ∙ sym (stops_lawfully old (loaded_entry (word_at 8 old (entry_place page (ddi (suc level) other)))) (λ n. path_end_from old level n other)
      (same_entry old page (suc level) other id index ∙ h.nowhere) lawful)

  ends_below : (other : ℕ) → other < ids_below top → (t : ℕ) → t ≤ top → (p : ℕ) → page_at old top root t other ≡ Some p → path_end_from new t p other ≡ path_end_from old t p other
  ends_below other other_in_range zero le p at = context_stays other p other_in_range at
  ends_below other other_in_range (suc t) le p at =
      elim (decide t other) [
        | inl here ↦
            let at_level = subst (λ l. page_at old top root (suc l) other ≡ Some p) here.0 at in
            let is_page = page_above other p here.1 at_level in
            subst (λ l. path_end_from new (suc l) p other ≡ path_end_from old (suc l) p other) (sym here.0)
            (subst (λ q. path_end_from new (suc level) q other ≡ path_end_from old (suc level) q other) (sym is_page) (end_here other other_in_range here.1))
        | inr elsewhere ↦
            ap (λ o. follow_entry (loaded_entry o) (λ n. path_end_from new t n other)) (entry_stays t other p (omega (arith, le)) other_in_range at elsewhere)
            ∙ same_after old new top root other t (loaded_entry (word_at 8 old (entry_place p (ddi (suc t) other))))
            (λ n named. ends_below other other_in_range t (omega (arith, le)) n (goes_down old top root t other p n (omega (arith, le)) at named))
      ]

  pub ends_hung : (other : ℕ) → other < ids_below top → path_end_from new top root other ≡ path_end_from old top root other
  ends_hung other other_in_range = ends_below other other_in_range top (omega arith) root (at_root old top root other)

  pub directory_hung : IsDirectory new top root
  directory_hung =
      record {
        inside = λ f has. elim ((pages_hung f).0 has) [
          | inl was ↦ let lt = h.directory.inside f was in let size = h.stores.size in omega (arith, lt, size)
          | inr is ↦ subst (λ n. n < length new) (sym is) (frame_inside new next zeroed new_zero)
        ];
        apart = λ lower lowest one other f one_in other_in at at_other.
            apart_after lower lowest one other f one_in other_in (was_or_is_at lower one f one_in at) (was_or_is_at lowest other f other_in at_other);
        lawful = λ other other_in_range. subst EndsLawfully (sym (ends_hung other other_in_range)) (h.directory.lawful other other_in_range);
      }

  pub outside_hung : KeepsOutsideDirectory old new top root
  outside_hung f out =
      let fits = index_fits (suc level) id in
      h.stores.frames f (λ e. out ((pages_hung f).1 (inl (subst (λ n. HasPage old top root n) (let same : page ≡ f = omega (arith, e, fits) in same) has_page))))

  pub zero_hung : slice_get new next ≡ Some zeroed
  zero_hung = new_zero

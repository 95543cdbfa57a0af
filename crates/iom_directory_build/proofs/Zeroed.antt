-- A zeroed frame is a directory of itself alone.
use Rattle.std.proofs.Common.{suc, ◌≡◌, ◌<◌, ◌≤◌, ◌∙◌, ℕ, List, length, slice_get, Some, refl, sym, subst, arith}
use Rattle.iom_phys_mem.specs.Words.{zeroed}
use Rattle.iom_directory_build.specs.Pages.{page_at, EndsLawfully, IsSamePrefix}
use Rattle.iom_directory_build.proofs.Paths.{to_level, at_root, comes_from, level_within, same_some}
use Rattle.iom_directory_build.proofs.Prefixes.{same_at_root, some_id}
use Rattle.iom_directory_build.proofs.Words.{frame_inside, zero_next, zero_end}
use Rattle.iom_directory_build.specs.Laws.{ZeroedRoot}

module _ (m : List (List ℕ)) (top root : ℕ) (here : slice_get m root ≡ Some zeroed) where
  -- the root is the one page
  abbrev IsRootAt : ℕ → Type 0
  IsRootAt level = (id f : ℕ) → page_at m top root level id ≡ Some f → (level ≡ top) × (f ≡ root)

  only_root : (level : ℕ) → level ≤ top → IsRootAt level
  only_root =
      to_level IsRootAt top
      (λ id f at. (refl, sym (same_some root f (sym (at_root m top root id) ∙ at))))
      (λ level lt above id f at.
      let h = comes_from m top root level id f lt at in
      let none = zero_next m root (suc level) id here in
      let is = (above id h.0 h.1).1 in
      let next = h.2 in
      let no : ⊥ = cc in absurd no)

  at_level : (level id f : ℕ) → page_at m top root level id ≡ Some f → (level ≡ top) × (f ≡ root)
  at_level level id f at = only_root level (level_within m top root level id f at) id f at

pub zeroed_root : ZeroedRoot
zeroed_root =
    λ m top root low here.
    let only = at_level m top root here in (
      record {
        inside = λ f h. subst (λ n. n < length m) (sym (only h.0 h.1 f h.4).1) (frame_inside m root zeroed here);
        apart = λ level lower id other f in_range other_in_range at at_other.
            let a = (only level id f at).0 in
            let b = (only lower other f at_other).0 in
            (a ∙ sym b, subst (λ l. IsSamePrefix l id other) (sym a) (same_at_root top id other low in_range other_in_range));
        lawful = λ id in_range. subst EndsLawfully (sym (zero_end m root top id here)) refl;
      },
      λ f. (λ h. (only h.0 h.1 f h.4).1, λ e. (top, 0, omega arith, some_id top, subst (λ n. page_at m top root top 0 ≡ Some n) (sym e) (at_root m top root 0))),
      λ id in_range. zero_end m root top id here,
    )

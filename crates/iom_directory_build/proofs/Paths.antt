-- The pages on a path, and its end, level by level.
use Rattle.std.proofs.Common.{zero, suc, ◌≡◌, ◌+◌, ◌-◌, ◌<◌, ◌≤◌, ◌∙◌, inl, inr, ℕ, List, Option, Some, None, Result, Ok, Err, refl, sym, ap, subst, arith}
use Rattle.std.specs.Option.{option_and_then}
use Rattle.std.proofs.lemmas.Bool.Decides.{eqb_tells}
use Rattle.iom_base.specs.declared.cause.Cause.{Cause}
use Rattle.iom_base.specs.declared.cause.Cause.TheVariants.{DirectoryEntryNotValid}
use Rattle.iom_phys_mem.specs.Words.{word_at}
use Rattle.iom_device_dir.specs.declared.context.Context.{Context}
use Rattle.iom_device_dir.specs.declared.entry.NonLeafEntry.{NonLeafEntry}
use Rattle.iom_device_dir.specs.Paths.{ddi, entry_place}
use Rattle.iom_device_dir.specs.Located.{loaded_entry, follow_entry, path_end_from}
use Rattle.iom_directory_build.specs.Pages.{page_named, next_page, page_at, IsSamePrefix, EndsLawfully}
use Rattle.iom_directory_build.proofs.Prefixes.{same_above, same_index}

-- from the root's level down to any
pub downward : (P : ℕ → Type 0) (top : ℕ) → P top → ((level : ℕ) → level < top → P (suc level) → P level) → (steps level : ℕ) → steps + level ≡ top → P level
downward P top at_top step zero level e = let here : level ≡ top = omega (arith, e) in subst P (sym here) at_top
downward P top at_top step (suc steps) level e = step level (omega (arith, e)) (downward P top at_top step steps (suc level) (omega (arith, e)))

pub to_level : (P : ℕ → Type 0) (top : ℕ) → P top → ((level : ℕ) → level < top → P (suc level) → P level) → (level : ℕ) → level ≤ top → P level
to_level P top at_top step level le = downward P top at_top step (top - level) level (omega (arith, le))

pub none_follows : {A B : Type 0} (f : A → Option B) (o : Option A) (y : B) → option_and_then f o ≡ Some y → (x : A) × (o ≡ Some x) × (f x ≡ Some y)
none_follows f (Some x) y h = (x, refl, h)
none_follows f None y h = let no : ⊥ = cc in absurd no

none_after : {A B : Type 0} (f : A → Option B) (o : Option A) → ((x : A) → f x ≡ None) → option_and_then f o ≡ None
none_after f (Some x) none = none x
none_after f None none = refl

pub same_some : {A : Type 0} (x y : A) → ◌≡◌ {A = Option A} (Some x) (Some y) → x ≡ y
same_some x y e = cc

module _ (m : List (List ℕ)) where
  -- the root's level has the root
  pub at_root : (top root id : ℕ) → page_at m top root top id ≡ Some root
  at_root zero root id = refl
  at_root (suc top) root id = elim (eqb_tells (suc top) (suc top)) [ inl e ↦ rw e.0 refl | inr n ↦ absurd (n.1 refl) ]

  -- there is nothing above it
  pub no_higher : (top root level id : ℕ) → top < level → page_at m top root level id ≡ None
  no_higher zero root level id lt = elim (eqb_tells level 0) [ inl e ↦ absurd (let z = e.1 in omega (arith, z, lt)) | inr n ↦ rw n.0 refl ]
  no_higher (suc top) root level id lt =
      elim (eqb_tells level (suc top)) [
        | inl e ↦ absurd (let z = e.1 in omega (arith, z, lt))
        | inr n ↦ rw n.0 (none_after (λ next. page_at m top next level id) (next_page m root (suc top) id) (λ next. no_higher top next level id (omega (arith, lt))))
      ]

  -- below the root's level it goes by the root's entry
  pub past_root : (top root level id : ℕ) → level ≤ top → page_at m (suc top) root level id ≡ option_and_then (λ next. page_at m top next level id) (next_page m root (suc top) id)
  past_root top root level id le = elim (eqb_tells level (suc top)) [ inl e ↦ absurd (let z = e.1 in omega (arith, z, le)) | inr n ↦ rw n.0 refl ]

  step_after : (top level id : ℕ) (o : Option ℕ) → ((next : ℕ) → page_at m top next level id ≡ option_and_then (λ q. next_page m q (suc level) id) (page_at m top next (suc level) id))
      → option_and_then (λ next. page_at m top next level id) o
      ≡ option_and_then (λ q. next_page m q (suc level) id) (option_and_then (λ next. page_at m top next (suc level) id) o)
  step_after top level id (Some next) go = go next
  step_after top level id None go = refl

  step_end : (level id : ℕ) (o : Option ℕ) → option_and_then (λ next. page_at m level next level id) o ≡ o
  step_end level id (Some next) = at_root level next id
  step_end level id None = refl

  -- a level's page is named by the entry in the page above
  pub one_down : (top root level id : ℕ) → level < top → page_at m top root level id ≡ option_and_then (λ q. next_page m q (suc level) id) (page_at m top root (suc level) id)
  one_down zero root level id lt = absurd (omega (arith, lt))
  one_down (suc top) root level id lt =
      elim (eqb_tells level top) [
        | inl e ↦
            let lowest : page_at m (suc top) root top id ≡ option_and_then (λ q. next_page m q (suc top) id) (page_at m (suc top) root (suc top) id) =
            past_root top root top id (omega arith) ∙ step_end top id (next_page m root (suc top) id)
            ∙ sym (ap (option_and_then (λ q. next_page m q (suc top) id)) (at_root (suc top) root id)) in
            subst (λ l. page_at m (suc top) root l id ≡ option_and_then (λ q. next_page m q (suc l) id) (page_at m (suc top) root (suc l) id)) (sym e.1) lowest
        | inr n ↦
            let below : level < top = let ne = n.1 in omega (arith, lt, ne) in
            past_root top root level id (omega (arith, below))
            ∙ step_after top level id (next_page m root (suc top) id) (λ next. one_down top next level id below)
            ∙ sym (ap (option_and_then (λ q. next_page m q (suc level) id)) (past_root top root (suc level) id (omega (arith, below))))
      ]

  pub level_within : (top root level id f : ℕ) → page_at m top root level id ≡ Some f → level ≤ top
  level_within top root level id f at =
      elim (eqb_tells (level - top) 0) [
        | inl e ↦ let z = e.1 in omega (arith, z)
        | inr n ↦ let none = no_higher top root level id (let ne = n.1 in omega (arith, ne)) in let no : ⊥ = cc in absurd no
      ]

  pub goes_down : (top root level id h f : ℕ) → level < top → page_at m top root (suc level) id ≡ Some h → next_page m h (suc level) id ≡ Some f → page_at m top root level id ≡ Some f
  goes_down top root level id h f lt at next = one_down top root level id lt ∙ ap (option_and_then (λ q. next_page m q (suc level) id)) at ∙ next

  pub comes_from : (top root level id f : ℕ) → level < top → page_at m top root level id ≡ Some f
      → (h : ℕ) × (page_at m top root (suc level) id ≡ Some h) × (next_page m h (suc level) id ≡ Some f)
  comes_from top root level id f lt at = none_follows (λ q. next_page m q (suc level) id) (page_at m top root (suc level) id) f (sym (one_down top root level id lt) ∙ at)

  -- an entry depends on the id's index alone
  pub same_entry : (page level id other : ℕ) → ddi level id ≡ ddi level other → next_page m page level id ≡ next_page m page level other
  same_entry page level id other e = ap (λ i. page_named (loaded_entry (word_at 8 m (entry_place page i)))) e

  each_same : (o : Option ℕ) (level id other : ℕ) → ddi (suc level) id ≡ ddi (suc level) other
      → option_and_then (λ q. next_page m q (suc level) id) o ≡ option_and_then (λ q. next_page m q (suc level) other) o
  each_same (Some q) level id other e = same_entry q (suc level) id other e
  each_same None level id other e = refl

  -- ids that agree above a level's index have the same page there
  pub same_page_at : (top root id other : ℕ) → top ≤ 2 → (level : ℕ) → level ≤ top → IsSamePrefix level id other → page_at m top root level id ≡ page_at m top root level other
  same_page_at top root id other le =
      to_level (λ level. IsSamePrefix level id other → page_at m top root level id ≡ page_at m top root level other) top
      (λ same. at_root top root id ∙ sym (at_root top root other))
      (λ level lt above same.
      one_down top root level id lt
      ∙ ap (option_and_then (λ q. next_page m q (suc level) id)) (above (same_above level id other (omega (arith, lt, le)) same))
      ∙ each_same (page_at m top root (suc level) other) level id other (same_index level id other (omega (arith, lt, le)) same)
      ∙ sym (one_down top root level other lt))

  -- the end of a path that follows an entry
  pub follows : (r : Result NonLeafEntry Cause) (follow : ℕ → Result Context Cause) (p : ℕ) → page_named r ≡ Some p → follow_entry r follow ≡ follow p
  follows (Ok entry) follow p e = ap follow (same_some entry.next.number p e)
  follows (Err cause) follow p e = let no : ⊥ = cc in absurd no

  -- an entry that leads nowhere, on a path that ends lawfully
  pub stops_lawfully : (r : Result NonLeafEntry Cause) (follow : ℕ → Result Context Cause) → page_named r ≡ None → EndsLawfully (follow_entry r follow) → follow_entry r follow ≡ Err DirectoryEntryNotValid
  stops_lawfully (Ok entry) follow e lawful = let no : ⊥ = cc in absurd no
  stops_lawfully (Err cause) follow e lawful = ap (λ c. Err c) lawful

  pub end_past : (page level id next : ℕ) → next_page m page (suc level) id ≡ Some next → path_end_from m (suc level) page id ≡ path_end_from m level next id
  end_past page level id next e = follows (loaded_entry (word_at 8 m (entry_place page (ddi (suc level) id)))) (λ n. path_end_from m level n id) next e

  -- a path ends where it ends from any page on it
  pub same_end_from : (top root id : ℕ) (level : ℕ) → level ≤ top → (page : ℕ) → page_at m top root level id ≡ Some page → path_end_from m top root id ≡ path_end_from m level page id
  same_end_from top root id =
      to_level (λ level. (page : ℕ) → page_at m top root level id ≡ Some page → path_end_from m top root id ≡ path_end_from m level page id) top
      (λ page at. ap (λ p. path_end_from m top p id) (same_some root page (sym (at_root top root id) ∙ at)))
      (λ level lt above page at. let h = comes_from top root level id page lt at in above h.0 h.1 ∙ end_past h.0 level id page h.2)

-- The page of the directory in hand.
use Rattle.std.proofs.Common.{◌≡◌, ℕ, zero, suc, ◌≤◌, ◌==◌, Bool, true, false, List, Option, None, Some, Result, Ok, Err, if◌then◌else◌, refl, sym, ap, ◌∙◌, subst, arith}
use Rattle.std.specs.Option.{option_and_then}
use Rattle.std.proofs.lemmas.Bool.{eqb-true, eq-eqb}
use Rattle.iom_base.specs.declared.cause.Cause.{Cause}
use Rattle.iom_device_dir.specs.declared.entry.NonLeafEntry.{NonLeafEntry}
use Rattle.iom_device_dir.specs.Located.{follow_entry, loaded_entry, path_end_from}
use Rattle.iom_device_dir.specs.Paths.{ddi, entry_place}
use Rattle.iom_phys_mem.specs.Words.{word_at}
use Rattle.iom_walk_loads.specs.Directory.{after_entry, directory_walk}
use Rattle.iom_walk_loads.specs.Loads.{made_from}
use Rattle.iom_directory_build.specs.Pages.{next_page, page_at, page_named}
use Rattle.iom_standing_walks.specs.Pages.{DirectoryEndsAsNow, DirectoryGoesOn}
use Rattle.iom_walk_loads.proofs.LoadLemmas.{made_load}
use Rattle.iom_walk_loads.proofs.WholeLemmas.{path_met}

same_some : (a b : ℕ) → ◌≡◌ {A = Option ℕ} (Some a) (Some b) → a ≡ b
same_some a b same = cc

no_page : (b : ℕ) → ◌≡◌ {A = Option ℕ} None (Some b) → ⊥
no_page b same = cc

-- the path from the root ends as that from the page in hand
end_below : (m : List (List ℕ)) (top root level page id : ℕ) → page_at m top root level id ≡ Some page → path_end_from m top root id ≡ path_end_from m level page id
end_below m zero root level page id at = by (level == 0) refl at
  where
    by : (b : Bool) → (level == 0) ≡ b → (if b then Some root else None) ≡ Some page → path_end_from m 0 root id ≡ path_end_from m level page id
    by true is here = ap (λ p. path_end_from m 0 p id) (same_some root page here) ∙ ap (λ l. path_end_from m l page id) (sym (eqb-true level 0 is))
    by false is here = absurd (no_page page here)
end_below m (suc top) root level page id at = by (level == suc top) refl at (λ next there. end_below m top next level page id there)
  where
    entry : (x : Result NonLeafEntry Cause) → option_and_then (λ next. page_at m top next level id) (page_named x) ≡ Some page
        → ((next : ℕ) → page_at m top next level id ≡ Some page → path_end_from m top next id ≡ path_end_from m level page id)
        → follow_entry x (λ next. path_end_from m top next id) ≡ path_end_from m level page id
    entry (Ok e) there rest = rest e.next.number there
    entry (Err cause) there rest = absurd (no_page page there)

    by : (b : Bool) → (level == suc top) ≡ b → (if b then Some root else option_and_then (λ next. page_at m top next level id) (next_page m root (suc top) id)) ≡ Some page
        → ((next : ℕ) → page_at m top next level id ≡ Some page → path_end_from m top next id ≡ path_end_from m level page id)
        → path_end_from m (suc top) root id ≡ path_end_from m level page id
    by true is here rest = ap (λ p. path_end_from m (suc top) p id) (same_some root page here) ∙ ap (λ l. path_end_from m l page id) (sym (eqb-true level (suc top) is))
    by false is there rest = entry (loaded_entry (word_at 8 m (entry_place root (ddi (suc top) id)))) there rest

pub directory_ends_as_now : DirectoryEndsAsNow
directory_ends_as_now m top root level page id answer at ends =
    end_below m top root level page id at ∙ sym (path_met m level page id) ∙ sym (made_load m (directory_walk level page id)) ∙ ap (made_from m) ends

-- a page is of a level up to the root's
level_low : (m : List (List ℕ)) (top root level page id : ℕ) → page_at m top root level id ≡ Some page → level ≤ top
level_low m zero root level page id at = by (level == 0) refl at
  where
    by : (b : Bool) → (level == 0) ≡ b → (if b then Some root else None) ≡ Some page → level ≤ 0
    by true is here = let same = eqb-true level 0 is in omega (arith, same)
    by false is here = absurd (no_page page here)
level_low m (suc top) root level page id at = by (level == suc top) refl at (λ next there. level_low m top next level page id there)
  where
    entry : (x : Option ℕ) → option_and_then (λ next. page_at m top next level id) x ≡ Some page → ((next : ℕ) → page_at m top next level id ≡ Some page → level ≤ top) → level ≤ suc top
    entry None there rest = absurd (no_page page there)
    entry (Some next) there rest = let low = rest next there in omega (arith, low)

    by : (b : Bool) → (level == suc top) ≡ b → (if b then Some root else option_and_then (λ next. page_at m top next level id) (next_page m root (suc top) id)) ≡ Some page
        → ((next : ℕ) → page_at m top next level id ≡ Some page → level ≤ top) → level ≤ suc top
    by true is here rest = let same = eqb-true level (suc top) is in omega (arith, same)
    by false is there rest = entry (next_page m root (suc top) id) there rest

-- the root is the page of its level
top_page : (m : List (List ℕ)) (top root id : ℕ) → page_at m top root top id ≡ Some root
top_page m zero root id = refl
top_page m (suc top) root id = rw (eq-eqb (suc top) (suc top) refl) refl

-- another number
not_same : (a b : ℕ) → (a ≡ b → ⊥) → (a == b) ≡ false
not_same a b differ = by (a == b) refl
  where
    by : (c : Bool) → (a == b) ≡ c → (a == b) ≡ false
    by true is = absurd (differ (eqb-true a b is))
    by false is = is

-- the page of the next level
page_push : (m : List (List ℕ)) (top root level page next id : ℕ) → page_at m top root (suc level) id ≡ Some page → next_page m page (suc level) id ≡ Some next → page_at m top root level id ≡ Some next
page_push m zero root level page next id at named = let low = level_low m zero root (suc level) page id at in absurd (omega (arith, low))
page_push m (suc top) root level page next id at named = rw lower (by (suc level == suc top) refl at (λ p there. page_push m top p level page next id there named))
  where
    lower : (level == suc top) ≡ false
    lower = not_same level (suc top) (λ same. let low = level_low m (suc top) root (suc level) page id at in omega (arith, low, same))

    entry : (x : Option ℕ) → option_and_then (λ p. page_at m top p (suc level) id) x ≡ Some page → ((p : ℕ) → page_at m top p (suc level) id ≡ Some page → page_at m top p level id ≡ Some next)
        → option_and_then (λ p. page_at m top p level id) x ≡ Some next
    entry None there rest = absurd (no_page page there)
    entry (Some p) there rest = rest p there

    by : (b : Bool) → (suc level == suc top) ≡ b → (if b then Some root else option_and_then (λ p. page_at m top p (suc level) id) (next_page m root (suc top) id)) ≡ Some page
        → ((p : ℕ) → page_at m top p (suc level) id ≡ Some page → page_at m top p level id ≡ Some next)
        → option_and_then (λ p. page_at m top p level id) (next_page m root (suc top) id) ≡ Some next
    by true is here rest =
        let same : suc level ≡ suc top = eqb-true (suc level) (suc top) is in
        let its : level ≡ top = omega (arith, same) in
        let named_there : next_page m root (suc top) id ≡ Some next = subst (λ l. next_page m root l id ≡ Some next) same (subst (λ p. next_page m p (suc level) id ≡ Some next) (sym (same_some root page here)) named) in
        ap (option_and_then (λ p. page_at m top p level id)) named_there ∙ ap (λ l. page_at m top next l id) its ∙ top_page m top next id
    by false is there rest = entry (next_page m root (suc top) id) there rest

pub directory_goes_on : DirectoryGoesOn
directory_goes_on m top root level page next id at named =
    (page_push m top root level page next id at named, by (loaded_entry (word_at 8 m (entry_place page (ddi (suc level) id)))) named)
  where
    by : (x : Result NonLeafEntry Cause) → page_named x ≡ Some next → after_entry (λ n. directory_walk level n id) x ≡ directory_walk level next id
    by (Ok entry) is = ap (λ n. directory_walk level n id) (same_some entry.next.number next is)
    by (Err cause) is = absurd (no_page next is)

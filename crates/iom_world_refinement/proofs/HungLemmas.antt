-- How many pages a path of the directory may lack, and that memory has as many frames after pages and contexts are written.
use Rattle.std.proofs.Common.{suc, zero, ◌≡◌, ◌≤◌, ◌∙◌, ℕ, List, [], ◌∷◌, length, Option, Some, None, refl, arith}
use Rattle.iom_device_dir.specs.declared.context.Context.{Context}
use Rattle.iom_device_dir.specs.Paths.{ddi, context_place}
use Rattle.iom_directory_build.specs.Pages.{next_page, page_at, missing_below, missing_pages}
use Rattle.iom_directory_build.specs.Written.{with_words, context_stores, cleared_stores, with_entry_at, hung_below, hung, cleared_where, without_context}
use Rattle.iom_phys_mem.specs.Words.{with_word}
use Rattle.iom_world_effects.proofs.UnchangedLemmas.{length-with_word}

-- a path lacks no more pages than there are levels below the root
pub few_missing : (top : ℕ) (memory : List (List ℕ)) (root id : ℕ) → missing_pages memory top root id ≤ top
few_missing zero memory root id = omega arith
few_missing (suc top) memory root id = by (next_page memory root (suc top) id) (λ next. few_missing top memory next id)
  where
    by : (o : Option ℕ) → ((next : ℕ) → missing_pages memory top next id ≤ top) → missing_below o (suc top) (λ next. missing_pages memory top next id) ≤ suc top
    by None below = omega arith
    by (Some next) below = let rest = below next in omega (arith, rest)

length-with_words : (memory : List (List ℕ)) (stores : List (ℕ × ℕ)) → length (with_words memory stores) ≡ length memory
length-with_words memory [] = refl
length-with_words memory ((address, word) ∷ later) = length-with_words (with_word 8 memory address word) later ∙ length-with_word 8 memory address word

pub length-hung : (level : ℕ) (memory : List (List ℕ)) (page id : ℕ) (pages : List ℕ) (context : Context) → length (hung memory level page id pages context) ≡ length memory
length-hung zero memory page id pages context = length-with_words memory (context_stores (context_place page (ddi 0 id)) context)
length-hung (suc level) memory page id pages context = by (next_page memory page (suc level) id) pages (λ now next left. length-hung level now next id left context)
  where
    by : (o : Option ℕ) (fresh : List ℕ) → ((now : List (List ℕ)) (next : ℕ) (left : List ℕ) → length (hung now level next id left context) ≡ length now)
        → length (hung_below o fresh (λ next left. hung memory level next id left context) (λ next left. hung (with_entry_at memory page (suc level) id next) level next id left context) memory) ≡ length memory
    by (Some next) fresh below = below memory next fresh
    by None [] below = refl
    by None (next ∷ fresh) below = below (with_entry_at memory page (suc level) id next) next fresh ∙ length-with_word 8 memory _ _

pub length-without_context : (memory : List (List ℕ)) (top root id : ℕ) → length (without_context memory top root id) ≡ length memory
length-without_context memory top root id = by (page_at memory top root 0 id)
  where
    by : (o : Option ℕ) → length (cleared_where memory id o) ≡ length memory
    by None = refl
    by (Some page) = length-with_words memory (cleared_stores (context_place page (ddi 0 id)))

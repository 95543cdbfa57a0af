-- A context that is put into a directory changes no frame but the directory's pages and those that are hung in it.
use Rattle.std.proofs.Common.{zero, suc, ◌≡◌, ◌≢◌, ◌+◌, ◌/◌, ◌≤◌, ◌∙◌, ℕ, List, [], ◌∷◌, Option, Some, None, slice_get, refl, sym, ap, subst, arith}
use Rattle.std.specs.Option.{option_and_then}
use Rattle.iom_device_dir.specs.declared.context.Context.{Context}
use Rattle.iom_device_dir.specs.Located.{loaded_entry}
use Rattle.iom_device_dir.specs.Paths.{ddi, entry_place, context_place}
use Rattle.iom_directory_build.specs.Pages.{next_page, page_at, page_named}
use Rattle.iom_directory_build.specs.Written.{encoded_word, entry_word, with_context_at, with_entry_at, hung}
use Rattle.iom_directory_build.proofs.Paths.{at_root, past_root}
use Rattle.iom_directory_build.proofs.Prefixes.{index_fits, context_index_fits}
use Rattle.iom_directory_build.proofs.Words.{word_stays, zero_next}
use Rattle.iom_driver.proofs.Lists.{get_set_other}
use Rattle.iom_driver.proofs.Owners.{NotAmong}
use Rattle.iom_phys_mem.specs.Words.{zeroed, with_word}

-- a word is stored in one frame
pub word_elsewhere : (m : List (List ℕ)) (address value f : ℕ) → f ≢ address / 4096 → slice_get (with_word 8 m address value) f ≡ slice_get m f
unfolding with_word
word_elsewhere m address value f other = by (slice_get m (address / 4096)) refl
  where
    by : (frame : Option (List ℕ)) → slice_get m (address / 4096) ≡ frame → slice_get (with_word 8 m address value) f ≡ slice_get m f
    by None at = rw at refl
    by (Some frame) at = rw at (get_set_other m (address / 4096) f _ other)

-- so a context is
context_elsewhere : (m : List (List ℕ)) (page id : ℕ) (context : Context) (f : ℕ) → f ≢ page → slice_get (with_context_at m page id context) f ≡ slice_get m f
context_elsewhere m page id context f other =
    let place = context_place page (ddi 0 id) in
    let fits = context_index_fits id in
    let at_24 : (place + 24) / 4096 ≡ page = omega (arith, fits) in
    let at_16 : (place + 16) / 4096 ≡ page = omega (arith, fits) in
    let at_8 : (place + 8) / 4096 ≡ page = omega (arith, fits) in
    let at_0 : place / 4096 ≡ page = omega (arith, fits) in
    let one = with_word 8 m (place + 24) (encoded_word context 3) in
    let two = with_word 8 one (place + 16) (encoded_word context 2) in
    let three = with_word 8 two (place + 8) (encoded_word context 1) in
    word_elsewhere three place (encoded_word context 0) f (λ e. other (e ∙ at_0))
    ∙ word_elsewhere two (place + 8) (encoded_word context 1) f (λ e. other (e ∙ at_8))
    ∙ word_elsewhere one (place + 16) (encoded_word context 2) f (λ e. other (e ∙ at_16))
    ∙ word_elsewhere m (place + 24) (encoded_word context 3) f (λ e. other (e ∙ at_24))

-- and an entry
entry_elsewhere : (m : List (List ℕ)) (page level id next f : ℕ) → f ≢ page → slice_get (with_entry_at m page level id next) f ≡ slice_get m f
entry_elsewhere m page level id next f other =
    let fits = index_fits level id in
    let at : entry_place page (ddi level id) / 4096 ≡ page = omega (arith, fits) in
    word_elsewhere m (entry_place page (ddi level id)) (entry_word next) f (λ e. other (e ∙ at))

-- frames of zeros, each of them once
abbrev pub AreZeros : List (List ℕ) → List ℕ → Type 0
AreZeros m [] = Unit {0}
AreZeros m (f ∷ fs) = (slice_get m f ≡ Some zeroed) × AreZeros m fs

abbrev pub AreOnce : List ℕ → Type 0
AreOnce [] = Unit {0}
AreOnce (f ∷ fs) = NotAmong f fs × AreOnce fs

zeros_still : (m : List (List ℕ)) (page level id next : ℕ) (fs : List ℕ) → NotAmong page fs → AreZeros m fs → AreZeros (with_entry_at m page level id next) fs
zeros_still m page level id next [] apart zeros = tt
zeros_still m page level id next (f ∷ fs) apart zeros =
    (entry_elsewhere m page level id next f (λ e. apart.0 (sym e)) ∙ zeros.0, zeros_still m page level id next fs apart.1 zeros.1)

-- from a page of zeros on all the pages below are new
hung_new : (m : List (List ℕ)) (level page id : ℕ) (pages : List ℕ) (context : Context) (f : ℕ) → slice_get m page ≡ Some zeroed → AreZeros m pages → AreOnce (page ∷ pages)
    → f ≢ page → NotAmong f pages → slice_get (hung m level page id pages context) f ≡ slice_get m f
hung_new m zero page id pages context f here zeros once other among = context_elsewhere m page id context f other
hung_new m (suc level) page id [] context f here zeros once other among = rw (zero_next m page (suc level) id here) refl
hung_new m (suc level) page id (next ∷ pages) context f here zeros once other among =
    let then = with_entry_at m page (suc level) id next in
    rw (zero_next m page (suc level) id here)
    (hung_new then level next id pages context f
    (entry_elsewhere m page (suc level) id next next (λ e. once.0.0 (sym e)) ∙ zeros.0)
    (zeros_still m page (suc level) id next pages once.0.1 zeros.1)
    once.1 among.0 among.1
    ∙ entry_elsewhere m page (suc level) id next f other)

-- a frame apart from the pages on the id's path, which are as in another memory
abbrev pub IsOffPath : List (List ℕ) → List (List ℕ) → ℕ → ℕ → ℕ → List ℕ → ℕ → Type 0
IsOffPath before m level page id pages f =
    (lower g : ℕ) → lower ≤ level → page_at before level page lower id ≡ Some g → (slice_get m g ≡ slice_get before g) × (f ≢ g) × NotAmong g pages

next_alike : (before m : List (List ℕ)) (page level id : ℕ) → slice_get m page ≡ slice_get before page → next_page m page level id ≡ next_page before page level id
next_alike before m page level id same =
    let fits = index_fits level id in
    let at : entry_place page (ddi level id) / 4096 ≡ page = omega (arith, fits) in
    ap (λ o. page_named (loaded_entry o)) (word_stays before m (entry_place page (ddi level id)) (subst (λ p. slice_get m p ≡ slice_get before p) (sym at) same))

pub hung_keeps : (before m : List (List ℕ)) (level page id : ℕ) (pages : List ℕ) (context : Context) (f : ℕ) → IsOffPath before m level page id pages f → AreZeros m pages → AreOnce pages
    → NotAmong f pages → slice_get (hung m level page id pages context) f ≡ slice_get m f
hung_keeps before m zero page id pages context f off zeros once among = context_elsewhere m page id context f (off 0 page (omega arith) refl).1
hung_keeps before m (suc level) page id pages context f off zeros once among =
    let here = off (suc level) page (omega arith) (at_root before (suc level) page id) in
    by (next_page before page (suc level) id) refl (next_alike before m page (suc level) id here.0) here.1 pages here.2 zeros once among
    (λ next named. hung_keeps before m level next id pages context f
    (λ lower g le at. off lower g (omega (arith, le)) (past_root before level page lower id le ∙ ap (option_and_then (λ n. page_at before level n lower id)) named ∙ at))
    zeros once among)
  where
    by : (o : Option ℕ) → next_page before page (suc level) id ≡ o → next_page m page (suc level) id ≡ next_page before page (suc level) id → f ≢ page
        → (left : List ℕ) → NotAmong page left → AreZeros m left → AreOnce left → NotAmong f left
        → ((next : ℕ) → next_page before page (suc level) id ≡ Some next → slice_get (hung m level next id left context) f ≡ slice_get m f)
        → slice_get (hung m (suc level) page id left context) f ≡ slice_get m f
    by (Some next) named same other left apart zeros once among below =
        let now : next_page m page (suc level) id ≡ Some next = same ∙ named in
        rw now (below next named)
    by None named same other [] apart zeros once among below = let now : next_page m page (suc level) id ≡ None = same ∙ named in rw now refl
    by None named same other (next ∷ later) apart zeros once among below =
        let now : next_page m page (suc level) id ≡ None = same ∙ named in
        let then = with_entry_at m page (suc level) id next in
        rw now
        (hung_new then level next id later context f
        (entry_elsewhere m page (suc level) id next next (λ e. apart.0 (sym e)) ∙ zeros.0)
        (zeros_still m page (suc level) id next later apart.1 zeros.1)
        once among.0 among.1
        ∙ entry_elsewhere m page (suc level) id next f other)

-- Words in a page: those of a zeroed one, and those that a change leaves.
use Rattle.std.proofs.Common.{zero, suc, ◌≡◌, ◌≢◌, ◌+◌, ◌*◌, ◌/◌, ◌%◌, ◌^◌, ◌<◌, ◌==◌, ◌∙◌, inl, inr, ℕ, List, length, drop, get_or, slice_get, Some, None, Result, Err, option_map, refl, ap, subst, arith, replicate, if◌then◌else◌}
use Rattle.std.proofs.lemmas.List.{get_or-drop, get_or-replicate}
use Rattle.std.proofs.lemmas.Option.{slice_get_cases}
use Rattle.byteorder.specs.Endian.{little_number, little_from}
use Rattle.iom_base.specs.declared.cause.Cause.{Cause}
use Rattle.iom_base.specs.declared.cause.Cause.TheVariants.{DirectoryEntryNotValid}
use Rattle.iom_phys_mem.specs.Words.{word_at, zeroed}
use Rattle.iom_device_dir.specs.declared.context.Context.{Context}
use Rattle.iom_device_dir.specs.declared.entry.NonLeafEntry.{NonLeafEntry}
use Rattle.iom_device_dir.specs.Formats.{IsNonLeafEntry}
use Rattle.iom_device_dir.specs.Decoded.{decoded_non_leaf_entry, decoded_context}
use Rattle.iom_device_dir.specs.Paths.{ddi, context_place, four_context_words, context_words_at}
use Rattle.iom_device_dir.specs.Located.{loaded_entry, loaded_context, follow_entry, path_end_from}
use Rattle.iom_device_dir.proofs.Exact.{found_non_leaf}
use Rattle.iom_directory_build.specs.Pages.{page_named, next_page}
use Rattle.iom_directory_build.specs.Written.{entry_word}
use Rattle.iom_directory_build.specs.Changes.{StoresOneWord, WritesPlace}
use Rattle.iom_directory_build.proofs.Prefixes.{index_fits, context_index_fits}

-- a frame that is there
pub frame_inside : (m : List (List ℕ)) (f : ℕ) (frame : List ℕ) → slice_get m f ≡ Some frame → f < length m
frame_inside m f frame at = elim ((slice_get_cases m f).1) [ inl x ↦ x.1 | inr y ↦ let none = y.1 in let no : ⊥ = cc in absurd no ]

-- a word of a frame that stays
pub word_stays : (old new : List (List ℕ)) (a : ℕ) → slice_get new (a / 4096) ≡ slice_get old (a / 4096) → word_at 8 new a ≡ word_at 8 old a
word_stays old new a same = ap (λ o. if a % 8 == 0 then option_map (λ frame. little_number 8 (drop (a % 4096) frame)) o else None) same

-- the words of a context, by each of them
pub words_stay : (old new : List (List ℕ)) (a : ℕ) → word_at 8 new a ≡ word_at 8 old a → word_at 8 new (a + 8) ≡ word_at 8 old (a + 8)
    → word_at 8 new (a + 16) ≡ word_at 8 old (a + 16) → word_at 8 new (a + 24) ≡ word_at 8 old (a + 24) → context_words_at new a ≡ context_words_at old a
unfolding context_words_at
words_stay old new a first second third fourth =
    ap (λ x. four_context_words x (word_at 8 new (a + 8)) (word_at 8 new (a + 16)) (word_at 8 new (a + 24))) first
    ∙ ap (λ x. four_context_words (word_at 8 old a) x (word_at 8 new (a + 16)) (word_at 8 new (a + 24))) second
    ∙ ap (λ x. four_context_words (word_at 8 old a) (word_at 8 old (a + 8)) x (word_at 8 new (a + 24))) third
    ∙ ap (λ x. four_context_words (word_at 8 old a) (word_at 8 old (a + 8)) (word_at 8 old (a + 16)) x) fourth

number_zero : (i n : ℕ) (xs : List ℕ) → ((k : ℕ) → k < i + n → get_or xs k 0 ≡ 0) → little_from i n xs ≡ 0
number_zero i zero xs none = refl
number_zero i (suc n) xs none =
    let byte : get_or xs i 0 ≡ 0 = none i (omega arith) in
    let rest = number_zero (suc i) n xs (λ k lt. none k (omega arith)) in
    rw (byte, rest) refl

zero_at : (a k : ℕ) → a % 8 ≡ 0 → a < 4096 → k < 8 → get_or (drop a zeroed) k 0 ≡ 0
unfolding zeroed
zero_at a k aligned lt small = get_or-drop a (replicate 4096 0) k 0 ∙ get_or-replicate 4096 (a + k) 0 0 (omega arith)

zero_number : (a : ℕ) → a % 8 ≡ 0 → a < 4096 → little_from 0 8 (drop a zeroed) ≡ 0
zero_number a aligned lt = number_zero 0 8 (drop a zeroed) (λ k small. zero_at a k aligned lt small)

-- the words of a zeroed frame are zero
pub zero_word : (m : List (List ℕ)) (f j : ℕ) → slice_get m f ≡ Some zeroed → j < 512 → word_at 8 m (4096 * f + 8 * j) ≡ Some 0
zero_word m f j here lt =
    let frame : (4096 * f + 8 * j) / 4096 ≡ f = omega arith in
    let offset : (4096 * f + 8 * j) % 4096 ≡ 8 * j = omega arith in
    let aligned : (4096 * f + 8 * j) % 8 ≡ 0 = omega arith in
    let number = zero_number (8 * j) (omega arith) (omega arith) in
    rw (aligned, frame, here, offset) (ap Some number)

-- a zeroed page names no page
pub zero_next : (m : List (List ℕ)) (f level id : ℕ) → slice_get m f ≡ Some zeroed → next_page m f level id ≡ None
zero_next m f level id here = ap (λ o. page_named (loaded_entry o)) (zero_word m f (ddi level id) here (index_fits level id))

zero_context : (m : List (List ℕ)) (f i : ℕ) → slice_get m f ≡ Some zeroed → i < 128 → loaded_context (context_words_at m (context_place f i)) ≡ Err DirectoryEntryNotValid
unfolding context_words_at decoded_context
zero_context m f i here lt =
    let first : word_at 8 m (4096 * f + 32 * i) ≡ Some 0 = ap (word_at 8 m) (let e : 4096 * f + 32 * i ≡ 4096 * f + 8 * (4 * i) = omega arith in e) ∙ zero_word m f (4 * i) here (omega (arith, lt)) in
    let second : word_at 8 m (4096 * f + 32 * i + 8) ≡ Some 0 = ap (word_at 8 m) (let e : 4096 * f + 32 * i + 8 ≡ 4096 * f + 8 * (4 * i + 1) = omega arith in e) ∙ zero_word m f (4 * i + 1) here (omega (arith, lt)) in
    let third : word_at 8 m (4096 * f + 32 * i + 16) ≡ Some 0 = ap (word_at 8 m) (let e : 4096 * f + 32 * i + 16 ≡ 4096 * f + 8 * (4 * i + 2) = omega arith in e) ∙ zero_word m f (4 * i + 2) here (omega (arith, lt)) in
    let fourth : word_at 8 m (4096 * f + 32 * i + 24) ≡ Some 0 = ap (word_at 8 m) (let e : 4096 * f + 32 * i + 24 ≡ 4096 * f + 8 * (4 * i + 3) = omega arith in e) ∙ zero_word m f (4 * i + 3) here (omega (arith, lt)) in
    ap (λ x. loaded_context (four_context_words x (word_at 8 m (4096 * f + 32 * i + 8)) (word_at 8 m (4096 * f + 32 * i + 16)) (word_at 8 m (4096 * f + 32 * i + 24)))) first
    ∙ ap (λ x. loaded_context (four_context_words (Some 0) x (word_at 8 m (4096 * f + 32 * i + 16)) (word_at 8 m (4096 * f + 32 * i + 24)))) second
    ∙ ap (λ x. loaded_context (four_context_words (Some 0) (Some 0) x (word_at 8 m (4096 * f + 32 * i + 24)))) third
    ∙ ap (λ x. loaded_context (four_context_words (Some 0) (Some 0) (Some 0) x)) fourth

-- no path from a zeroed page finds a context
pub zero_end : (m : List (List ℕ)) (f level id : ℕ) → slice_get m f ≡ Some zeroed → path_end_from m level f id ≡ Err DirectoryEntryNotValid
zero_end m f zero id here = zero_context m f (ddi 0 id) here (context_index_fits id)
zero_end m f (suc level) id here =
    ap (λ o. follow_entry (loaded_entry o) (λ next. path_end_from m level next id)) (zero_word m f (ddi (suc level) id) here (index_fits (suc level) id))

-- the word of an entry is that entry
pub entry_found : (next : ℕ) → next < 2 ^ 44 → page_named (decoded_non_leaf_entry (entry_word next)) ≡ Some next
entry_found next small =
    let entry : NonLeafEntry = record { next = record { number = next; in_range = small } } in
    let means : IsNonLeafEntry (next * 2 ^ 10 + 1) entry =
    record { valid = omega arith; clear_below = omega arith; next = omega (arith, small); clear_above = omega (arith, small) } in
    ap page_named (found_non_leaf (next * 2 ^ 10 + 1) entry means)

-- four words stored one after another in one place of 32 bytes
module _ (zeroth first second third fourth : List (List ℕ)) (a b c d u v w x page id : ℕ) (store_u : StoresOneWord zeroth first a u) (store_v : StoresOneWord first second b v) (store_w : StoresOneWord second third c w) (store_x : StoresOneWord third fourth d x) where
  pub stored_first : a ≢ b → a ≢ c → a ≢ d → word_at 8 fourth a ≡ Some u
  stored_first n m l = store_x.elsewhere a l ∙ store_w.elsewhere a m ∙ store_v.elsewhere a n ∙ store_u.here

  pub stored_second : b ≢ c → b ≢ d → word_at 8 fourth b ≡ Some v
  stored_second m l = store_x.elsewhere b l ∙ store_w.elsewhere b m ∙ store_v.here

  pub stored_third : c ≢ d → word_at 8 fourth c ≡ Some w
  stored_third l = store_x.elsewhere c l ∙ store_w.here

  pub stored_place : (place : ℕ) → place ≡ context_place page (ddi 0 id) / 32 → a / 32 ≡ place → b / 32 ≡ place → c / 32 ≡ place → d / 32 ≡ place
      → (found : Result Context Cause) → loaded_context (context_words_at fourth (context_place page (ddi 0 id))) ≡ found → WritesPlace zeroth fourth page id found
  stored_place place is at_a at_b at_c at_d found here =
      let fits = context_index_fits id in
      record {
        here = here;
        elsewhere = λ e ne.
            store_x.elsewhere e (λ same. ne (omega (arith, same, at_d, is)))
            ∙ store_w.elsewhere e (λ same. ne (omega (arith, same, at_c, is)))
            ∙ store_v.elsewhere e (λ same. ne (omega (arith, same, at_b, is)))
            ∙ store_u.elsewhere e (λ same. ne (omega (arith, same, at_a, is)));
        frames = λ n ne.
            store_x.frames n (λ same. ne (omega (arith, same, at_d, is, fits)))
            ∙ store_w.frames n (λ same. ne (omega (arith, same, at_c, is, fits)))
            ∙ store_v.frames n (λ same. ne (omega (arith, same, at_b, is, fits)))
            ∙ store_u.frames n (λ same. ne (omega (arith, same, at_a, is, fits)));
        size = store_x.size ∙ store_w.size ∙ store_v.size ∙ store_u.size;
      }

-- the words that are found, by each of them
pub loaded_words : (m : List (List ℕ)) (a tc iohgatp ta fsc : ℕ) (found : Result Context Cause) → word_at 8 m a ≡ Some tc → word_at 8 m (a + 8) ≡ Some iohgatp → word_at 8 m (a + 16) ≡ Some ta → word_at 8 m (a + 24) ≡ Some fsc
    → loaded_context (four_context_words (Some tc) (Some iohgatp) (Some ta) (Some fsc)) ≡ found → loaded_context (context_words_at m a) ≡ found
unfolding context_words_at
loaded_words m a tc iohgatp ta fsc found first second third fourth is =
    ap (λ x. loaded_context (four_context_words x (word_at 8 m (a + 8)) (word_at 8 m (a + 16)) (word_at 8 m (a + 24)))) first
    ∙ ap (λ x. loaded_context (four_context_words (Some tc) x (word_at 8 m (a + 16)) (word_at 8 m (a + 24)))) second
    ∙ ap (λ x. loaded_context (four_context_words (Some tc) (Some iohgatp) x (word_at 8 m (a + 24)))) third
    ∙ ap (λ x. loaded_context (four_context_words (Some tc) (Some iohgatp) (Some ta) x)) fourth
    ∙ is

pub zeros_found : loaded_context (four_context_words (Some 0) (Some 0) (Some 0) (Some 0)) ≡ Err DirectoryEntryNotValid
unfolding decoded_context
zeros_found = refl

-- three words of a context are stored: with its first word it is there
pub others_stand : (zeroth first second third : List (List ℕ)) (place tc iohgatp ta fsc : ℕ) (found : Result Context Cause)
    → StoresOneWord zeroth first (place + 24) fsc → StoresOneWord first second (place + 16) ta → StoresOneWord second third (place + 8) iohgatp
    → loaded_context (four_context_words (Some tc) (Some iohgatp) (Some ta) (Some fsc)) ≡ found
    → loaded_context (four_context_words (Some tc) (word_at 8 third (place + 8)) (word_at 8 third (place + 16)) (word_at 8 third (place + 24))) ≡ found
others_stand zeroth first second third place tc iohgatp ta fsc found u v w words =
    let last : word_at 8 third (place + 24) ≡ Some fsc =
    w.elsewhere (place + 24) (λ e. omega (arith, e)) ∙ v.elsewhere (place + 24) (λ e. omega (arith, e)) ∙ u.here in
    let before : word_at 8 third (place + 16) ≡ Some ta = w.elsewhere (place + 16) (λ e. omega (arith, e)) ∙ v.here in
    rw (w.here, before, last) words

-- a context is written, its first word last
pub context_written : (zeroth first second third fourth : List (List ℕ)) (place page id tc iohgatp ta fsc : ℕ) (found : Result Context Cause) → place ≡ context_place page (ddi 0 id)
    → StoresOneWord zeroth first (place + 24) fsc → StoresOneWord first second (place + 16) ta → StoresOneWord second third (place + 8) iohgatp → StoresOneWord third fourth place tc
    → loaded_context (four_context_words (Some tc) (Some iohgatp) (Some ta) (Some fsc)) ≡ found → WritesPlace zeroth fourth page id found
context_written zeroth first second third fourth place page id tc iohgatp ta fsc found is u v w x words =
    let here : loaded_context (context_words_at fourth place) ≡ found =
    loaded_words fourth place tc iohgatp ta fsc found x.here
    (stored_third zeroth first second third fourth (place + 24) (place + 16) (place + 8) place fsc ta iohgatp tc page id u v w x (λ e. omega (arith, e)))
    (stored_second zeroth first second third fourth (place + 24) (place + 16) (place + 8) place fsc ta iohgatp tc page id u v w x (λ e. omega (arith, e)) (λ e. omega (arith, e)))
    (stored_first zeroth first second third fourth (place + 24) (place + 16) (place + 8) place fsc ta iohgatp tc page id u v w x (λ e. omega (arith, e)) (λ e. omega (arith, e)) (λ e. omega (arith, e)))
    words in
    stored_place zeroth first second third fourth (place + 24) (place + 16) (place + 8) place fsc ta iohgatp tc page id u v w x (place / 32) (ap (λ a. a / 32) is)
    (omega (arith, is)) (omega (arith, is)) (omega (arith, is)) refl found (subst (λ a. loaded_context (context_words_at fourth a) ≡ found) is here)

-- a place is cleared, its first word first
pub context_cleared : (zeroth first second third fourth : List (List ℕ)) (place page id : ℕ) → place ≡ context_place page (ddi 0 id)
    → StoresOneWord zeroth first place 0 → StoresOneWord first second (place + 8) 0 → StoresOneWord second third (place + 16) 0 → StoresOneWord third fourth (place + 24) 0
    → WritesPlace zeroth fourth page id (Err DirectoryEntryNotValid)
context_cleared zeroth first second third fourth place page id is u v w x =
    let here : loaded_context (context_words_at fourth place) ≡ Err DirectoryEntryNotValid =
    loaded_words fourth place 0 0 0 0 (Err DirectoryEntryNotValid)
    (stored_first zeroth first second third fourth place (place + 8) (place + 16) (place + 24) 0 0 0 0 page id u v w x (λ e. omega (arith, e)) (λ e. omega (arith, e)) (λ e. omega (arith, e)))
    (stored_second zeroth first second third fourth place (place + 8) (place + 16) (place + 24) 0 0 0 0 page id u v w x (λ e. omega (arith, e)) (λ e. omega (arith, e)))
    (stored_third zeroth first second third fourth place (place + 8) (place + 16) (place + 24) 0 0 0 0 page id u v w x (λ e. omega (arith, e)))
    x.here zeros_found in
    stored_place zeroth first second third fourth place (place + 8) (place + 16) (place + 24) 0 0 0 0 page id u v w x (place / 32) (ap (λ a. a / 32) is)
    refl (omega (arith, is)) (omega (arith, is)) (omega (arith, is)) (Err DirectoryEntryNotValid) (subst (λ a. loaded_context (context_words_at fourth a) ≡ Err DirectoryEntryNotValid) is here)

-- What stands in the ways of a set, and at the places of a cache.
use Rattle.std.proofs.Common.{◌≡◌, ◌≢◌, ◌<◌, ◌+◌, ◌*◌, ◌/◌, ◌%◌, ◌∙◌, ℕ, Bool, true, false, cond, List, get_or, option_map, IfSome, Option, Some, None, refl, sym, ap, subst, inl, inr, arith}
use Rattle.std.proofs.lemmas.Bool.Decides.{eqb_tells}
use Rattle.std.proofs.lemmas.Option.{get_or_from_slice_get, slice_get-get_or}
use Rattle.iom_tlb.specs.declared.space.Space.{Space}
use Rattle.iom_tlb.specs.declared.cached_page.CachedPage.{CachedPage}
use Rattle.iom_tlb.specs.declared.trans_cache.Translation.{Translation}
use Rattle.iom_tlb.specs.Places.{IsInWay, HasWays, IsCached, HavePlaces}
use Rattle.iom_tlb.specs.Ways.{Ways, is_space, space_word, in_ways, in_set, no_ways}
use Rattle.iom_tlb.specs.WayCalls.{AreWays, AreAtHome}
use Rattle.iom_tlb.proofs.SetLemmas.{looked}
use Rattle.iom_tlb.proofs.WayLemmas.{found_way}
use Rattle.iom_tlb.proofs.WordLemmas.{no_word}

guard_true : (b : Bool) (x : Option Translation) (t : Translation) → cond b x None ≡ Some t → (b ≡ true) × (x ≡ Some t)
guard_true true x t e = (refl, e)
guard_true false x t e = absurd (cc)

-- what a set has stands in one of its ways
pub in_way : (ways : Ways) (facts : AreWays ways) → HasWays ways
in_way ways facts cached is =
    let guarded = guard_true (is_space cached.space) (in_ways ways.spaces ways.pages ways.translations (space_word cached.space) cached.page) cached.translation is in
    let found = found_way ways.spaces ways.pages ways.translations (space_word cached.space) cached.page cached.translation guarded.1 in
    (found.way, omega (arith, found.within, facts.eight_spaces), record { space = guarded.0; word = found.space; page = found.number; translation = found.translation })

-- and what stands in a way the set has
pub held : (ways : Ways) (facts : AreWays ways) (way : ℕ) (cached : CachedPage) → way < 8 → IsInWay ways way cached → in_set ways (cached.space, cached.page) ≡ Some cached.translation
held ways facts way cached lt is =
    looked ways facts (cached.space, cached.page) way cached.translation is.space lt (word, page) alone ∙ ap Some (get_or_from_slice_get ways.translations way cached.translation cached.translation is.translation)
  where
    word : get_or ways.spaces way 0 ≡ space_word cached.space
    word = get_or_from_slice_get ways.spaces way (space_word cached.space) 0 is.word

    page : get_or ways.pages way 0 ≡ cached.page
    page = get_or_from_slice_get ways.pages way cached.page 0 is.page

    alone : (k : ℕ) → k < way → get_or ways.spaces k 0 ≡ space_word cached.space → get_or ways.pages k 0 ≢ cached.page
    alone k less own = λ same.
        let one : k ≡ way = facts.once k way (λ e. no_word cached.space (sym own ∙ e)) (own ∙ sym word) (same ∙ sym page) in
        omega (arith, one, less)

-- the space that a way's word is of stands there
pub stands : (ways : Ways) (facts : AreWays ways) (way : ℕ) (read : Option Space) → way < 8
    → ((space : Space) → is_space space ≡ true → space_word space ≡ get_or ways.spaces way 0 → read ≡ Some space) → (get_or ways.spaces way 0 ≡ 0 → read ≡ None)
    → (space : Space) → read ≡ Some space → (is_space space ≡ true) × (space_word space ≡ get_or ways.spaces way 0)
stands ways facts way read lt given empty space is = elim (eqb_tells (get_or ways.spaces way 0) 0) [
  | inl none ↦ absurd (some_none (sym is ∙ empty none.1))
  | inr some ↦ by (facts.words way some.1)
]
  where
    some_none : Some space ≡ None → ⊥
    some_none e = cc

    by : (own : Space) × (is_space own ≡ true) × (space_word own ≡ get_or ways.spaces way 0) → (is_space space ≡ true) × (space_word space ≡ get_or ways.spaces way 0)
    by own =
        let same : own.0 ≡ space = inside (sym (given own.0 own.1 own.2) ∙ is) in
        (subst (λ s. is_space s ≡ true) same own.1, subst (λ s. space_word s ≡ get_or ways.spaces way 0) same own.2)
      where
        inside : {a : Space} → Some a ≡ Some space → a ≡ space
        inside e = cc

-- what is read of a way stands there, and the set has it
pub in_its_way : (ways : Ways) (facts : AreWays ways) (way : ℕ) (space : Space) (d : Translation) → way < 8
    → (is_space space ≡ true) × (space_word space ≡ get_or ways.spaces way 0)
    → IsInWay ways way (record { space = space; page = get_or ways.pages way 0; translation = get_or ways.translations way d })
    × (in_set ways (space, get_or ways.pages way 0) ≡ Some (get_or ways.translations way d))
in_its_way ways facts way space d lt own =
    let is : IsInWay ways way (record { space = space; page = get_or ways.pages way 0; translation = get_or ways.translations way d }) = record {
      space = own.0;
      word = slice_get-get_or ways.spaces way 0 (omega (arith, lt, facts.eight_spaces)) ∙ ap Some (sym own.1);
      page = slice_get-get_or ways.pages way 0 (omega (arith, lt, facts.eight_pages));
      translation = slice_get-get_or ways.translations way d (omega (arith, lt, facts.eight_translations));
    } in
    (is, held ways facts way (record { space = space; page = get_or ways.pages way 0; translation = get_or ways.translations way d }) lt is)

-- what stands in a way is what is read there
pub read_there : (ways : Ways) (way : ℕ) (read : Option Space) (d : Translation)
    → ((space : Space) → is_space space ≡ true → space_word space ≡ get_or ways.spaces way 0 → read ≡ Some space)
    → (cached : CachedPage) → IsInWay ways way cached → (space : Space) → read ≡ Some space
    → ◌≡◌ {A = Option CachedPage} (Some (record { space = space; page = get_or ways.pages way 0; translation = get_or ways.translations way d })) (Some cached)
read_there ways way read d given cached is space at =
    let own : Some space ≡ Some cached.space = sym at ∙ given cached.space is.space (sym (get_or_from_slice_get ways.spaces way (space_word cached.space) 0 is.word)) in
    let page : get_or ways.pages way 0 ≡ cached.page = get_or_from_slice_get ways.pages way cached.page 0 is.page in
    let translation : get_or ways.translations way d ≡ cached.translation = get_or_from_slice_get ways.translations way cached.translation d is.translation in
    rw (page, translation) (ap (option_map (λ s. record { space = s; page = cached.page; translation = cached.translation })) own)

-- a place of each way of each set
pub in_place : (sets : List Ways) → ((number : ℕ) → number < 64 → HasWays (get_or sets number no_ways)) → HavePlaces sets
in_place sets ways cached is =
    let set : ℕ = cached.page % 64 in
    let found = ways set (omega arith) cached is in
    let quotient : (8 * set + found.0) / 8 ≡ set = omega (arith, found.1) in
    let rest : (8 * set + found.0) % 8 ≡ found.0 = omega (arith, found.1) in
    (8 * set + found.0, omega (arith, found.1), rw (quotient, rest) found.2)

-- what stands in a way of a set is cached: its page is at home there
pub cached_there : (sets : List Ways) (number way : ℕ) (found : Option CachedPage) → AreAtHome number (get_or sets number no_ways)
    → IfSome found (λ cached. IsInWay (get_or sets number no_ways) way cached × (in_set (get_or sets number no_ways) (cached.space, cached.page) ≡ Some cached.translation))
    → IfSome found (IsCached sets)
cached_there sets number way None home is = tt
cached_there sets number way (Some cached) home is =
    let word = get_or_from_slice_get (get_or sets number no_ways).spaces way (space_word cached.space) 0 is.0.word in
    let page = get_or_from_slice_get (get_or sets number no_ways).pages way cached.page 0 is.0.page in
    let own : cached.page % 64 ≡ number = ap (λ p. p % 64) (sym page) ∙ home way (λ e. no_word cached.space (sym word ∙ e)) in
    rw own is.1

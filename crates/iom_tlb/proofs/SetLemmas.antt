-- What a set has after a key took a way, and after ways were emptied.
use Rattle.std.proofs.Common.{◌≡◌, ◌≢◌, ◌<◌, ◌⊎◌, ◌∙◌, inl, inr, ℕ, Bool, true, false, cond, List, get_or, set, replicate, Option, Some, None, refl, sym, ap, arith}
use Rattle.std.proofs.lemmas.Bool.Decides.{eqb_tells}
use Rattle.std.proofs.lemmas.List.{get_or-set_other, get_or_past, length-set}
use Rattle.std.proofs.lemmas.Grind.{get_or-set_at}
use Rattle.std.proofs.lemmas.Option.{get_or_from_slice_get}
use Rattle.iom_tlb.specs.declared.space.Space.{Space}
use Rattle.iom_tlb.specs.declared.trans_cache.Translation.{Translation}
use Rattle.iom_tlb.specs.Content.{Key, Sets, left_by, DropsWhere}
use Rattle.iom_tlb.specs.Entries.{is_key, has_key}
use Rattle.iom_tlb.specs.Ways.{Ways, is_space, space_word, in_ways, in_set}
use Rattle.iom_tlb.specs.WayCalls.{AreWays, AreAtHome, HasKey, with_way, PutsWay, Empties, OnlyEmptied}
use Rattle.iom_tlb.proofs.EmptyLemmas.{zeros}
use Rattle.iom_tlb.proofs.KeyLemmas.{key_laws, one_key, apart_keys}
use Rattle.iom_tlb.proofs.WordLemmas.{no_word, one_word}
use Rattle.iom_tlb.proofs.WayLemmas.{Found, found_at, found_way, none_at, none_there, put_other, same_ways}

same_key : (a b : Key) → a.0 ≡ b.0 → a.1 ≡ b.1 → a ≡ b
same_key a b s n = let P : Space → ℕ → Key = λ x y. (x, y) in ap (λ x. P x a.1) s ∙ ap (P b.0) n

-- nothing behind a test is nothing
guarded : (b : Bool) (x : Option Translation) → (b ≡ true → x ≡ None) → cond b x None ≡ None
guarded true x e = e refl
guarded false x e = refl

-- what is behind a test matters where the test is true
guarded_same : (b : Bool) (x y : Option Translation) → (b ≡ true → x ≡ y) → cond b x None ≡ cond b y None
guarded_same true x y e = e refl
guarded_same false x y e = refl

-- a way has the key or hasn't
has_or_not : (ways : Ways) (word page way : ℕ) → HasKey ways word page way ⊎ (get_or ways.spaces way 0 ≡ word → get_or ways.pages way 0 ≢ page)
has_or_not ways word page way = elim (eqb_tells (get_or ways.spaces way 0) word) [
  | inl s ↦ elim (eqb_tells (get_or ways.pages way 0) page) [
    | inl p ↦ inl (s.1, p.1)
    | inr p ↦ inr (λ e. p.1)
  ]
  | inr s ↦ inr (λ e. absurd (s.1 e))
]

module _ (ways : Ways) (facts : AreWays ways) where
  -- the lowest way that has the key answers
  pub looked : (key : Key) (way : ℕ) (d : Translation) → is_space key.0 ≡ true → way < 8 → HasKey ways (space_word key.0) key.1 way
      → ((k : ℕ) → k < way → get_or ways.spaces k 0 ≡ space_word key.0 → get_or ways.pages k 0 ≢ key.1)
      → in_set ways key ≡ Some (get_or ways.translations way d)
  looked key way d fits lt has low =
      let eight = facts.eight_spaces in
      let pages = facts.eight_pages in
      let translations = facts.eight_translations in
      ap (λ b. cond b (in_ways ways.spaces ways.pages ways.translations (space_word key.0) key.1) None) fits
      ∙ found_at (space_word key.0) key.1 ways.spaces ways.pages ways.translations way d (omega arith) (omega arith) (omega arith) has.0 has.1 low

  -- a way that has a key is one of the eight
  within : (space : Space) (k : ℕ) → get_or ways.spaces k 0 ≡ space_word space → ((k < 8) → ⊥) → ⊥
  within space k e out = let eight = facts.eight_spaces in no_word space (sym e ∙ get_or_past ways.spaces k 0 (omega (arith, out)))

  pub none_has : (key : Key) → ((k : ℕ) → k < 8 → get_or ways.spaces k 0 ≡ space_word key.0 → get_or ways.pages k 0 ≢ key.1)
      → (k : ℕ) → get_or ways.spaces k 0 ≡ space_word key.0 → get_or ways.pages k 0 ≢ key.1
  none_has key none k e = λ f. within key.0 k e (λ lt. none k lt e f)

  -- where no way has it there is nothing
  pub missed : (key : Key) → ((k : ℕ) → k < 8 → get_or ways.spaces k 0 ≡ space_word key.0 → get_or ways.pages k 0 ≢ key.1) → in_set ways key ≡ None
  missed key none =
      guarded (is_space key.0) _ (λ own. none_at (space_word key.0) key.1 ways.spaces ways.pages ways.translations (none_has key none))

  -- no other way has it
  pub only_this : (key : Key) (way : ℕ) → HasKey ways (space_word key.0) key.1 way → (k : ℕ) → HasKey ways (space_word key.0) key.1 k → k ≡ way
  only_this key way has k other = facts.once k way (λ z. no_word key.0 (sym other.0 ∙ z)) (other.0 ∙ sym has.0) (other.1 ∙ sym has.1)

  module _ (at : Key) (fits : is_space at.0 ≡ true) (way : ℕ) (lt : way < 8) (t : Translation) (next : ℕ) (only : (k : ℕ) → HasKey ways (space_word at.0) at.1 k → k ≡ way) where
    space_there : (k : ℕ) → k ≡ way → get_or (set ways.spaces way (space_word at.0)) k 0 ≡ space_word at.0
    space_there k e = let eight = facts.eight_spaces in get_or-set_at ways.spaces way k (space_word at.0) 0 e (omega arith)

    page_there : (k : ℕ) → k ≡ way → get_or (set ways.pages way at.1) k 0 ≡ at.1
    page_there k e = let eight = facts.eight_pages in get_or-set_at ways.pages way k at.1 0 e (omega arith)

    space_else : (k : ℕ) → k ≢ way → get_or (set ways.spaces way (space_word at.0)) k 0 ≡ get_or ways.spaces k 0
    space_else k ne = get_or-set_other ways.spaces way k (space_word at.0) 0 ne

    page_else : (k : ℕ) → k ≢ way → get_or (set ways.pages way at.1) k 0 ≡ get_or ways.pages k 0
    page_else k ne = get_or-set_other ways.pages way k at.1 0 ne

    not_below : (k : ℕ) → k < way → get_or (set ways.spaces way (space_word at.0)) k 0 ≡ space_word at.0 → get_or (set ways.pages way at.1) k 0 ≢ at.1
    not_below k less e = λ f.
        let ne : k ≢ way = omega arith in
        ne (only k (sym (space_else k ne) ∙ e, sym (page_else k ne) ∙ f))

    kept : in_set (with_way ways way (space_word at.0) at.1 t next) at ≡ Some t
    kept =
        let eight = facts.eight_spaces in
        let pages = facts.eight_pages in
        let translations = facts.eight_translations in
        let a = length-set ways.spaces way (space_word at.0) in
        let b = length-set ways.pages way at.1 in
        let c = length-set ways.translations way t in
        ap (λ b. cond b (in_ways (set ways.spaces way (space_word at.0)) (set ways.pages way at.1) (set ways.translations way t) (space_word at.0) at.1) None) fits
        ∙ found_at (space_word at.0) at.1 (set ways.spaces way (space_word at.0)) (set ways.pages way at.1) (set ways.translations way t) way t
        (omega arith) (omega arith) (omega arith) (space_there way refl) (page_there way refl) not_below
        ∙ ap Some (get_or-set_at ways.translations way way t t refl (omega arith))

    -- another key, whose old way it is
    module _ (key : Key) (apart : key ≢ at) where
      differs : is_space key.0 ≡ true → space_word at.0 ≡ space_word key.0 → at.1 ≢ key.1
      differs own e = λ f. apart (same_key key at (one_word key.0 at.0 own fits (sym e)) (sym f))

      gone_at : is_space key.0 ≡ true → HasKey ways (space_word key.0) key.1 way
          → (k : ℕ) → get_or (set ways.spaces way (space_word at.0)) k 0 ≡ space_word key.0 → get_or (set ways.pages way at.1) k 0 ≢ key.1
      gone_at own has k e = λ f. elim (eqb_tells k way) [
        | inl same ↦ differs own (sym (space_there k same.1) ∙ e) (sym (page_there k same.1) ∙ f)
        | inr ne ↦ ne.1 (only_this key way has k (sym (space_else k ne.1) ∙ e, sym (page_else k ne.1) ∙ f))
      ]

      unchanged : (is_space key.0 ≡ true → get_or ways.spaces way 0 ≡ space_word key.0 → get_or ways.pages way 0 ≢ key.1)
          → in_set (with_way ways way (space_word at.0) at.1 t next) key ≡ in_set ways key
      unchanged hasnt = guarded_same (is_space key.0) _ _ (λ own.
          put_other (space_word key.0) key.1 ways.spaces ways.pages ways.translations way (space_word at.0) at.1 t (differs own) (hasnt own))

      gone : is_space key.0 ≡ true → HasKey ways (space_word key.0) key.1 way → in_set (with_way ways way (space_word at.0) at.1 t next) key ≡ None
      gone own has = guarded (is_space key.0) _ (λ own. none_at (space_word key.0) key.1 (set ways.spaces way (space_word at.0)) (set ways.pages way at.1) (set ways.translations way t) (gone_at own has))

      either : (out : Key) → (is_space key.0 ≡ true → HasKey ways (space_word key.0) key.1 way → key ≡ out) → (b : Bool) → is_space key.0 ≡ b
          → (in_set (with_way ways way (space_word at.0) at.1 t next) key ≡ in_set ways key)
          ⊎ ((key ≡ out) × (in_set (with_way ways way (space_word at.0) at.1 t next) key ≡ None))
      either out is_out true own = elim (has_or_not ways (space_word key.0) key.1 way) [
        | inl has ↦ inr (is_out own has, gone own has)
        | inr hasnt ↦ inl (unchanged (λ own. hasnt))
      ]
      either out is_out false own = inl (unchanged (λ true_too. absurd (cc)))

    Others : Key → Type 0
    Others out = (key : Key) → key ≢ at → (in_set (with_way ways way (space_word at.0) at.1 t next) key ≡ in_set ways key)
        ⊎ ((key ≡ out) × (in_set (with_way ways way (space_word at.0) at.1 t next) key ≡ None))

    others : (out : Key) × Others out
    unfolding Others
    others = elim (eqb_tells (get_or ways.spaces way 0) 0) [
      | inl empty ↦ (at, λ key apart. either key apart at (λ own has. absurd (no_word key.0 (sym has.0 ∙ empty.1))) (is_space key.0) refl)
      | inr taken ↦ (
        ((facts.words way taken.1).0, get_or ways.pages way 0),
        λ key apart. either key apart ((facts.words way taken.1).0, get_or ways.pages way 0)
            (λ own has. let word = facts.words way taken.1 in same_key key (word.0, get_or ways.pages way 0) (one_word key.0 word.0 own word.1 (sym has.0 ∙ sym word.2)) (sym has.1))
            (is_space key.0) refl,
      )
    ]

    -- what a keep does to the content
    pub sets : Sets (in_set ways) at t (in_set (with_way ways way (space_word at.0) at.1 t next))
    unfolding Others
    sets = record { kept = kept; others = others }

    once_still : (a b : ℕ) → get_or (set ways.spaces way (space_word at.0)) a 0 ≢ 0
        → get_or (set ways.spaces way (space_word at.0)) a 0 ≡ get_or (set ways.spaces way (space_word at.0)) b 0
        → get_or (set ways.pages way at.1) a 0 ≡ get_or (set ways.pages way at.1) b 0 → a ≡ b
    once_still a b there e f = elim (eqb_tells a way) [
      | inl x ↦ elim (eqb_tells b way) [
        | inl y ↦ x.1 ∙ sym y.1
        | inr y ↦ absurd (y.1 (only b (sym (space_else b y.1) ∙ sym e ∙ space_there a x.1, sym (page_else b y.1) ∙ sym f ∙ page_there a x.1)))
      ]
      | inr x ↦ elim (eqb_tells b way) [
        | inl y ↦ absurd (x.1 (only a (sym (space_else a x.1) ∙ e ∙ space_there b y.1, sym (page_else a x.1) ∙ f ∙ page_there b y.1)))
        | inr y ↦ facts.once a b (λ z. there (space_else a x.1 ∙ z)) (sym (space_else a x.1) ∙ e ∙ space_else b y.1) (sym (page_else a x.1) ∙ f ∙ page_else b y.1)
      ]
    ]

    words_still : (k : ℕ) → get_or (set ways.spaces way (space_word at.0)) k 0 ≢ 0
        → (space : Space) × (is_space space ≡ true) × (space_word space ≡ get_or (set ways.spaces way (space_word at.0)) k 0)
    words_still k there = elim (eqb_tells k way) [
      | inl same ↦ (at.0, fits, sym (space_there k same.1))
      | inr ne ↦ let word = facts.words k (λ z. there (space_else k ne.1 ∙ z)) in (word.0, word.1, word.2 ∙ sym (space_else k ne.1))
    ]

    -- and the invariant stays true
    pub are_ways : next < 8 → AreWays (with_way ways way (space_word at.0) at.1 t next)
    are_ways counter = record {
      eight_spaces = length-set ways.spaces way (space_word at.0) ∙ facts.eight_spaces;
      eight_pages = length-set ways.pages way at.1 ∙ facts.eight_pages;
      eight_translations = length-set ways.translations way t ∙ facts.eight_translations;
      counter = counter;
      words = words_still;
      once = once_still;
    }

  -- the way of one key, emptied
  pub empties_one : (at : Key) (way : ℕ) → is_space at.0 ≡ true → way < 8 → HasKey ways (space_word at.0) at.1 way
      → Empties (has_key at) ways.pages ways.translations ways.spaces (set ways.spaces way 0)
  empties_one at way fits lt has = record {
    as_many = length-set ways.spaces way 0;
    empty_or_same = λ k. elim (eqb_tells k way) [
      | inl same ↦ inl (there k same.1)
      | inr ne ↦ inr (get_or-set_other ways.spaces way k 0 0 ne.1)
    ];
    tested = λ k space cached own e at_k. elim (eqb_tells k way) [
      | inl same ↦ there k same.1 ∙ sym (ap (λ b. cond b 0 (space_word space)) (is_it k space own e same.1))
      | inr ne ↦ get_or-set_other ways.spaces way k 0 0 ne.1 ∙ e ∙ sym (ap (λ b. cond b 0 (space_word space)) (is_not k space e ne.1))
    ];
  } where
    there : (k : ℕ) → k ≡ way → get_or (set ways.spaces way 0) k 0 ≡ 0
    there k e = let eight = facts.eight_spaces in get_or-set_at ways.spaces way k 0 0 e (omega arith)

    is_it : (k : ℕ) (space : Space) → is_space space ≡ true → get_or ways.spaces k 0 ≡ space_word space → k ≡ way → is_key at (space, get_or ways.pages k 0) ≡ true
    is_it k space own e same =
        let one = same_key at (space, get_or ways.pages k 0) (one_word at.0 space fits own (sym has.0 ∙ ap (λ j. get_or ways.spaces j 0) (sym same) ∙ e)) (sym has.1 ∙ ap (λ j. get_or ways.pages j 0) (sym same)) in
        ap (is_key at) (sym one) ∙ key_laws.refl at

    is_not : (k : ℕ) (space : Space) → get_or ways.spaces k 0 ≡ space_word space → k ≢ way → is_key at (space, get_or ways.pages k 0) ≡ false
    is_not k space e ne = apart_keys at (space, get_or ways.pages k 0) (λ same.
        ne (only_this at way has k (e ∙ ap (λ (x : Key). space_word x.0) (sym same), ap (λ (x : Key). x.1) (sym same))))

module _ (ways : Ways) (facts : AreWays ways) (is_out : Key → Translation → Bool) (new : List ℕ) (empties : Empties is_out ways.pages ways.translations ways.spaces new) where
  abbrev Had : Key → Option Translation
  Had key = in_ways ways.spaces ways.pages ways.translations (space_word key.0) key.1

  abbrev Has : Key → Option Translation
  Has key = in_ways new ways.pages ways.translations (space_word key.0) key.1

  -- a word that is left was there
  was_there : (key : Key) (k : ℕ) → get_or new k 0 ≡ space_word key.0 → get_or ways.spaces k 0 ≡ space_word key.0
  was_there key k e = elim (empties.empty_or_same k) [
    | inl z ↦ absurd (no_word key.0 (sym e ∙ z))
    | inr s ↦ sym s ∙ e
  ]

  -- where nothing was nothing is
  still_none : (key : Key) → Had key ≡ None → Has key ≡ None
  still_none key none =
      let eight = facts.eight_spaces in
      let pages = facts.eight_pages in
      let translations = facts.eight_translations in
      none_at (space_word key.0) key.1 new ways.pages ways.translations (λ k e.
      none_has ways facts key
      (λ j lt own. none_there (space_word key.0) key.1 ways.spaces ways.pages ways.translations none (omega arith) (omega arith) j (omega arith) own)
      k (was_there key k e))

  module _ (key : Key) (own : is_space key.0 ≡ true) (t : Translation) (found : Found ways.spaces ways.pages ways.translations (space_word key.0) key.1 t) where
    has : HasKey ways (space_word key.0) key.1 found.way
    has = (get_or_from_slice_get ways.spaces found.way (space_word key.0) 0 found.space, get_or_from_slice_get ways.pages found.way key.1 0 found.number)

    tested : get_or new found.way 0 ≡ cond (is_out key t) 0 (space_word key.0)
    tested = empties.tested found.way key.0 t own has.0 found.translation ∙ ap (λ n. cond (is_out (key.0, n) t) 0 (space_word key.0)) has.1

    in_that_way : (k : ℕ) → get_or ways.spaces k 0 ≡ space_word key.0 → get_or ways.pages k 0 ≡ key.1 → get_or new k 0 ≡ cond (is_out key t) 0 (space_word key.0)
    in_that_way k e f = ap (λ j. get_or new j 0) (only_this ways facts key found.way has k (e, f)) ∙ tested

    -- what passes the test is gone, and what doesn't is left
    out_or_left : Had key ≡ Some t → (b : Bool) → is_out key t ≡ b → Has key ≡ cond b None (Some t)
    out_or_left is true out = none_at (space_word key.0) key.1 new ways.pages ways.translations (λ k e. λ f.
        no_word key.0 (sym e ∙ in_that_way k (was_there key k e) f ∙ ap (λ b. cond b 0 (space_word key.0)) out))
    out_or_left is false out =
        same_ways (space_word key.0) key.1 new ways.spaces ways.pages ways.translations empties.as_many
        (λ k f. (was_there key k, λ e. in_that_way k e f ∙ ap (λ b. cond b 0 (space_word key.0)) out))
        ∙ is

  left : (key : Key) → is_space key.0 ≡ true → (was : Option Translation) → Had key ≡ was → Has key ≡ left_by (is_out key) was
  left key own None is = still_none key is
  left key own (Some t) is = out_or_left key own t (found_way ways.spaces ways.pages ways.translations (space_word key.0) key.1 t is) is (is_out key t) refl

  left_at : (key : Key) (b : Bool) → is_space key.0 ≡ b → cond b (Has key) None ≡ left_by (is_out key) (cond b (Had key) None)
  left_at key true own = left key own (Had key) refl
  left_at key false own = refl

  -- what that does to the content
  pub drops : DropsWhere is_out (in_set ways) (in_set (record { spaces = new; pages = ways.pages; translations = ways.translations; next = ways.next }))
  drops key = left_at key (is_space key.0) refl

  same_word : (k : ℕ) → get_or new k 0 ≢ 0 → get_or new k 0 ≡ get_or ways.spaces k 0
  same_word k there = elim (empties.empty_or_same k) [
    | inl z ↦ absurd (there z)
    | inr s ↦ s
  ]

  -- and the invariant stays true
  pub emptied_ways : AreWays (record { spaces = new; pages = ways.pages; translations = ways.translations; next = ways.next })
  emptied_ways = record {
    eight_spaces = empties.as_many ∙ facts.eight_spaces;
    eight_pages = facts.eight_pages;
    eight_translations = facts.eight_translations;
    counter = facts.counter;
    words = λ k there.
        let same = same_word k there in
        let word = facts.words k (λ z. there (same ∙ z)) in
        (word.0, word.1, word.2 ∙ sym same);
    once = λ a b there e f.
        let x = same_word a there in
        let y = same_word b (λ z. there (e ∙ z)) in
        facts.once a b (λ z. there (x ∙ z)) (sym x ∙ e ∙ y) f;
  }

  -- and each page that is left is at home
  pub still_home : (number : ℕ) → AreAtHome number ways → AreAtHome number (record { spaces = new; pages = ways.pages; translations = ways.translations; next = ways.next })
  still_home number home way there = home way (λ z. there (same_word way there ∙ z))

module _ (ways : Ways) (facts : AreWays ways) (at : Key) where
  -- where no way has the key there is nothing to take out
  pub drops_nothing : ((k : ℕ) → k < 8 → get_or ways.spaces k 0 ≡ space_word at.0 → get_or ways.pages k 0 ≢ at.1) → DropsWhere (has_key at) (in_set ways) (in_set ways)
  drops_nothing none key = same (in_set ways key) refl
    where
      other : (t : Translation) → in_set ways key ≡ Some t → (b : Bool) → is_key at key ≡ b → Some t ≡ cond b None (Some t)
      other t is true same_key = let nothing : in_set ways key ≡ None = ap (in_set ways) (sym (one_key at key same_key)) ∙ missed ways facts at none in absurd (cc)
      other t is false apart = refl

      same : (was : Option Translation) → in_set ways key ≡ was → was ≡ left_by (has_key at key) was
      same None is = refl
      same (Some t) is = other t is (is_key at key) refl

  module _ (fits : is_space at.0 ≡ true) (t : Translation) (new : Ways) (puts : PutsWay ways (space_word at.0) at.1 t new) where
    Bounds : Type 0
    Bounds = (puts.0 < 8) × (puts.1 < 8) × ((k : ℕ) → HasKey ways (space_word at.0) at.1 k → k ≡ puts.0)

    bounds : Bounds
    unfolding Bounds
    bounds = let counter = facts.counter in elim puts.2 [
      | inl there ↦ (there.0, omega (arith, there.2), only_this ways facts at puts.0 there.1)
      | inr absent ↦ elim absent.1 [
        | inl empty ↦ (empty.0, omega (arith, empty.3), λ k has. absurd (absent.0 k has))
        | inr full ↦ (omega (arith, full.1), omega (arith, full.2), λ k has. absurd (absent.0 k has))
      ]
    ]

    -- a keep
    pub puts_sets : Sets (in_set ways) at t (in_set new)
    unfolding Bounds
    puts_sets = rw (puts.3) (sets ways facts at fits puts.0 bounds.0 t puts.1 bounds.2)

    pub puts_ways : AreWays new
    unfolding Bounds
    puts_ways = rw (puts.3) (are_ways ways facts at fits puts.0 bounds.0 t puts.1 bounds.2 bounds.1)

-- WAYS EMPTIED, AND NOTHING ELSE
pub none_emptied : (ways : Ways) → OnlyEmptied ways ways
none_emptied ways = record { empty_or_same = λ way. inr refl; pages = refl; translations = refl; counter = refl }

pub emptied_again : {old between new : Ways} → OnlyEmptied old between → OnlyEmptied between new → OnlyEmptied old new
emptied_again first second = record {
  empty_or_same = λ way. elim (second.empty_or_same way) [
    | inl empty ↦ inl empty
    | inr same ↦ elim (first.empty_or_same way) [
      | inl empty ↦ inl (same ∙ empty)
      | inr earlier ↦ inr (same ∙ earlier)
    ]
  ];
  pages = second.pages ∙ first.pages;
  translations = second.translations ∙ first.translations;
  counter = second.counter ∙ first.counter;
}

-- those that pass a test
pub emptied_by_test : (ways : Ways) (is_out : Key → Translation → Bool) (new : List ℕ) → Empties is_out ways.pages ways.translations ways.spaces new
    → OnlyEmptied ways (record { spaces = new; pages = ways.pages; translations = ways.translations; next = ways.next })
emptied_by_test ways is_out new empties = record { empty_or_same = empties.empty_or_same; pages = refl; translations = refl; counter = refl }

-- all
pub emptied_all : (ways : Ways) (many : ℕ) → OnlyEmptied ways (record { spaces = replicate many 0; pages = ways.pages; translations = ways.translations; next = ways.next })
emptied_all ways many = record { empty_or_same = λ way. inl (zeros many way); pages = refl; translations = refl; counter = refl }

-- What holds of each set of a cache, after a set was made, and after one was changed.
use Rattle.std.proofs.Common.{◌≡◌, ◌≢◌, ◌<◌, ◌%◌, ◌∙◌, inl, inr, ℕ, zero, suc, Bool, true, false, cond, List, [], ◌∷◌, ◌++◌, length, get_or, set, Option, Some, None, refl, sym, ap, subst, arith}
use Rattle.std.proofs.lemmas.Bool.Decides.{eqb_tells}
use Rattle.std.proofs.lemmas.List.{get_or-set_other, length-set}
use Rattle.std.proofs.lemmas.Grind.{get_or-set_at}
use Rattle.iom_tlb.specs.declared.trans_cache.Translation.{Translation}
use Rattle.iom_tlb.specs.Content.{Key, HasNothing, left_by, DropsWhere}
use Rattle.iom_tlb.specs.Ways.{Ways, is_space, in_set, no_ways, content_of_sets}
use Rattle.iom_tlb.specs.WayCalls.{AreAtHome, AreSets, OnlyEmptied, AreOnlyEmptied}
use Rattle.iom_tlb.proofs.SetLemmas.{none_emptied}

nothing_either : (b : Bool) → ◌≡◌ {A = Option Translation} (cond b None None) None
nothing_either true = refl
nothing_either false = refl

-- past the last set there is nothing
pub nothing_past : HasNothing (in_set no_ways)
nothing_past key = nothing_either (is_space key.0)

pub home_past : (number : ℕ) → AreAtHome number no_ways
home_past number way there = absurd (there refl)

-- one more set
pub pushed : (P : ℕ → Ways → Type 0) (sets : List Ways) (new : Ways) → ((k : ℕ) → P k no_ways) → ((k : ℕ) → P k (get_or sets k no_ways)) → ((k : ℕ) → P k new)
    → (k : ℕ) → P k (get_or (sets ++ new ∷ []) k no_ways)
pushed P [] new past all here zero = here zero
pushed P [] new past all here (suc k) = past (suc k)
pushed P (first ∷ sets) new past all here zero = all zero
pushed P (first ∷ sets) new past all here (suc k) = pushed (λ j. P (suc j)) sets new (λ j. past (suc j)) (λ j. all (suc j)) (λ j. here (suc j)) k

-- another set in the place of one
pub changed : (P : ℕ → Ways → Type 0) (sets : List Ways) (i : ℕ) (new : Ways) → i < length sets → P i new → ((k : ℕ) → k ≢ i → P k (get_or sets k no_ways))
    → (k : ℕ) → P k (get_or (set sets i new) k no_ways)
changed P sets i new lt here rest k = elim (eqb_tells k i) [
  | inl same ↦ subst (λ s. P k s) (sym (get_or-set_at sets i k new no_ways same.1 lt)) (subst (λ j. P j new) (sym same.1) here)
  | inr ne ↦ subst (λ s. P k s) (sym (get_or-set_other sets i k new no_ways ne.1)) (rest k ne.1)
]

-- what isn't there stays as it is, where the test lets all pass that is there
untouched : (is_out : Translation → Bool) (was : Option Translation) → ((t : Translation) → was ≡ Some t → is_out t ≡ false) → was ≡ left_by is_out was
untouched is_out None none = refl
untouched is_out (Some t) none = sym (ap (λ b. cond b None (Some t)) (none t refl))

-- two tests that say the same of what is there leave the same
same_left : (one two : Translation → Bool) (was : Option Translation) → ((t : Translation) → was ≡ Some t → one t ≡ two t) → left_by one was ≡ left_by two was
same_left one two None same = refl
same_left one two (Some t) same = ap (λ b. cond b None (Some t)) (same t refl)

-- A DROP IN ONE SET, where all that is to go is there
module _ (old : List Ways) (i : ℕ) (before after : Ways) (lt : i < length old) (here : before ≡ get_or old i no_ways) where
  -- the invariant stays true where the new set is as much at home
  pub sound_in_one : AreSets old → ((number : ℕ) → AreAtHome number before → AreAtHome number after) → AreSets (set old i after)
  sound_in_one invariants home = (
    length-set old i after ∙ invariants.0,
    changed (λ k s. AreAtHome k s) old i after lt (home i (subst (λ s. AreAtHome i s) (sym here) (invariants.1 i))) (λ k ne. invariants.1 k),
  )

  pub dropped_in_one : (goes is_out : Key → Translation → Bool) → DropsWhere goes (in_set before) (in_set after)
      → ((key : Key) (t : Translation) → content_of_sets old key ≡ Some t → key.1 % 64 ≡ i → goes key t ≡ is_out key t)
      → ((key : Key) (t : Translation) → content_of_sets old key ≡ Some t → key.1 % 64 ≢ i → is_out key t ≡ false)
      → DropsWhere is_out (content_of_sets old) (content_of_sets (set old i after))
  dropped_in_one goes is_out drops same none key = elim (eqb_tells (key.1 % 64) i) [
    | inl own ↦
        let was : in_set before key ≡ content_of_sets old key = ap (λ s. in_set s key) (here ∙ ap (λ j. get_or old j no_ways) (sym own.1)) in
        ap (λ s. in_set s key) (get_or-set_at old i (key.1 % 64) after no_ways own.1 lt)
        ∙ drops key ∙ ap (left_by (goes key)) was
        ∙ same_left (goes key) (is_out key) (content_of_sets old key) (λ t is. same key t is own.1)
    | inr ne ↦
        ap (λ s. in_set s key) (get_or-set_other old i (key.1 % 64) after no_ways ne.1)
        ∙ untouched (is_out key) (content_of_sets old key) (λ t is. none key t is ne.1)
  ]

  pub emptied_in_one : OnlyEmptied before after → AreOnlyEmptied old (set old i after)
  emptied_in_one emptied =
      changed (λ k s. OnlyEmptied (get_or old k no_ways) s) old i after lt (subst (λ s. OnlyEmptied s after) here emptied) (λ k ne. none_emptied (get_or old k no_ways))

-- a drop in all
pub dropped_in_all : (is_out : Key → Translation → Bool) (old new : List Ways) → length old ≡ 64
    → ((number : ℕ) → number < length old → DropsWhere is_out (in_set (get_or old number no_ways)) (in_set (get_or new number no_ways)))
    → DropsWhere is_out (content_of_sets old) (content_of_sets new)
dropped_in_all is_out old new many drops key = drops (key.1 % 64) (omega (arith, many)) key

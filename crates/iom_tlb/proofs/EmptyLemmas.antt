-- Ways emptied one after the other, from the lowest on: what holds so far.
use Rattle.std.proofs.Common.{◌≡◌, ◌≢◌, ◌<◌, ◌≤◌, ◌+◌, ◌⊎◌, ◌∙◌, inl, inr, ℕ, zero, suc, Bool, true, false, cond, List, length, replicate, get_or, set, slice_get, Some, refl, sym, ap, arith}
use Rattle.std.proofs.lemmas.Bool.Decides.{eqb_tells}
use Rattle.std.proofs.lemmas.List.{get_or-set_other, get_or_past, length-set}
use Rattle.std.proofs.lemmas.Grind.{get_or-set_at}
use Rattle.iom_tlb.specs.declared.space.Space.{Space}
use Rattle.iom_tlb.specs.declared.trans_cache.Translation.{Translation}
use Rattle.iom_tlb.specs.Content.{Key}
use Rattle.iom_tlb.specs.Ways.{is_space, space_word}
use Rattle.iom_tlb.specs.WayCalls.{Empties}
use Rattle.iom_tlb.proofs.WordLemmas.{no_word}

-- eight zeros, or however many, have nothing else
pub zeros : (many way : ℕ) → ◌≡◌ {A = ℕ} (get_or (replicate many 0) way 0) 0
zeros zero way = refl
zeros (suc many) zero = refl
zeros (suc many) (suc way) = zeros many way

-- the ways below a number are tested, and the others are as they were
pub record EmptiesBelow (n : ℕ) (is_out : Key → Translation → Bool) (pages : List ℕ) (translations : List Translation) (old new : List ℕ) : Type 0 where
  pub as_many : length new ≡ length old
  pub rest : (way : ℕ) → n ≤ way → get_or new way 0 ≡ get_or old way 0
  pub empty_or_same : (way : ℕ) → (get_or new way 0 ≡ 0) ⊎ (get_or new way 0 ≡ get_or old way 0)
  pub tested : (way : ℕ) (space : Space) (cached : Translation) → way < n → is_space space ≡ true → get_or old way 0 ≡ space_word space → slice_get translations way ≡ Some cached
      → get_or new way 0 ≡ cond (is_out (space, get_or pages way 0) cached) 0 (space_word space)

module _ (is_out : Key → Translation → Bool) (pages : List ℕ) (translations : List Translation) (old : List ℕ) where
  -- where all are empty already
  pub empty_already : ((way : ℕ) → get_or old way 0 ≡ 0) → Empties is_out pages translations old old
  empty_already none = record {
    as_many = refl;
    empty_or_same = λ way. inr refl;
    tested = λ way space cached own e at. absurd (no_word space (sym e ∙ none way));
  }

  pub none_yet : EmptiesBelow 0 is_out pages translations old old
  none_yet = record { as_many = refl; rest = λ way le. refl; empty_or_same = λ way. inr refl; tested = λ way space cached lt own e at. absurd (omega arith) }

  pub all_tested : (new : List ℕ) → EmptiesBelow (length old) is_out pages translations old new → Empties is_out pages translations old new
  all_tested new so_far = record {
    as_many = so_far.as_many;
    empty_or_same = so_far.empty_or_same;
    tested = λ way space cached own e at. so_far.tested way space cached (within way space e) own e at;
  } where
    within : (way : ℕ) (space : Space) → get_or old way 0 ≡ space_word space → way < length old
    within way space e = omega (arith, λ (out : length old ≤ way). no_word space (sym e ∙ get_or_past old way 0 out))

  module _ (n : ℕ) (new : List ℕ) (so_far : EmptiesBelow n is_out pages translations old new) where
    -- a way that passes is emptied
    pub one_out : n < length old → ((space : Space) → is_space space ≡ true → space_word space ≡ get_or new n 0 → (cached : Translation) → slice_get translations n ≡ Some cached → is_out (space, get_or pages n 0) cached ≡ true)
        → EmptiesBelow (n + 1) is_out pages translations old (set new n 0)
    one_out lt out = record {
      as_many = length-set new n 0 ∙ so_far.as_many;
      rest = λ way le. let ne : way ≢ n = omega arith in get_or-set_other new n way 0 0 ne ∙ so_far.rest way (omega arith);
      empty_or_same = λ way. elim (eqb_tells way n) [
        | inl same ↦ inl (there way same.1)
        | inr ne ↦ elim (so_far.empty_or_same way) [
          | inl z ↦ inl (get_or-set_other new n way 0 0 ne.1 ∙ z)
          | inr s ↦ inr (get_or-set_other new n way 0 0 ne.1 ∙ s)
        ]
      ];
      tested = λ way space cached less own e at. elim (eqb_tells way n) [
        | inl same ↦ there way same.1 ∙ sym (ap (λ b. cond b 0 (space_word space)) (passes way space cached same.1 own e at))
        | inr ne ↦ get_or-set_other new n way 0 0 ne.1 ∙ so_far.tested way space cached (omega (arith, ne.1)) own e at
      ];
    } where
      there : (way : ℕ) → way ≡ n → get_or (set new n 0) way 0 ≡ 0
      there way e = let many = so_far.as_many in get_or-set_at new n way 0 0 e (omega arith)

      passes : (way : ℕ) (space : Space) (cached : Translation) → way ≡ n → is_space space ≡ true → get_or old way 0 ≡ space_word space → slice_get translations way ≡ Some cached
          → is_out (space, get_or pages way 0) cached ≡ true
      passes way space cached same own e at =
          ap (λ k. is_out (space, get_or pages k 0) cached) same
          ∙ out space own (sym e ∙ ap (λ k. get_or old k 0) same ∙ sym (so_far.rest n (omega arith))) cached (ap (λ k. slice_get translations k) (sym same) ∙ at)

    -- a way that doesn't stays
    pub one_in : ((space : Space) → is_space space ≡ true → space_word space ≡ get_or new n 0 → (cached : Translation) → slice_get translations n ≡ Some cached → is_out (space, get_or pages n 0) cached ≡ false)
        → EmptiesBelow (n + 1) is_out pages translations old new
    one_in unchanged = record {
      as_many = so_far.as_many;
      rest = λ way le. so_far.rest way (omega arith);
      empty_or_same = so_far.empty_or_same;
      tested = λ way space cached less own e at. elim (eqb_tells way n) [
        | inl same ↦ so_far.rest way (omega (arith, same.1)) ∙ e ∙ sym (ap (λ b. cond b 0 (space_word space)) (fails way space cached same.1 own e at))
        | inr ne ↦ so_far.tested way space cached (omega (arith, ne.1)) own e at
      ];
    } where
      fails : (way : ℕ) (space : Space) (cached : Translation) → way ≡ n → is_space space ≡ true → get_or old way 0 ≡ space_word space → slice_get translations way ≡ Some cached
          → is_out (space, get_or pages way 0) cached ≡ false
      fails way space cached same own e at =
          ap (λ k. is_out (space, get_or pages k 0) cached) same
          ∙ unchanged space own (sym e ∙ ap (λ k. get_or old k 0) same ∙ sym (so_far.rest n (omega arith))) cached (ap (λ k. slice_get translations k) (sym same) ∙ at)

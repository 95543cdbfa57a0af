-- What ways have for a word and a page; after one is written, and after some are emptied.
use Rattle.std.proofs.Common.{◌≡◌, ◌≢◌, ◌<◌, ◌==◌, ◌&&◌, ◌∙◌, inl, inr, ℕ, zero, suc, Bool, true, false, cond, List, [], ◌∷◌, length, get_or, set, slice_get, Option, Some, None, refl, sym, ap, arith}
use Rattle.std.proofs.lemmas.Bool.{eq-eqb, eqb-true, ne_eqb}
use Rattle.std.proofs.lemmas.Bool.Decides.{eqb_tells}
use Rattle.iom_tlb.specs.declared.trans_cache.Translation.{Translation}
use Rattle.iom_tlb.specs.Ways.{in_ways}
use Rattle.iom_tlb.proofs.KeyLemmas.{both}

some_none : (t : Translation) → Some t ≡ None → ⊥
some_none t e = cc

past : (b : Bool) (t : Translation) (rest : Option Translation) → cond b (Some t) rest ≡ None → rest ≡ None
past true t rest e = absurd (cc)
past false t rest e = e

module _ (s p : ℕ) where
  test_yes : (x q : ℕ) → x ≡ s → q ≡ p → (x == s) && (q == p) ≡ true
  test_yes x q e f = rw (eq-eqb x s e, eq-eqb q p f) refl

  test_no : (x q : ℕ) → (x ≡ s → q ≢ p) → (x == s) && (q == p) ≡ false
  test_no x q ne = elim (eqb_tells x s) [
    | inl e ↦ rw (e.0, ne_eqb q p (ne e.1)) refl
    | inr e ↦ rw e.0 refl
  ]

  -- the lowest way that has them answers
  pub found_at : (ss ps : List ℕ) (ts : List Translation) (w : ℕ) (d : Translation) → w < length ss → length ps ≡ length ss → length ts ≡ length ss
      → get_or ss w 0 ≡ s → get_or ps w 0 ≡ p → ((k : ℕ) → k < w → get_or ss k 0 ≡ s → get_or ps k 0 ≢ p) → in_ways ss ps ts s p ≡ Some (get_or ts w d)
  found_at [] ps ts w d lt a b e f low = absurd (omega arith)
  found_at (x ∷ ss) [] ts w d lt a b e f low = absurd (omega arith)
  found_at (x ∷ ss) (q ∷ ps) [] w d lt a b e f low = absurd (omega arith)
  found_at (x ∷ ss) (q ∷ ps) (t ∷ ts) zero d lt a b e f low = ap (λ r. cond r (Some t) (in_ways ss ps ts s p)) (test_yes x q e f)
  found_at (x ∷ ss) (q ∷ ps) (t ∷ ts) (suc w) d lt a b e f low =
      ap (λ r. cond r (Some t) (in_ways ss ps ts s p)) (test_no x q (low 0 (omega arith)))
      ∙ found_at ss ps ts w d (omega arith) (omega arith) (omega arith) e f (λ k less. low (suc k) (omega arith))

  -- where none has them there is nothing
  pub none_at : (ss ps : List ℕ) (ts : List Translation) → ((k : ℕ) → get_or ss k 0 ≡ s → get_or ps k 0 ≢ p) → in_ways ss ps ts s p ≡ None
  none_at [] ps ts no_one = refl
  none_at (x ∷ ss) [] ts no_one = refl
  none_at (x ∷ ss) (q ∷ ps) [] no_one = refl
  none_at (x ∷ ss) (q ∷ ps) (t ∷ ts) no_one =
      ap (λ r. cond r (Some t) (in_ways ss ps ts s p)) (test_no x q (no_one 0)) ∙ none_at ss ps ts (λ k. no_one (suc k))

  -- and where there is nothing none has them
  pub none_there : (ss ps : List ℕ) (ts : List Translation) → in_ways ss ps ts s p ≡ None → length ps ≡ length ss → length ts ≡ length ss
      → (k : ℕ) → k < length ss → get_or ss k 0 ≡ s → get_or ps k 0 ≢ p
  none_there [] ps ts none a b k lt e = absurd (omega arith)
  none_there (x ∷ ss) [] ts none a b k lt e = absurd (omega arith)
  none_there (x ∷ ss) (q ∷ ps) [] none a b k lt e = absurd (omega arith)
  none_there (x ∷ ss) (q ∷ ps) (t ∷ ts) none a b zero lt e = λ f.
      let there : cond ((x == s) && (q == p)) (Some t) (in_ways ss ps ts s p) ≡ Some t = ap (λ r. cond r (Some t) (in_ways ss ps ts s p)) (test_yes x q e f) in
      some_none t (sym there ∙ none)
  none_there (x ∷ ss) (q ∷ ps) (t ∷ ts) none a b (suc k) lt e =
      none_there ss ps ts (past ((x == s) && (q == p)) t (in_ways ss ps ts s p) none) (omega arith) (omega arith) k (omega arith) e

  -- a way that had something else, and has something else now, changes nothing
  pub put_other : (ss ps : List ℕ) (ts : List Translation) (w x1 q1 : ℕ) (t1 : Translation) → (x1 ≡ s → q1 ≢ p) → (get_or ss w 0 ≡ s → get_or ps w 0 ≢ p)
      → in_ways (set ss w x1) (set ps w q1) (set ts w t1) s p ≡ in_ways ss ps ts s p
  put_other [] ps ts w x1 q1 t1 new old = refl
  put_other (x ∷ ss) [] ts zero x1 q1 t1 new old = refl
  put_other (x ∷ ss) [] ts (suc w) x1 q1 t1 new old = refl
  put_other (x ∷ ss) (q ∷ ps) [] zero x1 q1 t1 new old = refl
  put_other (x ∷ ss) (q ∷ ps) [] (suc w) x1 q1 t1 new old = refl
  put_other (x ∷ ss) (q ∷ ps) (t ∷ ts) zero x1 q1 t1 new old =
      ap (λ r. cond r (Some t1) (in_ways ss ps ts s p)) (test_no x1 q1 new) ∙ sym (ap (λ r. cond r (Some t) (in_ways ss ps ts s p)) (test_no x q old))
  put_other (x ∷ ss) (q ∷ ps) (t ∷ ts) (suc w) x1 q1 t1 new old =
      ap (λ r. cond ((x == s) && (q == p)) (Some t) r) (put_other ss ps ts w x1 q1 t1 new old)

  agree : (x y q : ℕ) → (q ≡ p → (x ≡ s → y ≡ s) × (y ≡ s → x ≡ s)) → (x == s) && (q == p) ≡ (y == s) && (q == p)
  agree x y q h = elim (eqb_tells x s) [
    | inl a ↦ elim (eqb_tells q p) [
      | inl b ↦ test_yes x q a.1 b.1 ∙ sym (test_yes y q ((h b.1).0 a.1) b.1)
      | inr b ↦ test_no x q (λ e. b.1) ∙ sym (test_no y q (λ e. b.1))
    ]
    | inr a ↦ test_no x q (λ e. absurd (a.1 e)) ∙ sym (test_no y q (λ e f. a.1 ((h f).1 e)))
  ]

  -- ways that have them where they had them
  pub same_ways : (new old ps : List ℕ) (ts : List Translation) → length new ≡ length old
      → ((k : ℕ) → get_or ps k 0 ≡ p → (get_or new k 0 ≡ s → get_or old k 0 ≡ s) × (get_or old k 0 ≡ s → get_or new k 0 ≡ s))
      → in_ways new ps ts s p ≡ in_ways old ps ts s p
  same_ways [] [] ps ts len h = refl
  same_ways [] (y ∷ old) ps ts len h = absurd (omega arith)
  same_ways (x ∷ new) [] ps ts len h = absurd (omega arith)
  same_ways (x ∷ new) (y ∷ old) [] ts len h = refl
  same_ways (x ∷ new) (y ∷ old) (q ∷ ps) [] len h = refl
  same_ways (x ∷ new) (y ∷ old) (q ∷ ps) (t ∷ ts) len h =
      ap (λ r. cond r (Some t) (in_ways new ps ts s p)) (agree x y q (h 0))
      ∙ ap (λ r. cond ((y == s) && (q == p)) (Some t) r) (same_ways new old ps ts (omega arith) (λ k. h (suc k)))

-- what is found for a word and a page stands in one of the ways
pub record Found (ss ps : List ℕ) (ts : List Translation) (word page : ℕ) (t : Translation) : Type 0 where
  pub way : ℕ
  pub within : way < length ss
  pub space : slice_get ss way ≡ Some word
  pub number : slice_get ps way ≡ Some page
  pub translation : slice_get ts way ≡ Some t

pub found_way : (ss ps : List ℕ) (ts : List Translation) (word page : ℕ) (t : Translation) → in_ways ss ps ts word page ≡ Some t → Found ss ps ts word page t
found_way [] ps ts word page t is = absurd (cc)
found_way (s ∷ ss) [] ts word page t is = absurd (cc)
found_way (s ∷ ss) (p ∷ ps) [] word page t is = absurd (cc)
found_way (s ∷ ss) (p ∷ ps) (own ∷ ts) word page t is = by (found_way ss ps ts word page t) ((s == word) && (p == page)) refl
  where
    by : (in_ways ss ps ts word page ≡ Some t → Found ss ps ts word page t) → (b : Bool) → (s == word) && (p == page) ≡ b → Found (s ∷ ss) (p ∷ ps) (own ∷ ts) word page t
    by later true e = record {
      way = 0;
      within = omega arith;
      space = ap Some (eqb-true s word (both (s == word) (p == page) e).0);
      number = ap Some (eqb-true p page (both (s == word) (p == page) e).1);
      translation = sym (ap (λ b. cond b (Some own) (in_ways ss ps ts word page)) e) ∙ is;
    }
    by later false e =
        let found = later (sym (ap (λ b. cond b (Some own) (in_ways ss ps ts word page)) e) ∙ is) in
        record { way = suc found.way; within = omega (arith, found.within); space = found.space; number = found.number; translation = found.translation }

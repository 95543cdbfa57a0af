-- Keys of the cache: pages of address spaces.
use Rattle.std.proofs.Common.{◌≡◌, ◌≢◌, ◌⊎◌, inl, inr, ℕ, Bool, true, false, ◌&&◌, refl, sym, ap, ◌∙◌, nat_eq}
use Rattle.std.specs.Cmp.{IsEquivalence, nat_eq_equiv, on_equiv, and_equiv}
use Rattle.std.proofs.lemmas.Bool.{eqb-true}
use Rattle.iom_tlb.specs.contracts.space.SpacePartialEq.TheImpl as space
use Rattle.iom_tlb.specs.contracts.space.SpaceEq.TheImpl.Laws as space_eq
use Rattle.iom_tlb.specs.declared.space.Space.{Space}
use Rattle.iom_tlb.specs.declared.space.Space.TheVariants.{First, Second, Both}
use Rattle.iom_tlb.specs.Content.{Key}
use Rattle.iom_tlb.specs.Entries.{is_key}

pub both : (x y : Bool) → x && y ≡ true → (x ≡ true) × (y ≡ true)
both true y e = (refl, e)
both false y e = absurd (cc)

one_space : (a b : Space) → space.ghosts.eq a b ≡ true → a ≡ b
one_space (First p) (First q) e = ap First (eqb-true p q e)
one_space (Second g) (Second h) e = ap Second (eqb-true g h e)
one_space (Both g p) (Both h q) e =
    let two = both (nat_eq g h) (nat_eq p q) e in
    ap (λ x. Both x p) (eqb-true g h two.0) ∙ ap (λ x. Both h x) (eqb-true p q two.1)
one_space (First p) (Second h) e = absurd (cc)
one_space (First p) (Both h q) e = absurd (cc)
one_space (Second g) (First q) e = absurd (cc)
one_space (Second g) (Both h q) e = absurd (cc)
one_space (Both g p) (First q) e = absurd (cc)
one_space (Both g p) (Second h) e = absurd (cc)

-- equal keys are one
pub one_key : (a b : Key) → is_key a b ≡ true → a ≡ b
one_key a b e =
    let two = both (space.ghosts.eq a.0 b.0) (nat_eq a.1 b.1) e in
    let P : Space → ℕ → Key = λ s n. (s, n) in
    ap (λ s. P s a.1) (one_space a.0 b.0 two.0) ∙ ap (P b.0) (eqb-true a.1 b.1 two.1)

-- to be equal is an equivalence
pub key_laws : IsEquivalence is_key
key_laws = and_equiv (on_equiv (λ k. k.0) space_eq.laws-law) (on_equiv (λ k. k.1) nat_eq_equiv)

unequal : (a b : Key) (t : Bool) → is_key a b ≡ t → (a ≡ b) ⊎ (a ≢ b)
unequal a b true e = inl (one_key a b e)
unequal a b false e = inr (λ same. let P : Key → Bool = is_key a in let itself : is_key a b ≡ true = ap P (sym same) ∙ key_laws.refl a in absurd (cc))

-- two keys are one, or aren't
pub one_or_other : (a b : Key) → (a ≡ b) ⊎ (a ≢ b)
one_or_other a b = unequal a b (is_key a b) refl

tests_apart : (a b : Key) → a ≢ b → (t : Bool) → is_key a b ≡ t → is_key a b ≡ false
tests_apart a b apart true e = absurd (apart (one_key a b e))
tests_apart a b apart false e = e

-- keys that aren't one don't pass for one
pub apart_keys : (a b : Key) → a ≢ b → is_key a b ≡ false
apart_keys a b apart = tests_apart a b apart (is_key a b) refl

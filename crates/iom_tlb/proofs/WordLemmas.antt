-- The words of address spaces: none is 0, and no two address spaces have one.
use Rattle.std.proofs.Common.{◌≡◌, ◌≢◌, ◌^◌, true, nat_lt, ap, ◌∙◌, arith}
use Rattle.std.proofs.lemmas.Bool.{ltb-true}
use Rattle.iom_tlb.specs.declared.space.Space.{Space}
use Rattle.iom_tlb.specs.declared.space.Space.TheVariants.{First, Second, Both}
use Rattle.iom_tlb.specs.Ways.{is_space, space_word}
use Rattle.iom_tlb.proofs.KeyLemmas.{both}

pub no_word : (s : Space) → space_word s ≢ 0
no_word (First p) = λ e. omega arith
no_word (Second g) = λ e. omega arith
no_word (Both g p) = λ e. omega arith

pub one_word : (a b : Space) → is_space a ≡ true → is_space b ≡ true → space_word a ≡ space_word b → a ≡ b
one_word (First p) (First q) f h e = ap First (omega arith)
one_word (First p) (Second g) f h e = let lt = ltb-true p (2 ^ 32) f in absurd (omega arith)
one_word (First p) (Both g q) f h e = let lt = ltb-true p (2 ^ 32) f in absurd (omega arith)
one_word (Second g) (First p) f h e = let lt = ltb-true p (2 ^ 32) h in absurd (omega arith)
one_word (Second g) (Second i) f h e = ap Second (omega arith)
one_word (Second g) (Both i q) f h e = let lt = ltb-true g (2 ^ 16) f in absurd (omega arith)
one_word (Both g p) (First q) f h e = let lt = ltb-true q (2 ^ 32) h in absurd (omega arith)
one_word (Both g p) (Second i) f h e = let lt = ltb-true i (2 ^ 16) h in absurd (omega arith)
one_word (Both g p) (Both i q) f h e =
    let p_below = ltb-true p (2 ^ 32) (both (nat_lt g (2 ^ 16)) (nat_lt p (2 ^ 32)) f).1 in
    let q_below = ltb-true q (2 ^ 32) (both (nat_lt i (2 ^ 16)) (nat_lt q (2 ^ 32)) h).1 in
    let g_same : g ≡ i = omega arith in
    let p_same : p ≡ q = omega arith in
    ap (λ n. Both n p) g_same ∙ ap (λ n. Both i n) p_same

-- The test of a glob says what the definition says.
use Rattle.std.proofs.Common.{◌≡◌, ◌↔◌, ℕ, ◌≤◌, Bool, true, false, ◌==◌, ◌&&◌, ◌||◌, IsTrue, List, [], ◌∷◌, length, drop, zero, suc, refl, sym, ap, ◌∙◌, subst, arith, rules}
use Rattle.std.proofs.lemmas.Bool.{false≢true, eqb-true, eq-eqb}
use Rattle.iom_litmus_test.specs.declared.glob.GlobPart.{GlobPart}
use Rattle.iom_litmus_test.specs.declared.glob.GlobPart.TheVariants.{Anything, Byte}
use Rattle.iom_litmus_test.specs.Globs.{Matches, is_match, is_some_end}

both_true : (a b : Bool) → (a && b) ≡ true → (a ≡ true) × (b ≡ true)
both_true true b e = (refl, e)
both_true false b e = absurd (false≢true e)

pub end_from_test : (test : List ℕ → Bool) (text : List ℕ) → is_some_end test text ≡ true → (count : ℕ) × (count ≤ length text) × (test (drop count text) ≡ true)
end_from_test test [] holds = (0, omega arith, holds)
end_from_test test (byte ∷ rest) holds = by (test (byte ∷ rest)) refl holds (end_from_test test rest)
  where
    by : (b : Bool) → test (byte ∷ rest) ≡ b → (b || is_some_end test rest) ≡ true
        → (is_some_end test rest ≡ true → (count : ℕ) × (count ≤ length rest) × (test (drop count rest) ≡ true))
        → (count : ℕ) × (count ≤ length (byte ∷ rest)) × (test (drop count (byte ∷ rest)) ≡ true)
    by true here _ _ = (0, omega arith, here)
    by false _ later there = let (count, within, at) = there later in (suc count, omega arith, at)

pub test_from_end : (test : List ℕ → Bool) (text : List ℕ) (count : ℕ) → count ≤ length text → test (drop count text) ≡ true → is_some_end test text ≡ true
test_from_end test [] zero within at = at
test_from_end test [] (suc count) within at = absurd (omega arith)
test_from_end test (byte ∷ rest) zero within at = ap (λ b. b || is_some_end test rest) at
test_from_end test (byte ∷ rest) (suc count) within at = by (test (byte ∷ rest)) (test_from_end test rest count (omega arith) at)
  where
    by : (b : Bool) → is_some_end test rest ≡ true → (b || is_some_end test rest) ≡ true
    by true _ = refl
    by false later = later

pub matches_from_test : (parts : List GlobPart) (text : List ℕ) → is_match parts text ≡ true → Matches parts text
matches_from_test [] [] holds = refl
matches_from_test [] (byte ∷ rest) holds = absurd (false≢true holds)
matches_from_test (Byte byte ∷ parts) [] holds = absurd (false≢true holds)
matches_from_test (Byte byte ∷ parts) (first ∷ others) holds =
    let (here, later) = both_true (byte == first) (is_match parts others) holds in
    (others, ap (λ b. b ∷ others) (sym (eqb-true byte first here)), matches_from_test parts others later)
matches_from_test (Anything ∷ parts) text holds =
    let (count, within, at) = end_from_test (is_match parts) text holds in (count, within, matches_from_test parts (drop count text) at)

pub test_from_matches : (parts : List GlobPart) (text : List ℕ) → Matches parts text → is_match parts text ≡ true
test_from_matches [] text none = subst (λ t. is_match [] t ≡ true) (sym none) refl
test_from_matches (Byte byte ∷ parts) text (others, is, rest) =
    subst (λ t. is_match (Byte byte ∷ parts) t ≡ true) (sym is)
    (ap (λ b. b && is_match parts others) (eq-eqb byte byte refl) ∙ test_from_matches parts others rest)
test_from_matches (Anything ∷ parts) text (count, within, rest) = test_from_end (is_match parts) text count within (test_from_matches parts (drop count text) rest)

-- so a result that says what the definition says is the test
pub result_is_test : (result : Bool) (parts : List GlobPart) (text : List ℕ) → (IsTrue result ↔ Matches parts text) → result ≡ is_match parts text
result_is_test true parts text (is, _) = sym (test_from_matches parts text (is (search rules)))
result_is_test false parts text (_, is) = by (is_match parts text) refl
  where
    by : (b : Bool) → is_match parts text ≡ b → false ≡ b
    by false _ = refl
    by true holds = absurd (false≢true (is (matches_from_test parts text holds)))

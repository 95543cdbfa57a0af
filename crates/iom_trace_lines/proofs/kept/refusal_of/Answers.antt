use Rattle.std.proofs.Common.{◌≡◌, ◌++◌, ◌∷◌, ◌∙◌, List, ℕ, ap, append_assoc, arith, codes, sym}
use Rattle.std.specs.Fmt.{decimal}
use Rattle.iom_trace_lines.proofs.kept.refusal_of.Goals as goal

-- a number and a name, by other terms
said_so : (text : List ℕ) (number also : ℕ) (name other : List ℕ) → text ≡ decimal number ++ 32 ∷ name → number ≡ also → name ≡ other → text ≡ decimal also ++ codes " " ++ other
said_so text number also name other is same named =
    is ∙ ap (λ (n : ℕ). decimal n ++ 32 ∷ name) same ∙ ap (λ (l : List ℕ). decimal also ++ 32 ∷ l) named ∙ sym (append_assoc (decimal also) (codes " ") other)

pub returns-then-is_word : goal.returns-then-is_word
returns-then-is_word c =
    let number : c.in_ok-number.number ≡ c.number.result = omega (arith, c.if-from-number.true, c.from.ensures) in
    said_so _ _ _ _ _ c.loop-why.invariant (number ∙ c.number.ensures) (c.is_word.ensures.0 c.if-is_word.true ∙ c.as_bytes.ensures.value ∙ c.name.ensures)

use Rattle.std.proofs.Common.{◌≡◌, ◌++◌, ◌∷◌, ◌∙◌, ◌<◌, [], List, ℕ, ap, append-nil, arith, length, refl}
use Rattle.iom_trace_lines.proofs.TraceLemmas.{step_alone}
use Rattle.iom_trace_lines.proofs.line.read_step.Goals as goal

-- a text of no byte
empty : (text : List ℕ) → length text < 1 → text ≡ []
empty [] low = refl
empty (byte ∷ text) low = absurd (omega (arith, low))

pub returns-in-Some-default-empty : goal.returns-in-Some-default-empty
returns-in-Some-default-empty c said says =
    let (answer, tells, is) = c.in-Some-default-empty.ensures in
    let nothing = empty c.in-Some-default-empty.field-0-1.now c.in-Some-default-empty.len_below in
    step_alone said c.args.answered.now answer c.args.event c.in-Some-default-empty.outcome.now [] says tells (is ∙ ap (λ (l : List ℕ). answer ++ l) nothing ∙ append-nil answer)

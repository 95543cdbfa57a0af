use Rattle.std.specs.Prelude.{◌≡◌, ◌++◌, ◌∷◌}
use Rattle.std.specs.Fmt.{decimal}
use Rattle.iom_trace_lines.proofs.kept.refusal_of.Given as goal

-- the text says the number and the name
abbrev pub invariant-loop-why : goal.invariant-loop-why
invariant-loop-why l = l.text ≡ decimal l.number ++ 32 ∷ l.name

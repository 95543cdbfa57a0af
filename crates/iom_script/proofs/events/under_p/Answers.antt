use Rattle.std.proofs.Common.{codes, [], ◌∷◌, None, refl, arith}
use Rattle.std.proofs.lemmas.Result.{IfOk-weaker}
use Rattle.iom_script.specs.Reading.{Reads}
use Rattle.iom_script.specs.Cuts.{IsLineOf, IsLineWith, starts_under_p}
use Rattle.iom_script.proofs.LineLemmas.{either_line, found_line}
use Rattle.iom_script.proofs.events.under_p.Goals as goal

pub returns-in-Some : goal.returns-in-Some
returns-in-Some c = found_line starts_under_p (codes "peek ") c.args.line.now c.in-Some.event (0, omega arith, refl) c.in-Some.ensures

pub returns-in-None : goal.returns-in-None
returns-in-None c =
    let line = c.args.line.now in
    IfOk-weaker c.poke.result (λ event. Reads event (IsLineWith (codes "poke ") line)) (λ event. Reads event (IsLineOf starts_under_p line))
    (λ event more. either_line line (codes "peek " ∷ []) (codes "poke " ∷ []) None event c.in-None.ensures more)
    c.poke.ensures

use Rattle.std.proofs.Common.{codes, [], ◌∷◌, None, refl, arith}
use Rattle.std.proofs.lemmas.Result.{IfOk-weaker}
use Rattle.iom_script.specs.Reading.{Reads}
use Rattle.iom_script.specs.Cuts.{IsLineOf, IsLineWith, starts_of_requests}
use Rattle.iom_script.proofs.LineLemmas.{either_line, found_line}
use Rattle.iom_script.proofs.events.request_of.Goals as goal

pub returns-in-Some : goal.returns-in-Some
returns-in-Some c = found_line starts_of_requests (codes "read ") c.args.line.now c.in-Some.event (0, omega arith, refl) c.in-Some.ensures

pub returns-in-None : goal.returns-in-None
returns-in-None c =
    let line = c.args.line.now in
    IfOk-weaker c.write.result (λ event. Reads event (IsLineWith (codes "write ") line)) (λ event. Reads event (IsLineOf starts_of_requests line))
    (λ event more. either_line line (codes "read " ∷ []) (codes "write " ∷ []) None event c.in-None.ensures more)
    c.write.ensures

use Rattle.std.proofs.Common.{codes, [], ◌∷◌, None, refl, arith}
use Rattle.std.proofs.lemmas.Result.{IfOk-weaker}
use Rattle.iom_script.specs.Reading.{Reads}
use Rattle.iom_script.specs.Cuts.{IsLineOf, IsLineWith, starts_under_t}
use Rattle.iom_script.proofs.LineLemmas.{either_line, found_line}
use Rattle.iom_script.proofs.events.under_t.Goals as goal

pub returns-in-Some : goal.returns-in-Some
returns-in-Some c = found_line starts_under_t (codes "tread ") c.args.line.now c.in-Some.event (0, omega arith, refl) c.in-Some.ensures

pub returns-in-None : goal.returns-in-None
returns-in-None c =
    let line = c.args.line.now in
    IfOk-weaker c.write_translated.result (λ event. Reads event (IsLineWith (codes "twrite ") line)) (λ event. Reads event (IsLineOf starts_under_t line))
    (λ event more. either_line line (codes "tread " ∷ []) (codes "twrite " ∷ []) None event c.in-None.ensures more)
    c.write_translated.ensures

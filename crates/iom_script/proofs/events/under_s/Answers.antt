use Rattle.std.proofs.Common.{codes, [], ◌∷◌, None, refl, arith}
use Rattle.iom_script.specs.Cuts.{starts_under_s}
use Rattle.iom_script.proofs.LineLemmas.{either_line, found_line}
use Rattle.iom_script.proofs.events.under_s.Goals as goal

pub returns-in-Some : goal.returns-in-Some
returns-in-Some c = found_line starts_under_s (codes "step ") c.args.line.now c.in-Some.event (0, omega arith, refl) c.in-Some.ensures

pub returns-in-None : goal.returns-in-None
returns-in-None c = either_line c.args.line.now (codes "step " ∷ []) (codes "status " ∷ []) None c.status.result c.in-None.ensures c.status.ensures

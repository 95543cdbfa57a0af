use Rattle.std.proofs.Common.{codes, [], ◌∷◌, None, refl, arith}
use Rattle.iom_script.specs.Cuts.{starts_under_q}
use Rattle.iom_script.proofs.LineLemmas.{either_line, found_line}
use Rattle.iom_script.proofs.events.under_q.Goals as goal

pub returns-in-Some : goal.returns-in-Some
returns-in-Some c = found_line starts_under_q (codes "queue ") c.args.line.now c.in-Some.event (0, omega arith, refl) c.in-Some.ensures

pub returns-in-None : goal.returns-in-None
returns-in-None c = either_line c.args.line.now (codes "queue " ∷ []) (codes "quarantine " ∷ []) None c.quarantine.result c.in-None.ensures c.quarantine.ensures

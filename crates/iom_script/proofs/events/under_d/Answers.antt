use Rattle.std.proofs.Common.{codes, [], ◌∷◌, None, refl, arith}
use Rattle.iom_script.specs.Cuts.{starts_under_d}
use Rattle.iom_script.proofs.LineLemmas.{either_line, found_line}
use Rattle.iom_script.proofs.events.under_d.Goals as goal

pub returns-in-Some : goal.returns-in-Some
returns-in-Some c = found_line starts_under_d (codes "deliver ") c.args.line.now c.in-Some.event (0, omega arith, refl) c.in-Some.ensures

pub returns-in-Some-lose : goal.returns-in-Some-lose
returns-in-Some-lose c = found_line starts_under_d (codes "drop ") c.args.line.now c.in-Some-lose.event (1, omega arith, refl) c.in-Some-lose.ensures

pub returns-in-Some-plug : goal.returns-in-Some-plug
returns-in-Some-plug c = found_line starts_under_d (codes "device ") c.args.line.now c.in-Some-plug.event (2, omega arith, refl) c.in-Some-plug.ensures

pub returns-in-None-plug : goal.returns-in-None-plug
returns-in-None-plug c =
    let line = c.args.line.now in
    let event = c.detach.result in
    let plug = either_line line (codes "device " ∷ []) (codes "detach " ∷ []) None event c.in-None-plug.ensures c.detach.ensures in
    let lose = either_line line (codes "drop " ∷ []) (codes "device " ∷ codes "detach " ∷ []) None event c.in-None-lose.ensures plug in
    either_line line (codes "deliver " ∷ []) (codes "drop " ∷ codes "device " ∷ codes "detach " ∷ []) None event c.in-None.ensures lose

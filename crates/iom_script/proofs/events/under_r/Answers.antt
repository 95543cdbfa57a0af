use Rattle.std.proofs.Common.{codes, [], ◌∷◌, None, refl, arith}
use Rattle.iom_script.specs.Cuts.{starts_under_r}
use Rattle.iom_script.proofs.LineLemmas.{either_line, found_line}
use Rattle.iom_script.proofs.events.under_r.Goals as goal

pub returns-in-Some : goal.returns-in-Some
returns-in-Some c = found_line starts_under_r (codes "read ") c.args.line.now c.in-Some.event (0, omega arith, refl) c.in-Some.ensures

pub returns-in-Some-release : goal.returns-in-Some-release
returns-in-Some-release c = found_line starts_under_r (codes "release ") c.args.line.now c.in-Some-release.event (1, omega arith, refl) c.in-Some-release.ensures

pub returns-in-Some-repeat : goal.returns-in-Some-repeat
returns-in-Some-repeat c = found_line starts_under_r (codes "repeat ") c.args.line.now c.in-Some-repeat.event (2, omega arith, refl) c.in-Some-repeat.ensures

pub returns-in-Some-reset : goal.returns-in-Some-reset
returns-in-Some-reset c = found_line starts_under_r (codes "reset ") c.args.line.now c.in-Some-reset.event (3, omega arith, refl) c.in-Some-reset.ensures

pub returns-in-None-reset : goal.returns-in-None-reset
returns-in-None-reset c =
    let line = c.args.line.now in
    let event = c.revive.result in
    let reset = either_line line (codes "reset " ∷ []) (codes "revive " ∷ []) None event c.in-None-reset.ensures c.revive.ensures in
    let repeat = either_line line (codes "repeat " ∷ []) (codes "reset " ∷ codes "revive " ∷ []) None event c.in-None-repeat.ensures reset in
    let release = either_line line (codes "release " ∷ []) (codes "repeat " ∷ codes "reset " ∷ codes "revive " ∷ []) None event c.in-None-release.ensures repeat in
    either_line line (codes "read " ∷ []) (codes "release " ∷ codes "repeat " ∷ codes "reset " ∷ codes "revive " ∷ []) None event c.in-None.ensures release

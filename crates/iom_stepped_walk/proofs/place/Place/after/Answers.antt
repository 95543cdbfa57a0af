-- A lawful leaf whose frame lies in memory.
use Rattle.std.proofs.Common.{arith}
use Rattle.iom_stepped_walk.proofs.StepLemmas.{found_is}
use Rattle.iom_stepped_walk.specs.Indices.{indices_below}
use Rattle.iom_stepped_walk.specs.Steps.{along}
use Rattle.iom_stepped_walk.proofs.place.Place.after.Goals as goal

pub returns-then-frame-from : goal.returns-then-frame-from
returns-then-frame-from c = λ fault access found stopped.
    let place = c.args.self in
    found_is c.args.frames c.args.kind fault access found stopped
    (λ next. along c.args.frames c.args.kind fault access found stopped next (indices_below place.level c.args.page))
    c.args.entry c.in-Leaf.base c.in-Leaf.rights place.level c.args.page c.in-Some.frame c.in-Leaf.is c.in-Some.ensures.value (omega (arith, c.from.ensures, c.if-frame-from.true))

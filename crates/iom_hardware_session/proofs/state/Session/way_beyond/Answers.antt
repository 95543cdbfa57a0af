use Rattle.iom_ledger.specs.History.{May}
use Rattle.iom_reach.specs.Ways.{Way}
use Rattle.iom_hardware_session.proofs.WayLemmas.{both_kinds}
use Rattle.iom_hardware_session.proofs.state.Session.way_beyond.Goals as goal

pub returns-then-exceeds-clause-beyond : goal.returns-then-exceeds-clause-beyond
returns-then-exceeds-clause-beyond c = λ claimed shows. c.exceeds.ensures.beyond claimed shows c.if-exceeds.true

pub returns-then-exceeds-2-clause-beyond : goal.returns-then-exceeds-2-clause-beyond
returns-then-exceeds-2-clause-beyond c = λ claimed shows. c.exceeds-2.ensures.beyond claimed shows c.if-exceeds-2.true

pub returns-clause-within : goal.returns-clause-within
returns-clause-within c = λ scene claimed surveys shows is.
    both_kinds (λ kind. Way scene c.args.device c.args.frame kind → May claimed.history c.args.device c.args.frame kind)
    (c.exceeds.ensures.within scene claimed surveys shows c.if-exceeds.false)
    (c.exceeds-2.ensures.within scene claimed surveys shows c.if-exceeds-2.false)

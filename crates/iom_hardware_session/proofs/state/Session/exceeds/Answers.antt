use Rattle.std.proofs.Common.{◌∙◌, sym}
use Rattle.iom_hardware_session.proofs.WayLemmas.{no_both}
use Rattle.iom_hardware_session.proofs.state.Session.exceeds.Goals as goal

pub returns-else-reaches-clause-within : goal.returns-else-reaches-clause-within
returns-else-reaches-clause-within c = λ scene claimed surveys shows is way.
    absurd (no_both _ (surveys.reached c.args.device c.args.frame c.args.kind way) (rw c.from.ensures at (sym c.reaches.ensures ∙ c.if-reaches.false)))

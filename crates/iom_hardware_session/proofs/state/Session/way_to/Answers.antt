use Rattle.std.proofs.Common.{◌∙◌, sym}
use Rattle.iom_reach.specs.Ways.{Way}
use Rattle.iom_hardware_session.proofs.WayLemmas.{both_kinds, no_both}
use Rattle.iom_hardware_session.proofs.state.Session.way_to.Goals as goal

pub returns-clause-none : goal.returns-clause-none
returns-clause-none c = λ scene surveys is.
    both_kinds (λ kind. ¬ Way scene c.args.device c.args.frame kind)
    (λ way. no_both _ (surveys.reached c.args.device c.args.frame _ way) (rw c.from-frame.ensures at (sym c.reaches.ensures ∙ c.if-reaches.false)))
    (λ way. no_both _ (surveys.reached c.args.device c.args.frame _ way) (rw c.from-frame.ensures at (sym c.reaches-2.ensures ∙ c.if-reaches-2.false)))

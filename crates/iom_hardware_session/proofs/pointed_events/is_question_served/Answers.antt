use Rattle.std.proofs.Common.{◌∙◌, sym}
use Rattle.iom_hardware_session.proofs.PointedEventLemmas.{question_served}
use Rattle.iom_hardware_session.proofs.pointed_events.is_question_served.Goals as goal

pub returns-then-context : goal.returns-then-context
returns-then-context c =
    question_served c.args.hardware.now c.args.device c.in-Some.context c.kind_of.result c.is_some.result (sym c.context_of.ensures ∙ c.in-Some.is) c.if-context.true
    c.kind_of.ensures c.is_some.ensures

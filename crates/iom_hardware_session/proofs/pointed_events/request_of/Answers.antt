use Rattle.std.proofs.Common.{IfNone, sym, subst}
use Rattle.iom_hardware_session.specs.EventsPointed.{IsRequestOf}
use Rattle.iom_machine.specs.declared.event.Event.{Event}
use Rattle.iom_stepped_requests.specs.declared.request.Request.{Request}
use Rattle.iom_hardware_session.proofs.pointed_events.request_of.Goals as goal

pub returns-in-Deliver-clause-none : goal.returns-in-Deliver-clause-none
returns-in-Deliver-clause-none c =
    subst (λ (event : Event). IfNone c.asked_at.result ((request : Request) → ¬ IsRequestOf c.args.hardware.now event request)) (sym c.in-Deliver.is) c.asked_at.ensures.none
